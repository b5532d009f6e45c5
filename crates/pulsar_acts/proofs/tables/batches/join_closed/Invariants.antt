use Rattle.std.proofs.Common.{◌≡◌, map}
use Rattle.pulsar_run.specs.Order.{put_all}
use Rattle.pulsar_plans.specs.Plan.{closed_notice}
use Rattle.pulsar_calls.specs.Order.{below}
use Rattle.pulsar_agenda.specs.Agenda.{agenda_of}
use Rattle.pulsar_acts.proofs.tables.batches.join_closed.Given as goal

abbrev pub invariant-loop-ticket : goal.invariant-loop-ticket
invariant-loop-ticket l =
    agenda_of l.tasks ≡ record (agenda_of l.fn.tasks) { here = put_all below (map closed_notice l.yielded) l.fn.tasks.here }
