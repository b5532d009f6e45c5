use Rattle.std.proofs.Common.{◌≡◌}
use Rattle.pulsar_run.specs.Order.{put_all}
use Rattle.pulsar_calls.specs.Order.{below}
use Rattle.pulsar_agenda.specs.Agenda.{agenda_of}
use Rattle.pulsar_acts.proofs.tables.Tables.tells_all.Given as goal

abbrev pub invariant-loop-notice : goal.invariant-loop-notice
invariant-loop-notice l = agenda_of l.tasks ≡ record (agenda_of l.fn.tasks) { here = put_all below l.yielded l.fn.tasks.here }
