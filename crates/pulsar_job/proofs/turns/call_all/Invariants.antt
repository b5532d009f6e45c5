use Rattle.std.proofs.Common.{◌≡◌, false, map}
use Rattle.pulsar_shared.specs.Trace.{history}
use Rattle.pulsar_work.specs.Asking.{work_in}
use Rattle.pulsar_job.specs.Driven.{link_now}
use Rattle.pulsar_job.proofs.Turning.{Going}
use Rattle.pulsar_job.proofs.turns.call_all.Given as goal

abbrev pub invariant-loop : goal.invariant-loop
invariant-loop g l =
    (goal.iterator-loop g).can_next l.iterator' × (goal.iterator-loop g).is_finite l.iterator'
    × (l.fn.progress.stopped ≡ false → Going (work_in l.task) (history l.fn.kept.traced.trace.items) (history l.kept.traced.trace.items) l.fn.progress l.progress
    (map (link_now g.I.Input.given g.I.Input.faults g.O.Output.taken g.O.Output.faults) l.fn.links.items)
    (map (link_now g.I.Input.given g.I.Input.faults g.O.Output.taken g.O.Output.faults) l.links.items))
