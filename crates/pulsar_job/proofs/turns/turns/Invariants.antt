use Rattle.std.proofs.Common.{◌≡◌, false, map}
use Rattle.pulsar_shared.specs.Trace.{history}
use Rattle.pulsar_work.specs.Asking.{work_in}
use Rattle.pulsar_job.specs.Driven.{edge_now, link_now}
use Rattle.pulsar_job.proofs.Turning.{Turns}
use Rattle.pulsar_job.proofs.turns.turns.Given as goal

abbrev pub invariant-loop : goal.invariant-loop
invariant-loop g l =
    (goal.iterator-loop g).can_next l.iterator' × (goal.iterator-loop g).is_finite l.iterator'
    × (l.fn.progress.stopped ≡ false → Turns (work_in l.task) (history l.fn.kept.traced.trace.items) (history l.kept.traced.trace.items) l.fn.progress l.progress
    (map (link_now g.E.Input.Input.given g.E.Input.Input.faults g.E.Output.Output.taken g.E.Output.Output.faults) l.fn.links.items)
    (map (link_now g.E.Input.Input.given g.E.Input.Input.faults g.E.Output.Output.taken g.E.Output.Output.faults) l.links.items)
    (edge_now g.E.Edge.failures g.E.Edge.first g.E.Edge.greatest l.fn.edge) (edge_now g.E.Edge.failures g.E.Edge.first g.E.Edge.greatest l.edge))
