use Rattle.std.proofs.Common.{map}
use Rattle.pulsar_shared.specs.Trace.{history}
use Rattle.pulsar_work.specs.Calls.{Work}
use Rattle.pulsar_job.specs.Driven.{Reaches, edge_now, link_now}
use Rattle.pulsar_job.proofs.links.dial_all.Given as goal

abbrev pub invariant-loop : goal.invariant-loop
invariant-loop g l =
    (goal.iterator-loop g).can_next l.iterator' × (goal.iterator-loop g).is_finite l.iterator'
    × ((w : Work) → Reaches w (history l.fn.kept.traced.trace.items) (history l.kept.traced.trace.items) l.fn.progress l.progress
    (map (link_now g.E.Input.Input.given g.E.Input.Input.faults g.E.Output.Output.taken g.E.Output.Output.faults) l.fn.links.items)
    (map (link_now g.E.Input.Input.given g.E.Input.Input.faults g.E.Output.Output.taken g.E.Output.Output.faults) l.links.items)
    (edge_now g.E.Edge.failures g.E.Edge.first g.E.Edge.greatest l.fn.edge) (edge_now g.E.Edge.failures g.E.Edge.first g.E.Edge.greatest l.edge))
