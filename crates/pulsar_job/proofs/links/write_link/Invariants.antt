use Rattle.std.proofs.Common.{List, ◌∷◌, ◌++◌}
use Rattle.pulsar_shared.specs.Trace.{history}
use Rattle.pulsar_work.specs.Calls.{Work}
use Rattle.pulsar_job.specs.Driven.{Goes, LinkNow, link_now}
use Rattle.pulsar_job.proofs.links.write_link.Given as goal

abbrev pub invariant-loop : goal.invariant-loop
invariant-loop g l =
    (goal.iterator-loop g).can_next l.iterator' × (goal.iterator-loop g).is_finite l.iterator'
    × ((w : Work) (before behind : List LinkNow) → Goes w (history l.fn.kept.traced.trace.items) (history l.kept.traced.trace.items) l.fn.progress l.progress
    (before ++ link_now g.I.Input.given g.I.Input.faults g.O.Output.taken g.O.Output.faults l.fn.link ∷ behind)
    (before ++ link_now g.I.Input.given g.I.Input.faults g.O.Output.taken g.O.Output.faults l.link ∷ behind))
