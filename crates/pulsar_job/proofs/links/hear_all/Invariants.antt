use Rattle.std.proofs.Common.{map}
use Rattle.pulsar_shared.specs.Trace.{history}
use Rattle.pulsar_work.specs.Calls.{Work}
use Rattle.pulsar_job.specs.Driven.{Goes, link_now}
use Rattle.pulsar_job.proofs.links.hear_all.Given as goal

abbrev pub invariant-loop-link : goal.invariant-loop-link
invariant-loop-link g l =
    (w : Work) → Goes w (history l.fn.kept.traced.trace.items) (history l.kept.traced.trace.items) l.fn.progress l.progress
    (map (link_now g.I.Input.given g.I.Input.faults g.O.Output.taken g.O.Output.faults) l.fn.links.items)
    (map (link_now g.I.Input.given g.I.Input.faults g.O.Output.taken g.O.Output.faults) l.link-items)
