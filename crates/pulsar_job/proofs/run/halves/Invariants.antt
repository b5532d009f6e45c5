use Rattle.std.proofs.Common.{◌≡◌, ◌++◌, length, map}
use Rattle.std.specs.Vec.Iter.{into_iter_items, into_iter_len}
use Rattle.pulsar_job.specs.Driven.{link_now, seen_of}
use Rattle.pulsar_job.specs.Links.{link_seen}
use Rattle.pulsar_job.proofs.run.halves.Given as goal

abbrev pub invariant-loop-link : goal.invariant-loop-link
invariant-loop-link g l =
    (map (link_seen g.I.Input.given g.I.Input.faults g.O.Output.taken g.O.Output.faults) l.halves.items ++ seen_of (map (link_now g.I.Input.given g.I.Input.faults g.O.Output.taken g.O.Output.faults) (into_iter_items l.link-iterator))
    ≡ seen_of (map (link_now g.I.Input.given g.I.Input.faults g.O.Output.taken g.O.Output.faults) l.fn.links.items))
    × (into_iter_len l.link-iterator ≡ length (into_iter_items l.link-iterator))
