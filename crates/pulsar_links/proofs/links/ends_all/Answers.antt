use Rattle.std.proofs.Common.{◌∙◌, ap, map}
use Rattle.std.proofs.lemmas.Map.Iter.{iter_end}
use Rattle.std.specs.Map.Iter.{deref_pair}
use Rattle.pulsar_links.proofs.Timing.{stop_all, stops_it}
use Rattle.pulsar_links.proofs.links.ends_all.Goals as goal

pub returns-clause-ends : goal.returns-clause-ends
returns-clause-ends c =
    let live = c.args.live.now in
    let gives = c.into_iter-link-iterator.ensures.into_iter_gives in
    let whole = iter_end deref_pair live.entries c.loop-link.yielded _ _ _ _ gives.0 c.loop-link.yielded_by c.in-None.is c.next.ensures.steps in
    c.loop-link.invariant ∙ ap (map stops_it) whole.0 ∙ stop_all live gives.5
