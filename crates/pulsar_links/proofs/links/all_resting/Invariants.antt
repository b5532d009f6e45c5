use Rattle.std.proofs.Common.{◌≡◌, map}
use Rattle.std.specs.List.{flat_map}
use Rattle.std.specs.Map.Iter.{deref_pair}
use Rattle.pulsar_links.specs.Kept.{seat_of}
use Rattle.pulsar_links.specs.LinkRules.{resting_at}
use Rattle.pulsar_links.proofs.links.all_resting.Given as goal

abbrev pub invariant-loop-link : goal.invariant-loop-link
invariant-loop-link l = l.links.items ≡ flat_map (λ e. resting_at l.now l.most e.0 (seat_of e.1)) (map deref_pair l.yielded)
