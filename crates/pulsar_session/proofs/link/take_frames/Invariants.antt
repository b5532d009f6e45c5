use Rattle.std.proofs.Common.{◌≡◌, ◌++◌, take, drop}
use Rattle.std.specs.List.{flat_map}
use Rattle.pulsar_session.specs.Kept.{contents}
use Rattle.pulsar_session.proofs.link.take_frames.Given as goal

abbrev pub invariant-loop-more : goal.invariant-loop-more
invariant-loop-more l = record {
  taken : l.bytes.items ++ flat_map (λ b. b) (take l.more (contents l.frames.items)) ≡ flat_map (λ b. b) (take l.most (contents l.fn.frames.items));
  rest : drop l.more (contents l.frames.items) ≡ drop l.most (contents l.fn.frames.items);
}

abbrev pub decreases-loop-more : goal.decreases-loop-more
decreases-loop-more l = l.more
