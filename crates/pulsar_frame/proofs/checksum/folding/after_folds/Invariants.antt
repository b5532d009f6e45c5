use Rattle.std.proofs.Common.{◌≡◌, length}
use Rattle.pulsar_frame.specs.Checksum.{after}
use Rattle.pulsar_frame.specs.Residue.{residue}
use Rattle.pulsar_frame.proofs.checksum.folding.after_folds.Given as goal

-- the rest of the way is the whole way
abbrev pub invariant-loop-block : goal.invariant-loop-block
invariant-loop-block l = after (residue l.window) l.rest ≡ after (after l.fn.state l.fn.first) l.fn.rest

abbrev pub decreases-loop-block : goal.decreases-loop-block
decreases-loop-block l = length l.rest
