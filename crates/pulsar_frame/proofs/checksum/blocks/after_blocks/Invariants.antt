use Rattle.std.proofs.Common.{◌≡◌, drop, length}
use Rattle.pulsar_frame.specs.Checksum.{after}
use Rattle.pulsar_frame.proofs.checksum.blocks.after_blocks.Given as goal

-- the rest of the way is the whole way
abbrev pub invariant-loop-block : goal.invariant-loop-block
invariant-loop-block l = after l.state l.rest ≡ after l.fn.state l.fn.bytes

abbrev pub decreases-loop-block : goal.decreases-loop-block
decreases-loop-block l = length l.rest

abbrev pub invariant-loop-b : goal.invariant-loop-b
invariant-loop-b l = after l.state (drop l.b-index l.b-items) ≡ after l.fn.state l.fn.bytes
