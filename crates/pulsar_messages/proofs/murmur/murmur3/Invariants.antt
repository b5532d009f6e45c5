use Rattle.std.proofs.Common.{◌≡◌, length}
use Rattle.pulsar_messages.specs.Murmur.{with_bytes}
use Rattle.pulsar_messages.proofs.murmur.murmur3.Given as goal

-- what is left gives the same hash
abbrev pub invariant-loop-block : goal.invariant-loop-block
invariant-loop-block l = with_bytes l.hash l.rest ≡ with_bytes 0 l.bytes

abbrev pub decreases-loop-block : goal.decreases-loop-block
decreases-loop-block l = length l.rest
