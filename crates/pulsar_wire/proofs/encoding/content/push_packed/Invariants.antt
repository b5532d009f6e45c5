use Rattle.std.proofs.Common.{◌≡◌, length}
use Rattle.pulsar_wire.specs.Row.{varints}
use Rattle.pulsar_wire.specs.Merge.{with_numbers}
use Rattle.pulsar_wire.proofs.encoding.content.push_packed.Given as goal

abbrev pub invariant-loop-rest : goal.invariant-loop-rest
invariant-loop-rest l = with_numbers l.slot.items (varints l.rest) ≡ with_numbers l.fn.slot.items (varints l.bytes)

abbrev pub decreases-loop-rest : goal.decreases-loop-rest
decreases-loop-rest l = length l.rest
