use Rattle.std.proofs.Common.{◌-◌}
use Rattle.pulsar_wire.proofs.Varints.{Reads}
use Rattle.pulsar_wire.proofs.encoding.field.read_long_varint.Given as goal

abbrev pub invariant-loop : goal.invariant-loop
invariant-loop l = Reads l.bytes (9 - l.counter) l.rest l.value l.scale
