use Rattle.std.proofs.Common.{◌≡◌, map, take}
use Rattle.pulsar_wire.proofs.encoding.copying.copy_values.Given as goal

abbrev pub invariant-loop-value : goal.invariant-loop-value
invariant-loop-value g l = map g.P.Plain.content_of l.copies.items ≡ map g.P.Plain.content_of (take l.value-index l.values.items)
