use Rattle.std.proofs.lemmas.List.{nil_from_length}
use Rattle.std.proofs.Common.{arith}
use Rattle.pulsar_wire.proofs.Varints.{varint-one, varint-none}
use Rattle.pulsar_wire.proofs.encoding.field.read_varint.Goals as goal

pub returns-in_err-b : goal.returns-in_err-b
returns-in_err-b c = rw c.from_residual.ensures (varint-none c.args.bytes.now (nil_from_length _ c.in_err-b.ensures.cases))

pub returns-then-b-lt128 : goal.returns-then-b-lt128
returns-then-b-lt128 c = varint-one c.args.bytes.now c.in_ok-b.rest.now c.in_ok-b.b.now c.from.result (omega (arith, c.if-b-lt128.true, c.from.ensures)) c.from.ensures c.in_ok-b.ensures.cases.0
