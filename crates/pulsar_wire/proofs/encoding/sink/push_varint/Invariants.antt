use Rattle.std.proofs.Common.{◌-◌}
use Rattle.pulsar_wire.proofs.Numbers.{Writes}
use Rattle.pulsar_wire.proofs.encoding.sink.push_varint.Given as goal

abbrev pub invariant-loop : goal.invariant-loop
invariant-loop g l = Writes g.S.Sink.Holds l.fn.out l.out l.n (9 - l.counter) l.rest
