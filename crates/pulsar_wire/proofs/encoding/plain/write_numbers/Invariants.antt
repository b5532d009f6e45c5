use Rattle.std.proofs.Common.{take}
use Rattle.std.specs.List.{flat_map, AllByRecursion}
use Rattle.std.specs.Int.{w64}
use Rattle.std.specs.Prelude.{FitsSigned}
use Rattle.pulsar_wire.specs.Row.{Int64, entry}
use Rattle.pulsar_wire.specs.Sink.{Appends}
use Rattle.pulsar_wire.proofs.encoding.plain.write_numbers.Given as goal

abbrev pub invariant-loop-value : goal.invariant-loop-value
invariant-loop-value g l =
    Appends g.S.Sink.Holds l.fn.out l.out (flat_map (entry l.number Int64) (take l.value-index l.values))
    × AllByRecursion (FitsSigned w64) (take l.value-index l.values)
