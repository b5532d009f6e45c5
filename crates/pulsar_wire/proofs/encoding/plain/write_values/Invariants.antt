use Rattle.std.proofs.Common.{map, take}
use Rattle.std.specs.List.{flat_map, AllByRecursion}
use Rattle.pulsar_wire.specs.Fits.{FitsContent}
use Rattle.pulsar_wire.specs.Row.{entry}
use Rattle.pulsar_wire.specs.Sink.{Appends}
use Rattle.pulsar_wire.proofs.encoding.plain.write_values.Given as goal

abbrev pub invariant-loop-value : goal.invariant-loop-value
invariant-loop-value g l =
    Appends g.S.Sink.Holds l.fn.out l.out (flat_map (entry l.number g.P.Plain.kind) (map g.P.Plain.content_of (take l.value-index l.values)))
    × AllByRecursion (FitsContent g.P.Plain.kind) (map g.P.Plain.content_of (take l.value-index l.values))
