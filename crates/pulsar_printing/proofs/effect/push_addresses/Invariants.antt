use Rattle.std.proofs.Common.{◌≡◌, ◌++◌, take, map, length}
use Rattle.std.specs.Prelude.{string_bytes, codes}
use Rattle.std.specs.Fmt.{decimal}
use Rattle.std.specs.List.{flat_map}
use Rattle.pulsar_addresses.specs.Address.{named}
use Rattle.pulsar_printing.specs.Text.{named as printed}
use Rattle.pulsar_printing.proofs.effect.push_addresses.Given as goal

abbrev pub invariant-loop-entry : goal.invariant-loop-entry
invariant-loop-entry l = string_bytes l.out ≡ string_bytes l.fn.out ++ (codes "ok addresses " ++ decimal (length l.names) ++ flat_map printed (map named (take l.entry-index l.names)))
