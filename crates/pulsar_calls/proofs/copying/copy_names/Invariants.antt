use Rattle.std.proofs.Common.{◌≡◌, map, take}
use Rattle.pulsar_addresses.specs.Address.{named}
use Rattle.pulsar_calls.proofs.copying.copy_names.Given as goal

abbrev pub invariant-loop-name : goal.invariant-loop-name
invariant-loop-name l = map named l.copy.items ≡ map named (take l.name-index l.names)
