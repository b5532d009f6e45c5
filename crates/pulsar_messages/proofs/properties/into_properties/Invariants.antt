use Rattle.std.proofs.Common.{◌≡◌, map}
use Rattle.pulsar_wire.specs.Views.{key_value_values}
use Rattle.pulsar_messages.specs.Content.{property}
use Rattle.pulsar_messages.specs.Messages.{properties_values}
use Rattle.pulsar_messages.proofs.properties.into_properties.Given as goal

abbrev pub invariant-loop-key : goal.invariant-loop-key
invariant-loop-key l = map key_value_values l.pairs.items ≡ properties_values (map property l.yielded)
