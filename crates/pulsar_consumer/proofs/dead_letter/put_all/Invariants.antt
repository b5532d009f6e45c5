use Rattle.std.proofs.Common.{◌≡◌, map}
use Rattle.pulsar_wire.specs.Views.{key_value_values}
use Rattle.pulsar_messages.specs.Content.{property}
use Rattle.pulsar_consumer.specs.DeadLetters.{with_properties}
use Rattle.pulsar_consumer.proofs.dead_letter.put_all.Given as goal

abbrev pub invariant-loop-pair : goal.invariant-loop-pair
invariant-loop-pair l = map property l.properties.entries ≡ with_properties (map key_value_values l.yielded) (map property l.fn.properties.entries)
