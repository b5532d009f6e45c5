use Rattle.std.proofs.Common.{◌≡◌, map}
use Rattle.pulsar_wire.specs.Views.{message_id_values}
use Rattle.pulsar_consumer.proofs.kept.into_ids.Given as goal

abbrev pub invariant-loop-id : goal.invariant-loop-id
invariant-loop-id l = map message_id_values l.ids.items ≡ l.yielded
