use Rattle.std.proofs.Common.{◌≡◌, drop}
use Rattle.pulsar_consumer.specs.Redelivery.{forget_all}
use Rattle.pulsar_consumer.proofs.kept.KeptIds.remove_all.Given as goal

abbrev pub invariant-loop-id : goal.invariant-loop-id
invariant-loop-id l = forget_all (drop l.id-index l.ids) l.self ≡ forget_all l.fn.ids l.fn.self
