use Rattle.std.proofs.Common.{◌≡◌}
use Rattle.pulsar_consumer.proofs.kept.in_order.Given as goal

abbrev pub invariant-loop-id : goal.invariant-loop-id
invariant-loop-id l = l.ids.items ≡ l.yielded
