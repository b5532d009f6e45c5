use Rattle.std.proofs.Common.{◌≡◌}
use Rattle.std.specs.BTreeSet.{contains}
use Rattle.std.specs.List.{list_any}
use Rattle.pulsar_wire.specs.Orders.{id_order}
use Rattle.pulsar_consumer.specs.Redelivery.{Id}
use Rattle.pulsar_consumer.proofs.kept.KeptIds.due.Given as goal

abbrev pub invariant-loop-ids : goal.invariant-loop-ids
invariant-loop-ids l = (i : Id) → contains id_order l.found i ≡ list_any (λ e. contains id_order e.1.now i) l.yielded
