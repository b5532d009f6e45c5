use Rattle.std.proofs.Common.{◌≡◌, ◌||◌, map}
use Rattle.std.specs.BTreeSet.{contains}
use Rattle.std.specs.List.{list_any}
use Rattle.pulsar_wire.specs.Orders.{id_order}
use Rattle.pulsar_consumer.specs.Redelivery.{Id, is_same_id}
use Rattle.pulsar_consumer.proofs.kept.add_all.Given as goal

abbrev pub invariant-loop-id : goal.invariant-loop-id
invariant-loop-id l = (i : Id) → contains id_order l.found i ≡ (contains id_order l.fn.found i || list_any (is_same_id i) (map (λ x. x.now) l.yielded))
