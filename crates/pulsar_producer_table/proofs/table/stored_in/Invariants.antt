use Rattle.std.proofs.Common.{◌≡◌, map, take}
use Rattle.std.specs.BTreeMap.{get}
use Rattle.std.specs.List.{flat_map}
use Rattle.std.specs.Ordering.{nat_cmp}
use Rattle.pulsar_producer_table.specs.Producers.{stored_at}
use Rattle.pulsar_producer_table.proofs.table.stored_in.Given as goal

abbrev pub invariant-loop-partition : goal.invariant-loop-partition
invariant-loop-partition l =
    l.all.items ≡ flat_map (λ n. stored_at (get nat_cmp l.topics n)) (map (λ q. q.number) (take l.partition-index l.partitions))
