use Rattle.std.proofs.Common.{◌≡◌, map, take}
use Rattle.std.specs.BTreeMap.{get}
use Rattle.std.specs.Ordering.{nat_cmp}
use Rattle.pulsar_producer_table.specs.Producers.{Producers, shut_all}
use Rattle.pulsar_producer_table.proofs.table.close_all.Given as goal

abbrev pub invariant-loop-partition : goal.invariant-loop-partition
invariant-loop-partition l =
    (ps : Producers) → ps.topics ≡ get nat_cmp l.fn.topics →
    shut_all (map (λ q. q.number) (take l.partition-index l.partitions)) ps ≡ record ps { topics = get nat_cmp l.topics }
