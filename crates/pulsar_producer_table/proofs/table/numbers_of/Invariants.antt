use Rattle.std.proofs.Common.{◌≡◌, map, take}
use Rattle.pulsar_producer_table.proofs.table.numbers_of.Given as goal

abbrev pub invariant-loop-partition : goal.invariant-loop-partition
invariant-loop-partition l = l.numbers ≡ map (λ q. q.number) (take l.partition-index l.partitions)
