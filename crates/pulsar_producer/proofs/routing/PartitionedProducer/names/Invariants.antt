use Rattle.std.proofs.Common.{◌≡◌, map, take}
use Rattle.std.specs.Prelude.{string_bytes}
use Rattle.pulsar_producer.proofs.routing.PartitionedProducer.names.Given as goal

abbrev pub invariant-loop-partition : goal.invariant-loop-partition
invariant-loop-partition l = map string_bytes l.names.items ≡ map (λ q. q.name) (take l.partition-index l.self.partitions)
