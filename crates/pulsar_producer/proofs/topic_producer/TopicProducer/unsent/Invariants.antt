use Rattle.std.proofs.Common.{◌≡◌, map}
use Rattle.std.specs.List.{flat_map}
use Rattle.pulsar_outgoing.specs.Storage.{ticket_of}
use Rattle.pulsar_producer.proofs.topic_producer.TopicProducer.unsent.Given as goal

abbrev pub invariant-loop-batch : goal.invariant-loop-batch
invariant-loop-batch l = l.tickets.items ≡ map ticket_of (flat_map (λ b. b) (map (λ r. r.now) l.yielded))
