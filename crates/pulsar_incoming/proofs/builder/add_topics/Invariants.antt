use Rattle.std.proofs.Common.{◌≡◌, ◌++◌, map, take}
use Rattle.std.specs.Prelude.{string_bytes}
use Rattle.pulsar_incoming.proofs.builder.add_topics.Given as goal

abbrev pub invariant-loop-topic : goal.invariant-loop-topic
invariant-loop-topic l = map string_bytes l.topics.items ≡ map string_bytes l.fn.topics.items ++ map string_bytes (take l.topic-index l.more)
