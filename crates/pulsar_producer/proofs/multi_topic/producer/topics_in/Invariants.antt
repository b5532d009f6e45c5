use Rattle.std.proofs.Common.{◌≡◌, map, string_bytes}
use Rattle.std.specs.Map.Iter.{deref_pair}
use Rattle.pulsar_producer.specs.MultiKept.{named}
use Rattle.pulsar_producer.proofs.multi_topic.producer.topics_in.Given as goal

abbrev pub invariant-loop-name : goal.invariant-loop-name
invariant-loop-name l = map string_bytes l.names.items ≡ map (λ e. e.0) (map named (map deref_pair l.yielded))
