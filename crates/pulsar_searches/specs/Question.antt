-- What a plan asks of a broker, by its content.  (Pulsar binary protocol, Topic lookup; Producer; Consumer)
use Rattle.std.specs.Prelude.{string_bytes}
use Rattle.std.specs.Option.{option_map}
use Rattle.pulsar_messages.specs.Content.{consumer_options_values, producer_options_values}
use Rattle.pulsar_messages.specs.Words.{Words, CreateProducer, LookupPartitionedTopic, LookupTopic, Subscribe}
use Rattle.pulsar_searches.specs.declared.question.Question.{Question}
use Rattle.pulsar_searches.specs.declared.question.Question.TheVariants as question

abbrev pub words : Question → Words
words (question.LookupTopic topic authoritative) = LookupTopic (string_bytes topic) authoritative
words (question.LookupPartitionedTopic topic) = LookupPartitionedTopic (string_bytes topic)
words (question.CreateProducer topic producer name options) =
    CreateProducer (string_bytes topic) producer (option_map string_bytes name) (producer_options_values options)
words (question.Subscribe topic subscription sub_type consumer name options) =
    Subscribe (string_bytes topic) (string_bytes subscription) sub_type consumer (option_map string_bytes name)
    (consumer_options_values options)
