-- What a user asks of one connection, by its content: a text is the list of its bytes, a map the list of its entries in key order.
use Rattle.std.specs.Prelude.{map, string_bytes}
use Rattle.std.specs.Option.{option_map}
use Rattle.pulsar_wire.specs.Views.{message_id_values}
use Rattle.pulsar_messages.specs.Content.{authentication_values, consumer_options_values, producer_message_values, producer_options_values}
use Rattle.pulsar_messages.specs.Words.{Words, SendPing, AuthChallenge, LookupTopic, LookupPartitionedTopic, GetTopicsOfNamespace, GetSchema, CreateProducer, Send, CloseProducer, Subscribe, SendFlow, SendAck, SendRedeliver, Seek, GetLastMessageId, GetConsumerStats, Unsubscribe, CloseConsumer, CloseConsumerUnawaited}
use Rattle.pulsar_exchange.specs.Request.{Subscribed}
use Rattle.pulsar_exchange.specs.declared.content.Kind.{Kind}
use Rattle.pulsar_exchange.specs.declared.content.Kind.TheVariants as kind
use Rattle.pulsar_exchange.specs.declared.raw_call.RawCall.{RawCall}
use Rattle.pulsar_exchange.specs.declared.raw_call.RawCall.TheVariants as raw
use Rattle.pulsar_exchange.specs.declared.raw_call.Subscription.{Subscription}

abbrev pub words_of : RawCall → Words
words_of (raw.Send producer name sequence message block) =
    Send producer (string_bytes name) sequence (producer_message_values message) block
words_of raw.SendPing = SendPing
words_of (raw.LookupTopic topic authoritative) = LookupTopic (string_bytes topic) authoritative
words_of (raw.LookupPartitionedTopic topic) = LookupPartitionedTopic (string_bytes topic)
words_of (raw.GetConsumerStats consumer) = GetConsumerStats consumer
words_of (raw.GetLastMessageId consumer) = GetLastMessageId consumer
words_of (raw.CreateProducer topic producer name options) =
    CreateProducer (string_bytes topic) producer (option_map string_bytes name) (producer_options_values options)
words_of (raw.GetTopicsOfNamespace namespace mode) = GetTopicsOfNamespace (string_bytes namespace) mode
words_of (raw.CloseProducer producer) = CloseProducer producer
words_of (raw.Subscribe topic subscription sub_type consumer name options) =
    Subscribe (string_bytes topic) (string_bytes subscription) sub_type consumer (option_map string_bytes name)
    (consumer_options_values options)
words_of (raw.SendFlow consumer permits) = SendFlow consumer permits
words_of (raw.SendAck consumer ids cumulative) = SendAck consumer (map message_id_values ids.items) cumulative
words_of (raw.SendRedeliver consumer ids) = SendRedeliver consumer (map message_id_values ids.items)
words_of (raw.CloseConsumer consumer) = CloseConsumer consumer
words_of (raw.Seek consumer id time) = Seek consumer (option_map message_id_values id) time
words_of (raw.Unsubscribe consumer) = Unsubscribe consumer
words_of (raw.AuthChallenge auth) = AuthChallenge (authentication_values auth)
words_of (raw.GetSchema topic version) = GetSchema (string_bytes topic) (option_map (λ v. v.items) version)

-- a request is such a call, or the close of a consumer for which nobody waits
abbrev pub words_in : Kind → Words
words_in (kind.Call call) = words_of call.value
words_in (kind.Closing consumer) = CloseConsumerUnawaited consumer

-- a consumer that is made
abbrev pub subscribed_by : Subscription → Subscribed
subscribed_by s =
    record {
      topic = string_bytes s.topic;
      subscription = string_bytes s.subscription;
      sub_type = s.sub_type;
      consumer = s.consumer;
      name = option_map string_bytes s.name;
      options = consumer_options_values s.options;
    }
