-- What is known of a request from its words.  (Pulsar binary protocol, Simple commands)
use Rattle.std.specs.Prelude.{ℕ, Bool, List, Option, Some, None, ◌==◌, if◌then◌else◌}
use Rattle.std.specs.Option.{is_some}
use Rattle.pulsar_wire.specs.declared.commands.enumerations.SubType.{SubType}
use Rattle.pulsar_frame.specs.Key.{answers}
use Rattle.pulsar_messages.specs.Content.{ConsumerOptionsValues}
use Rattle.pulsar_messages.specs.Messages.{body_of}
use Rattle.pulsar_messages.specs.Words.{Words, SendPing, SendPong, AuthChallenge, LookupTopic, LookupPartitionedTopic, GetTopicsOfNamespace, GetSchema, CreateProducer, Send, CloseProducer, Subscribe, SendFlow, SendAck, SendRedeliver, Seek, GetLastMessageId, GetConsumerStats, Unsubscribe, CloseConsumer, CloseConsumerUnawaited}
use Rattle.pulsar_messages.specs.Claims.{claim}

-- the number of its body, which its request number doesn't change
abbrev pub request_number : Words → ℕ
request_number words = (body_of 0 words).number

-- the body that answers the body of this number: a pong a ping, and the others as the table of pulsar_frame says
abbrev pub answer_of : (request : ℕ) → Option ℕ
answer_of request = if request == 18 then Some 19 else answers request

abbrev pub is_answered : (request : ℕ) → Bool
is_answered request = is_some (answer_of request)

-- whether its answer is waited for: the close of a consumer has an answer, and may be asked for by nobody who waits
abbrev pub is_awaited : Words → Bool
is_awaited words = is_some (claim 0 words)

-- the consumer that it closes, by its number
abbrev pub closed_consumer : Words → Option ℕ
closed_consumer SendPing = None
closed_consumer SendPong = None
closed_consumer (AuthChallenge auth) = None
closed_consumer (LookupTopic topic authoritative) = None
closed_consumer (LookupPartitionedTopic topic) = None
closed_consumer (GetTopicsOfNamespace namespace mode) = None
closed_consumer (GetSchema topic version) = None
closed_consumer (CreateProducer topic producer name options) = None
closed_consumer (Send producer name sequence message block) = None
closed_consumer (CloseProducer producer) = None
closed_consumer (Subscribe topic subscription sub_type consumer name options) = None
closed_consumer (SendFlow consumer permits) = None
closed_consumer (SendAck consumer ids cumulative) = None
closed_consumer (SendRedeliver consumer ids) = None
closed_consumer (Seek consumer id time) = None
closed_consumer (GetLastMessageId consumer) = None
closed_consumer (GetConsumerStats consumer) = None
closed_consumer (Unsubscribe consumer) = None
closed_consumer (CloseConsumer consumer) = Some consumer
closed_consumer (CloseConsumerUnawaited consumer) = Some consumer

-- the producer that it names, by its number
abbrev pub named_producer : Words → Option ℕ
named_producer SendPing = None
named_producer SendPong = None
named_producer (AuthChallenge auth) = None
named_producer (LookupTopic topic authoritative) = None
named_producer (LookupPartitionedTopic topic) = None
named_producer (GetTopicsOfNamespace namespace mode) = None
named_producer (GetSchema topic version) = None
named_producer (CreateProducer topic producer name options) = Some producer
named_producer (Send producer name sequence message block) = Some producer
named_producer (CloseProducer producer) = Some producer
named_producer (Subscribe topic subscription sub_type consumer name options) = None
named_producer (SendFlow consumer permits) = None
named_producer (SendAck consumer ids cumulative) = None
named_producer (SendRedeliver consumer ids) = None
named_producer (Seek consumer id time) = None
named_producer (GetLastMessageId consumer) = None
named_producer (GetConsumerStats consumer) = None
named_producer (Unsubscribe consumer) = None
named_producer (CloseConsumer consumer) = None
named_producer (CloseConsumerUnawaited consumer) = None

-- the consumer that it names, by its number
abbrev pub named_consumer : Words → Option ℕ
named_consumer SendPing = None
named_consumer SendPong = None
named_consumer (AuthChallenge auth) = None
named_consumer (LookupTopic topic authoritative) = None
named_consumer (LookupPartitionedTopic topic) = None
named_consumer (GetTopicsOfNamespace namespace mode) = None
named_consumer (GetSchema topic version) = None
named_consumer (CreateProducer topic producer name options) = None
named_consumer (Send producer name sequence message block) = None
named_consumer (CloseProducer producer) = None
named_consumer (Subscribe topic subscription sub_type consumer name options) = Some consumer
named_consumer (SendFlow consumer permits) = Some consumer
named_consumer (SendAck consumer ids cumulative) = Some consumer
named_consumer (SendRedeliver consumer ids) = Some consumer
named_consumer (Seek consumer id time) = Some consumer
named_consumer (GetLastMessageId consumer) = Some consumer
named_consumer (GetConsumerStats consumer) = Some consumer
named_consumer (Unsubscribe consumer) = Some consumer
named_consumer (CloseConsumer consumer) = Some consumer
named_consumer (CloseConsumerUnawaited consumer) = Some consumer

-- a consumer that is made: all that is said of it
pub record Subscribed : Type 0 where
  pub topic : List ℕ
  pub subscription : List ℕ
  pub sub_type : SubType
  pub consumer : ℕ
  pub name : Option (List ℕ)
  pub options : ConsumerOptionsValues

-- the consumer that its success makes
abbrev pub subscribed : Words → Option Subscribed
subscribed SendPing = None
subscribed SendPong = None
subscribed (AuthChallenge auth) = None
subscribed (LookupTopic topic authoritative) = None
subscribed (LookupPartitionedTopic topic) = None
subscribed (GetTopicsOfNamespace namespace mode) = None
subscribed (GetSchema topic version) = None
subscribed (CreateProducer topic producer name options) = None
subscribed (Send producer name sequence message block) = None
subscribed (CloseProducer producer) = None
subscribed (Subscribe topic subscription sub_type consumer name options) =
    Some (record { topic = topic; subscription = subscription; sub_type = sub_type; consumer = consumer; name = name; options = options })
subscribed (SendFlow consumer permits) = None
subscribed (SendAck consumer ids cumulative) = None
subscribed (SendRedeliver consumer ids) = None
subscribed (Seek consumer id time) = None
subscribed (GetLastMessageId consumer) = None
subscribed (GetConsumerStats consumer) = None
subscribed (Unsubscribe consumer) = None
subscribed (CloseConsumer consumer) = None
subscribed (CloseConsumerUnawaited consumer) = None
