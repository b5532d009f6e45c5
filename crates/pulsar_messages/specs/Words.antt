-- What is asked of one connection: a row for each request of a user, and for what a connection or a client asks for by itself
-- (a pong, the answer to a challenge, the close of a consumer whose answer no call waits for). A producer or a consumer is named
-- by the number that its owner gave it.
use Rattle.std.specs.Prelude.{ℕ, Bool, true, false, List, Option, if◌then◌else◌}
use Rattle.pulsar_wire.specs.Row.{Values}
use Rattle.pulsar_wire.specs.Rows as rows
use Rattle.pulsar_wire.specs.declared.commands.enumerations.SubType.{SubType}
use Rattle.pulsar_wire.specs.declared.commands.topics.Mode.{Mode}
use Rattle.pulsar_messages.specs.Content.{AuthenticationValues, ConsumerOptionsValues, ProducerMessageValues, ProducerOptionsValues}

pub data Words : Type 0 where
  SendPing : Words
  SendPong : Words
  AuthChallenge : (auth : AuthenticationValues) → Words
  LookupTopic : (topic : List ℕ) (authoritative : Bool) → Words
  LookupPartitionedTopic : (topic : List ℕ) → Words
  GetTopicsOfNamespace : (namespace : List ℕ) (mode : Mode) → Words
  GetSchema : (topic : List ℕ) (version : Option (List ℕ)) → Words
  CreateProducer : (topic : List ℕ) (producer : ℕ) (name : Option (List ℕ)) (options : ProducerOptionsValues) → Words
  Send : (producer : ℕ) (name : List ℕ) (sequence : ℕ) (message : ProducerMessageValues) (block : Bool) → Words
  CloseProducer : (producer : ℕ) → Words
  Subscribe : (topic subscription : List ℕ) (sub_type : SubType) (consumer : ℕ) (name : Option (List ℕ))
      (options : ConsumerOptionsValues) → Words
  SendFlow : (consumer permits : ℕ) → Words
  SendAck : (consumer : ℕ) (ids : List (Values rows.message_id)) (cumulative : Bool) → Words
  SendRedeliver : (consumer : ℕ) (ids : List (Values rows.message_id)) → Words
  Seek : (consumer : ℕ) (id : Option (Values rows.message_id)) (time : Option ℕ) → Words
  GetLastMessageId : (consumer : ℕ) → Words
  GetConsumerStats : (consumer : ℕ) → Words
  Unsubscribe : (consumer : ℕ) → Words
  CloseConsumer : (consumer : ℕ) → Words
  CloseConsumerUnawaited : (consumer : ℕ) → Words

-- it carries a request number, which its connection draws  (PulsarApi.proto, the fields request_id)
abbrev pub is_numbered : Words → Bool
is_numbered SendPing = false
is_numbered SendPong = false
is_numbered (AuthChallenge auth) = false
is_numbered (LookupTopic topic authoritative) = true
is_numbered (LookupPartitionedTopic topic) = true
is_numbered (GetTopicsOfNamespace namespace mode) = true
is_numbered (GetSchema topic version) = true
is_numbered (CreateProducer topic producer name options) = true
is_numbered (Send producer name sequence message block) = false
is_numbered (CloseProducer producer) = true
is_numbered (Subscribe topic subscription sub_type consumer name options) = true
is_numbered (SendFlow consumer permits) = false
is_numbered (SendAck consumer ids cumulative) = false
is_numbered (SendRedeliver consumer ids) = false
is_numbered (Seek consumer id time) = true
is_numbered (GetLastMessageId consumer) = true
is_numbered (GetConsumerStats consumer) = true
is_numbered (Unsubscribe consumer) = true
is_numbered (CloseConsumer consumer) = true
is_numbered (CloseConsumerUnawaited consumer) = true

-- where a connection has no room: wait in its line, refuse, or drop
pub data WhenFull : Type 0 where
  Wait : WhenFull
  Refuse : WhenFull
  Drop : WhenFull

-- all wait for room, but pongs, which may be lost, and sends that are not to block
abbrev pub when_full : Words → WhenFull
when_full SendPing = Wait
when_full SendPong = Drop
when_full (AuthChallenge auth) = Wait
when_full (LookupTopic topic authoritative) = Wait
when_full (LookupPartitionedTopic topic) = Wait
when_full (GetTopicsOfNamespace namespace mode) = Wait
when_full (GetSchema topic version) = Wait
when_full (CreateProducer topic producer name options) = Wait
when_full (Send producer name sequence message block) = if block then Wait else Refuse
when_full (CloseProducer producer) = Wait
when_full (Subscribe topic subscription sub_type consumer name options) = Wait
when_full (SendFlow consumer permits) = Wait
when_full (SendAck consumer ids cumulative) = Wait
when_full (SendRedeliver consumer ids) = Wait
when_full (Seek consumer id time) = Wait
when_full (GetLastMessageId consumer) = Wait
when_full (GetConsumerStats consumer) = Wait
when_full (Unsubscribe consumer) = Wait
when_full (CloseConsumer consumer) = Wait
when_full (CloseConsumerUnawaited consumer) = Wait
