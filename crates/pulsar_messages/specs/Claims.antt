-- What answers a request: the frame that it awaits, and whether it makes a producer or a consumer.
use Rattle.std.specs.Prelude.{ℕ, ◌-◌, ◌^◌, ◌==◌, Bool, true, false, Option, Some, None}
use Rattle.pulsar_messages.specs.Words.{Words, SendPing, SendPong, AuthChallenge, LookupTopic, LookupPartitionedTopic, GetTopicsOfNamespace, GetSchema, CreateProducer, Send, CloseProducer, Subscribe, SendFlow, SendAck, SendRedeliver, Seek, GetLastMessageId, GetConsumerStats, Unsubscribe, CloseConsumer, CloseConsumerUnawaited}
use Rattle.pulsar_wire.specs.declared.awaited.Awaited.TheVariants.{Pong, Reply, Receipt}
use Rattle.pulsar_wire.specs.declared.awaited.Claim.{Claim}

-- what answers it: the reply to its number, which may make a producer
abbrev pub reply_to : ℕ → Option Claim
reply_to id = Some (record { awaits = Reply id; creates = false })

abbrev pub claim : ℕ → Words → Option Claim
claim id SendPing = Some (record { awaits = Pong; creates = false })
claim id SendPong = None
claim id (AuthChallenge auth) = None
claim id (LookupTopic topic authoritative) = reply_to id
claim id (LookupPartitionedTopic topic) = reply_to id
claim id (GetTopicsOfNamespace namespace mode) = reply_to id
claim id (GetSchema topic version) = reply_to id
claim id (CreateProducer topic producer name options) = Some (record { awaits = Reply id; creates = true })
claim id (Send producer name sequence message block) = Some (record { awaits = Receipt producer sequence; creates = false })
claim id (CloseProducer producer) = reply_to id
claim id (Subscribe topic subscription sub_type consumer name options) = reply_to id
claim id (SendFlow consumer permits) = None
claim id (SendAck consumer ids cumulative) = None
claim id (SendRedeliver consumer ids) = None
claim id (Seek consumer place time) = reply_to id
claim id (GetLastMessageId consumer) = reply_to id
claim id (GetConsumerStats consumer) = reply_to id
claim id (Unsubscribe consumer) = reply_to id
claim id (CloseConsumer consumer) = reply_to id
claim id (CloseConsumerUnawaited consumer) = None

-- the greatest number is never drawn
abbrev pub is_spent : ℕ → Bool
is_spent n = n == (2 ^ 64 - 1)
