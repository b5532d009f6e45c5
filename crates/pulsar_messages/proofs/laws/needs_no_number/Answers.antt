use Rattle.std.proofs.Common.{◌≡◌, ℕ, refl, false}
use Rattle.pulsar_messages.specs.Messages.{command_of}
use Rattle.pulsar_messages.specs.Words.{Words, SendPing, SendPong, AuthChallenge, LookupTopic, LookupPartitionedTopic, GetTopicsOfNamespace, GetSchema, CreateProducer, Send, CloseProducer, Subscribe, SendFlow, SendAck, SendRedeliver, Seek, GetLastMessageId, GetConsumerStats, Unsubscribe, CloseConsumer, CloseConsumerUnawaited, is_numbered}
use Rattle.pulsar_messages.proofs.laws.needs_no_number.Goals as goal

same : (words : Words) (id other : ℕ) → is_numbered words ≡ false → command_of id words ≡ command_of other words
same SendPing id other h = refl
same SendPong id other h = refl
same (AuthChallenge auth) id other h = refl
same (LookupTopic topic authoritative) id other h = cc
same (LookupPartitionedTopic topic) id other h = cc
same (GetTopicsOfNamespace namespace mode) id other h = cc
same (GetSchema topic version) id other h = cc
same (CreateProducer topic producer name options) id other h = cc
same (Send producer name sequence message block) id other h = refl
same (CloseProducer producer) id other h = cc
same (Subscribe topic subscription sub_type consumer name options) id other h = cc
same (SendFlow consumer permits) id other h = refl
same (SendAck consumer ids cumulative) id other h = refl
same (SendRedeliver consumer ids) id other h = refl
same (Seek consumer place time) id other h = cc
same (GetLastMessageId consumer) id other h = cc
same (GetConsumerStats consumer) id other h = cc
same (Unsubscribe consumer) id other h = cc
same (CloseConsumer consumer) id other h = cc
same (CloseConsumerUnawaited consumer) id other h = cc

pub returns : goal.returns
returns c = same
