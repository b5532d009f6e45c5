-- What is asked of one connection is read back.
use Rattle.std.proofs.Common.{◌≡◌, ◌^◌, ◌<◌, arith, codes, refl, Some}
use Rattle.std.specs.List.{AllByRecursion}
use Rattle.pulsar_messages.specs.Words.{Words, SendPing, SendPong, AuthChallenge, LookupTopic, LookupPartitionedTopic, GetTopicsOfNamespace, GetSchema, CreateProducer, Send, CloseProducer, Subscribe, SendFlow, SendAck, SendRedeliver, Seek, GetLastMessageId, GetConsumerStats, Unsubscribe, CloseConsumer, CloseConsumerUnawaited}
use Rattle.pulsar_grammar.specs.RawLines.{raw_call}
use Rattle.pulsar_script.specs.WrittenRaw.{CanBeSaid, raw_words}
use Rattle.pulsar_script.proofs.WrittenLines.{IsWithinWord, decimal-within, number-decimal, text-word, word-within}
use Rattle.pulsar_script.proofs.WrittenConsumers.{subscriber-reads, subscriber-within}
use Rattle.pulsar_script.proofs.WrittenProducers.{options-read, options-within}
use Rattle.pulsar_script.proofs.WrittenRaw.{bytes-reads, bytes-within, credential-reads, credential-within, cumulative-reads, cumulative-within, flag-reads, flag-within, ids-read, ids-within, message-reads, message-said, mode-reads, mode-within, name-reads, name-within, place-reads, place-within, small-reads, tested-within, time-reads, time-within, type-reads, type-within}

-- no word has a blank
pub raw-within : (what : Words) → CanBeSaid what → AllByRecursion IsWithinWord (raw_words what)
raw-within SendPing can = (tested-within (codes "ping") refl, tt)
raw-within SendPong can = absurd can
raw-within (AuthChallenge auth) can = (tested-within (codes "auth") refl, credential-within auth can)
raw-within (LookupTopic topic authoritative) can =
    (tested-within (codes "lookup") refl, (word-within topic can.0, (flag-within authoritative, tt)))
raw-within (LookupPartitionedTopic topic) can = (tested-within (codes "partitions") refl, (word-within topic can.0, tt))
raw-within (GetTopicsOfNamespace namespace which) can =
    (tested-within (codes "topics") refl, (word-within namespace can.0, (mode-within which, tt)))
raw-within (GetSchema topic version) can =
    (tested-within (codes "schema") refl, (word-within topic can.0.0, (bytes-within version can.1, tt)))
raw-within (CreateProducer topic producer called options) can =
    (tested-within (codes "producer") refl, (word-within topic can.0.0, (decimal-within producer can.1, (name-within called can.2, options-within options can.3))))
raw-within (Send producer called sequence m block) can =
    (tested-within (codes "send") refl, (decimal-within producer can.0, (word-within called can.1.0, (decimal-within sequence can.2, (flag-within block, (message-said m can.3).within)))))
raw-within (CloseProducer producer) can = (tested-within (codes "close-producer") refl, (decimal-within producer can, tt))
raw-within (Subscribe topic subscription kind consumer called options) can =
    (tested-within (codes "subscribe") refl, (word-within topic can.0.0, (word-within subscription can.1.0, (type-within kind, (decimal-within consumer can.2, subscriber-within called options can.3)))))
raw-within (SendFlow consumer permits) can =
    let wide : permits < 2 ^ 64 = let lt = can.1 in omega (arith, lt) in
    (tested-within (codes "flow") refl, (decimal-within consumer can.0, (decimal-within permits wide, tt)))
raw-within (SendAck consumer ids upto) can =
    (tested-within (codes "ack") refl, (decimal-within consumer can.0, (cumulative-within upto, ids-within ids can.1)))
raw-within (SendRedeliver consumer ids) can =
    (tested-within (codes "redeliver") refl, (decimal-within consumer can.0, ids-within ids can.1))
raw-within (Seek consumer place time) can =
    (tested-within (codes "seek") refl, (decimal-within consumer can.0, (place-within place can.1, (time-within time can.2, tt))))
raw-within (GetLastMessageId consumer) can = (tested-within (codes "last-id") refl, (decimal-within consumer can, tt))
raw-within (GetConsumerStats consumer) can = (tested-within (codes "stats") refl, (decimal-within consumer can, tt))
raw-within (Unsubscribe consumer) can = (tested-within (codes "unsubscribe") refl, (decimal-within consumer can, tt))
raw-within (CloseConsumer consumer) can = (tested-within (codes "close-consumer") refl, (decimal-within consumer can, tt))
raw-within (CloseConsumerUnawaited consumer) can = absurd can

-- the words are read as what they were written for
pub raw-reads : (what : Words) → CanBeSaid what → raw_call (raw_words what) ≡ Some what
raw-reads SendPing can = refl
raw-reads SendPong can = absurd can
raw-reads (AuthChallenge auth) can = rw (credential-reads auth can) refl
raw-reads (LookupTopic topic authoritative) can = rw (text-word topic can.0 can.1, flag-reads authoritative) refl
raw-reads (LookupPartitionedTopic topic) can = rw (text-word topic can.0 can.1) refl
raw-reads (GetTopicsOfNamespace namespace which) can = rw (text-word namespace can.0 can.1, mode-reads which) refl
raw-reads (GetSchema topic version) can = rw (text-word topic can.0.0 can.0.1, bytes-reads version can.1) refl
raw-reads (CreateProducer topic producer called options) can =
    rw (text-word topic can.0.0 can.0.1, number-decimal producer can.1, name-reads called can.2, options-read options can.3) refl
raw-reads (Send producer called sequence m block) can =
    rw (number-decimal producer can.0, text-word called can.1.0 can.1.1, number-decimal sequence can.2, flag-reads block, message-reads m can.3) refl
raw-reads (CloseProducer producer) can = rw (number-decimal producer can) refl
raw-reads (Subscribe topic subscription kind consumer called options) can =
    rw (text-word topic can.0.0 can.0.1, text-word subscription can.1.0 can.1.1, type-reads kind, number-decimal consumer can.2, subscriber-reads called options can.3 can.4) refl
raw-reads (SendFlow consumer permits) can = rw (number-decimal consumer can.0, small-reads permits can.1) refl
raw-reads (SendAck consumer ids upto) can = rw (number-decimal consumer can.0, cumulative-reads upto, ids-read ids can.1) refl
raw-reads (SendRedeliver consumer ids) can = rw (number-decimal consumer can.0, ids-read ids can.1) refl
raw-reads (Seek consumer place time) can = rw (number-decimal consumer can.0, place-reads place can.1, time-reads time can.2) refl
raw-reads (GetLastMessageId consumer) can = rw (number-decimal consumer can) refl
raw-reads (GetConsumerStats consumer) can = rw (number-decimal consumer can) refl
raw-reads (Unsubscribe consumer) can = rw (number-decimal consumer can) refl
raw-reads (CloseConsumer consumer) can = rw (number-decimal consumer can) refl
raw-reads (CloseConsumerUnawaited consumer) can = absurd can
