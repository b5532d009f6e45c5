-- What stands behind `call link LINK`: what is asked of one connection.
use Rattle.std.specs.Prelude.{ℕ, if◌then◌else◌, List, [], ◌∷◌, ◌++◌, Option, Some, None, codes}
use Rattle.std.specs.Str.{bytes_eq}
use Rattle.pulsar_wire.specs.Field.{◌>>=◌}
use Rattle.pulsar_wire.specs.Row.{Values, each}
use Rattle.pulsar_wire.specs.Rows.{message_id}
use Rattle.pulsar_messages.specs.Content.{AuthenticationValues}
use Rattle.pulsar_messages.specs.Words as raw
use Rattle.pulsar_messages.specs.Words.{Words}
use Rattle.pulsar_grammar.specs.Words.{number, optional, small_number, text, word_bytes}
use Rattle.pulsar_grammar.specs.Choices.{cumulative, flag, mode, sub_type}
use Rattle.pulsar_grammar.specs.ConsumerWords.{who_subscribes}
use Rattle.pulsar_grammar.specs.Encoded.{id}
use Rattle.pulsar_grammar.specs.MessageWords.{message}
use Rattle.pulsar_grammar.specs.ProducerWords.{options}

-- an id more, unless one was refused
abbrev pub with_id : Option (List (Values message_id)) → List ℕ → Option (List (Values message_id))
with_id ids word = ids >>= λ is. id word >>= λ i. Some (is ++ i ∷ [])

-- a credential: its method, and what it shows
abbrev pub credential : (name shown : List ℕ) → Option AuthenticationValues
credential n s = do
  name ← text n
  shown ← word_bytes s
  Some (record { name = name; auth_data = shown })

-- OF THE BROKER

-- ping
abbrev pub ping : List (List ℕ) → Option Words
ping [] = Some raw.SendPing
ping _ = None

-- auth TEXT WORD
abbrev pub auth : List (List ℕ) → Option Words
auth (n ∷ s ∷ []) = credential n s >>= λ c. Some (raw.AuthChallenge c)
auth _ = None

-- lookup TOPIC BOOL
abbrev pub lookup : List (List ℕ) → Option Words
lookup (t ∷ a ∷ []) = do
  topic ← text t
  authoritative ← flag a
  Some (raw.LookupTopic topic authoritative)
lookup _ = None

-- partitions TOPIC
abbrev pub partitions : List (List ℕ) → Option Words
partitions (t ∷ []) = text t >>= λ topic. Some (raw.LookupPartitionedTopic topic)
partitions _ = None

-- topics NAMESPACE MODE
abbrev pub topics_on : List (List ℕ) → Option Words
topics_on (n ∷ m ∷ []) = do
  namespace ← text n
  mode ← mode m
  Some (raw.GetTopicsOfNamespace namespace mode)
topics_on _ = None

-- schema TOPIC VERSION
abbrev pub schema : List (List ℕ) → Option Words
schema (t ∷ v ∷ []) = do
  topic ← text t
  version ← optional word_bytes v
  Some (raw.GetSchema topic version)
schema _ = None

-- FOR A PRODUCER

-- producer TOPIC NUMBER NAME ..
abbrev pub producer_on : (topic : List ℕ) → List (List ℕ) → Option Words
producer_on t (p ∷ n ∷ ws) = do
  topic ← text t
  producer ← number p
  name ← optional text n
  options ← options ws
  Some (raw.CreateProducer topic producer name options)
producer_on t _ = None

abbrev pub create_producer : List (List ℕ) → Option Words
create_producer [] = None
create_producer (t ∷ ws) = producer_on t ws

-- send NUMBER NAME NUMBER BOOL MESSAGE
abbrev pub send : List (List ℕ) → Option Words
send (p ∷ n ∷ s ∷ b ∷ ws) = do
  producer ← number p
  name ← text n
  sequence ← number s
  block ← flag b
  message ← message ws
  Some (raw.Send producer name sequence message block)
send _ = None

-- close-producer NUMBER
abbrev pub close_producer : List (List ℕ) → Option Words
close_producer (p ∷ []) = number p >>= λ producer. Some (raw.CloseProducer producer)
close_producer _ = None

-- FOR A CONSUMER

-- subscribe TOPIC SUBSCRIPTION TYPE NUMBER ..
abbrev pub subscribe : List (List ℕ) → Option Words
subscribe (t ∷ s ∷ k ∷ c ∷ ws) = do
  topic ← text t
  subscription ← text s
  kind ← sub_type k
  consumer ← number c
  who ← who_subscribes ws
  Some (raw.Subscribe topic subscription kind consumer who.name who.options)
subscribe _ = None

-- flow NUMBER NUMBER
abbrev pub flow : List (List ℕ) → Option Words
flow (c ∷ n ∷ []) = do
  consumer ← number c
  permits ← small_number n
  Some (raw.SendFlow consumer permits)
flow _ = None

-- ack NUMBER TYPE ID..
abbrev pub ack : List (List ℕ) → Option Words
ack (c ∷ t ∷ ws) = do
  consumer ← number c
  cumulative ← cumulative t
  ids ← each id ws
  Some (raw.SendAck consumer ids cumulative)
ack _ = None

-- redeliver NUMBER ID..
abbrev pub redeliver : List (List ℕ) → Option Words
redeliver [] = None
redeliver (c ∷ ws) = do
  consumer ← number c
  ids ← each id ws
  Some (raw.SendRedeliver consumer ids)

-- seek NUMBER ID NUMBER
abbrev pub seek : List (List ℕ) → Option Words
seek (c ∷ i ∷ n ∷ []) = do
  consumer ← number c
  id ← optional id i
  time ← optional number n
  Some (raw.Seek consumer id time)
seek _ = None

-- last-id NUMBER
abbrev pub last_id : List (List ℕ) → Option Words
last_id (c ∷ []) = number c >>= λ consumer. Some (raw.GetLastMessageId consumer)
last_id _ = None

-- stats NUMBER
abbrev pub stats : List (List ℕ) → Option Words
stats (c ∷ []) = number c >>= λ consumer. Some (raw.GetConsumerStats consumer)
stats _ = None

-- unsubscribe NUMBER
abbrev pub unsubscribe : List (List ℕ) → Option Words
unsubscribe (c ∷ []) = number c >>= λ consumer. Some (raw.Unsubscribe consumer)
unsubscribe _ = None

-- close-consumer NUMBER
abbrev pub close_consumer : List (List ℕ) → Option Words
close_consumer (c ∷ []) = number c >>= λ consumer. Some (raw.CloseConsumer consumer)
close_consumer _ = None

-- ALL

-- a word that belongs to a consumer, and what follows it
abbrev pub consumer_call : List ℕ → List (List ℕ) → Option Words
consumer_call w ws =
    if bytes_eq w (codes "subscribe") then subscribe ws
    else if bytes_eq w (codes "flow") then flow ws
    else if bytes_eq w (codes "ack") then ack ws
    else if bytes_eq w (codes "redeliver") then redeliver ws
    else if bytes_eq w (codes "seek") then seek ws
    else if bytes_eq w (codes "last-id") then last_id ws
    else if bytes_eq w (codes "stats") then stats ws
    else if bytes_eq w (codes "unsubscribe") then unsubscribe ws
    else if bytes_eq w (codes "close-consumer") then close_consumer ws
    else None

-- a word that belongs to a producer, or to a consumer
abbrev pub member_call : List ℕ → List (List ℕ) → Option Words
member_call w ws =
    if bytes_eq w (codes "producer") then create_producer ws
    else if bytes_eq w (codes "send") then send ws
    else if bytes_eq w (codes "close-producer") then close_producer ws
    else consumer_call w ws

abbrev pub raw_call : List (List ℕ) → Option Words
raw_call [] = None
raw_call (w ∷ ws) =
    if bytes_eq w (codes "ping") then ping ws
    else if bytes_eq w (codes "auth") then auth ws
    else if bytes_eq w (codes "lookup") then lookup ws
    else if bytes_eq w (codes "partitions") then partitions ws
    else if bytes_eq w (codes "topics") then topics_on ws
    else if bytes_eq w (codes "schema") then schema ws
    else member_call w ws
