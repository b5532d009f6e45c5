-- The demo: a client and a broker in memory, which have one connection.  (Pulsar binary protocol: Connection establishment, Producer, Consumer)
use Rattle.std.specs.Prelude.{◌≡◌, ◌==◌, ◌&&◌, ℕ, zero, suc, ◌+◌, ◌*◌, ◌%◌, ◌<◌, Bool, true, false, if◌then◌else◌, List, [], ◌∷◌, ◌++◌, length, map, count_by, nat_le, nat_lt, codes, Option, Some, None}
use Rattle.std.specs.List.{list_any, range_with_len}
use Rattle.std.specs.Str.{bytes_eq}
use Rattle.pulsar_wire.specs.Row.{Values, spelling}
use Rattle.pulsar_wire.specs.Rows.{message_id}
use Rattle.pulsar_wire.specs.declared.commands.enumerations.InitialPosition.TheVariants.{Earliest}
use Rattle.pulsar_messages.specs.Content.{empty_consumer_options}
use Rattle.pulsar_messages.specs.Message.{bare}
use Rattle.pulsar_outgoing.specs.Wanted.{ProducerWanted, no_producer}
use Rattle.pulsar_incoming.specs.Content.{ConsumerWanted, no_consumer}
use Rattle.pulsar_calls.specs.Content.{Asked, Build, Producer, Send, Consumer, Ack, CloseConsumer, CloseProducer, Heard, Called, Opened, Bytes, Drain, Poll, Said, Done, Receipt, Shown, Write, Ends, Hands}
use Rattle.pulsar_acts.specs.Run.{Good}
use Rattle.pulsar_calls.specs.Steps.{Step}
use Rattle.pulsar_broker.specs.History.{Act, Fed, given}
use Rattle.pulsar_cli.specs.Script.{defaults}

-- The newest step of a history is its first.

-- WHAT IS SENT

-- Message i has (seed mod 97 + 7 * (i mod 97)) mod 97 bytes, of which byte j is (seed + i + j) mod 256. No sum is cut to 64 bits.
abbrev pub size : (seed i : ℕ) → ℕ
size seed i = (seed % 97 + 7 * (i % 97)) % 97

abbrev pub payload : (seed i : ℕ) → List ℕ
payload seed i = map (λ j. (seed + i + j) % 256) (range_with_len 0 (size seed i))

-- THE TWO SIDES

-- the service of both
abbrev pub url : List ℕ
url = codes "pulsar://127.0.0.1:6650"

-- the topic of the demo, and its subscription
abbrev pub name : List ℕ
name = codes "demo"

-- what is written goes to the broker
abbrev pub fed_by : Shown → List Act
fed_by (Write link bytes) = Fed link bytes ∷ []
fed_by _ = []

-- what was fed to the broker, newest first: what was written in each step, in order
abbrev pub fed_in : List Shown → List Act → List Act
fed_in [] acts = acts
fed_in (e ∷ es) acts = fed_in es (fed_by e ++ acts)

abbrev pub fed : List Step → List Act
fed [] = []
fed (s ∷ h) = fed_in s.effects (fed h)

-- the bytes that came to the client, joined
abbrev pub piece_of : Heard → List ℕ
piece_of (Bytes link piece) = piece
piece_of _ = []

abbrev pub received : List Step → List ℕ
received [] = []
received (s ∷ h) = received h ++ piece_of s.event

-- what the broker has given for all that was written, without what came to the client
abbrev pub Owes : List Step → (piece : List ℕ) → Type 0
Owes h piece = given url (fed h) 0 ≡ received h ++ piece

-- at each piece that came, all pieces so far are what the broker has given for what was written before
abbrev pub IsAnswered : Heard → List Step → Type 0
IsAnswered (Bytes link piece) h = received h ++ piece ≡ given url (fed h) 0
IsAnswered _ h = Unit {0}

abbrev pub Answered : List Step → Type 0
Answered [] = Unit {0}
Answered (s ∷ h) = IsAnswered s.event h × Answered h

-- EXCHANGES

-- how a history goes on with an event
abbrev pub Next : Heard → (old new : List Step) → Type 0
Next e old new = (effects : List Shown) × (new ≡ record { event = e; effects = effects } ∷ old)

-- a step wrote something
abbrev pub is_write : Shown → Bool
is_write (Write link bytes) = true
is_write _ = false

abbrev pub writes : List Shown → Bool
writes effects = list_any is_write effects

-- a piece comes to the client, unless it is empty
abbrev pub Comes : (piece : List ℕ) → (old new : List Step) → Type 0
Comes [] old new = new ≡ old
Comes (b ∷ bs) old new = Next (Bytes 0 (b ∷ bs)) old new

-- what is queued is written, up to 100 frames
pub record Drains (wrote : Bool) (old new : List Step) : Type 0 where
  pub effects : List Shown
  pub written : writes effects ≡ wrote
  pub is : new ≡ record { event = Drain 0 100; effects = effects } ∷ old

-- what the broker owes comes
pub record Receives (old new : List Step) : Type 0 where
  pub piece : List ℕ
  pub owes : Owes old piece
  pub comes : Comes piece old new

-- an exchange, by whether something was written in it
pub record Exchange (wrote : Bool) (old new : List Step) : Type 0 where
  pub middle : List Step
  pub drains : Drains wrote old middle
  pub receives : Receives middle new

-- n exchanges in each of which something was written
unfoldable pub Busy : (n : ℕ) → (old new : List Step) → Type 0
Busy zero old new = new ≡ old
Busy (suc n) old new = (middle : List Step) × Busy n old middle × Exchange true middle new

-- exchanges up to the first in which nothing is written, but 16 at the most
pub data Exchanges (old new : List Step) : Type 0 where
  UpToQuiet : (n : ℕ) (middle : List Step) → n < 16 → Busy n old middle → Exchange false middle new → Exchanges old new
  UpToMost : (n : ℕ) → n ≡ 16 → Busy n old new → Exchanges old new

-- an event, and the exchanges behind it
pub record Turn (e : Heard) (old new : List Step) : Type 0 where
  pub middle : List Step
  pub first : Next e old middle
  pub others : Exchanges middle new

abbrev pub Asks : Asked → (old new : List Step) → Type 0
Asks asked old new = Turn (Called asked) old new

-- THE CALLS AND POLLS. A ticket is the number of a call, from 0: Build, the producer, the sends, the consumer, and then the acknowledgements.

abbrev pub producer_ticket : ℕ
producer_ticket = 1

abbrev pub consumer_ticket : (count : ℕ) → ℕ
consumer_ticket count = 2 + count

abbrev pub demo_producer : ProducerWanted
demo_producer = record no_producer { topic = Some name }

abbrev pub demo_consumer : ConsumerWanted
demo_consumer =
    record no_consumer {
      topics = name ∷ [];
      subscription = Some name;
      options = record empty_consumer_options { initial_position = Earliest };
    }

-- the first n messages are sent
unfoldable pub Sends : (seed n : ℕ) → (old new : List Step) → Type 0
Sends seed zero old new = new ≡ old
Sends seed (suc n) old new =
    (middle : List Step) × Sends seed n old middle × Asks (Send producer_ticket (bare (payload seed n))) middle new

-- an item that a poll gave: its topic, its id as it is written, and its data
pub record Item : Type 0 where
  pub topic : List ℕ
  pub id : List ℕ
  pub bytes : List ℕ

abbrev pub item_of : List Shown → Option Item
item_of [] = None
item_of (Hands ticket topic id batch_size metadata payload ∷ es) = Some (record { topic = topic; id = id; bytes = payload })
item_of (e ∷ es) = item_of es

-- the acknowledgement of that item, by itself, where there is one
pub record IsAckOf (consumer : ℕ) (item : Item) (e : Heard) : Type 0 where
  pub id : Values message_id
  pub same : spelling message_id id ≡ item.id
  pub asks : e ≡ Called (Ack consumer item.topic id false)

abbrev pub IsAck : (consumer : ℕ) → Option Heard → Option Item → Type 0
IsAck consumer None None = Unit {0}
IsAck consumer (Some e) (Some item) = IsAckOf consumer item e
IsAck consumer _ _ = ⊥

abbrev pub TurnIfThere : Option Heard → (old new : List Step) → Type 0
TurnIfThere None old new = new ≡ old
TurnIfThere (Some e) old new = Turn e old new

-- a poll, and how its item is to be acknowledged
pub record Polls (consumer : ℕ) (ack : Option Heard) (old new : List Step) : Type 0 where
  pub effects : List Shown
  pub is_ack : IsAck consumer ack (item_of effects)
  pub is : new ≡ record { event = Poll consumer; effects = effects } ∷ old

-- a poll, and where it gave an item, the acknowledgement of that item
pub record Round (consumer : ℕ) (old new : List Step) : Type 0 where
  pub ack : Option Heard
  pub polled : List Step
  pub polls : Polls consumer ack old polled
  pub quiet : List Step
  pub exchanges : Exchanges polled quiet
  pub acks : TurnIfThere ack quiet new

-- n such rounds
unfoldable pub Rounds : (consumer n : ℕ) → (old new : List Step) → Type 0
Rounds consumer zero old new = new ≡ old
Rounds consumer (suc n) old new = (middle : List Step) × Rounds consumer n old middle × Round consumer middle new

-- up to the producer
pub record Begins (all : List Step) : Type 0 where
  pub built : List Step
  pub build : Next (Called Build) [] built
  pub opened : List Step
  pub opens : Turn (Opened 0) built opened
  pub producer : Asks (Producer demo_producer) opened all

-- from the last round on
pub record Closes (count : ℕ) (old new : List Step) : Type 0 where
  pub middle : List Step
  pub consumer : Asks (CloseConsumer (consumer_ticket count)) old middle
  pub producer : Asks (CloseProducer producer_ticket) middle new

-- the whole order
pub record Ordered (seed count : ℕ) (all : List Step) : Type 0 where
  pub begun : List Step
  pub begins : Begins begun
  pub sent : List Step
  pub sends : Sends seed count begun sent
  pub consumed : List Step
  pub consumer : Asks (Consumer demo_consumer) sent consumed
  pub polled : List Step
  pub polls : Rounds (consumer_ticket count) count consumed polled
  pub closes : Closes count polled all

-- WHAT IS COUNTED

abbrev pub count_if : Bool → ℕ
count_if b = if b then 1 else 0

-- a send has ended with a receipt
abbrev pub is_send : (count ticket : ℕ) → Bool
is_send count ticket = nat_le 2 ticket && nat_lt ticket (consumer_ticket count)

abbrev pub is_receipt : Said → Bool
is_receipt (Receipt bytes) = true
is_receipt _ = false

abbrev pub is_sent : (count : ℕ) → Shown → Bool
is_sent count (Ends ticket answer) = is_send count ticket && is_receipt answer
is_sent count _ = false

abbrev pub sent_count : (count : ℕ) → List Step → ℕ
sent_count count [] = 0
sent_count count (s ∷ h) = sent_count count h + count_by (is_sent count) s.effects

-- how many items polls gave
abbrev pub one_if_there : Option Item → ℕ
one_if_there None = 0
one_if_there (Some item) = 1

abbrev pub item_count : List Step → ℕ
item_count [] = 0
item_count (s ∷ h) = item_count h + one_if_there (item_of s.effects)

-- an item whose data is that of the message of its place
abbrev pub is_right : (seed place : ℕ) → Item → Bool
is_right seed place item = bytes_eq item.bytes (payload seed place)

abbrev pub right_count : (seed place : ℕ) → Option Item → ℕ
right_count seed place None = 0
right_count seed place (Some item) = count_if (is_right seed place item)

abbrev pub right_bytes : (seed place : ℕ) → Option Item → ℕ
right_bytes seed place None = 0
right_bytes seed place (Some item) = if is_right seed place item then length item.bytes else 0

abbrev pub received_count : (seed : ℕ) → List Step → ℕ
received_count seed [] = 0
received_count seed (s ∷ h) = received_count seed h + right_count seed (item_count h) (item_of s.effects)

abbrev pub byte_count : (seed : ℕ) → List Step → ℕ
byte_count seed [] = 0
byte_count seed (s ∷ h) = byte_count seed h + right_bytes seed (item_count h) (item_of s.effects)

-- how many calls there were
abbrev pub one_if_called : Heard → ℕ
one_if_called (Called asked) = 1
one_if_called _ = 0

abbrev pub call_count : List Step → ℕ
call_count [] = 0
call_count (s ∷ h) = call_count h + one_if_called s.event

-- an acknowledgement has ended Done, which it does at once
abbrev pub is_done : (ticket : ℕ) → Shown → Bool
is_done ticket (Ends t Done) = t == ticket
is_done ticket _ = false

abbrev pub acked_by : (ticket : ℕ) → Heard → List Shown → ℕ
acked_by ticket (Called (Ack consumer topic id cumulative)) effects = count_if (list_any (is_done ticket) effects)
acked_by ticket _ effects = 0

abbrev pub acked_count : List Step → ℕ
acked_count [] = 0
acked_count (s ∷ h) = acked_count h + acked_by (call_count h) s.event s.effects

-- the four numbers
pub record Numbers : Type 0 where
  pub sent : ℕ
  pub received : ℕ
  pub bytes : ℕ
  pub acked : ℕ

-- THE CLAUSE

pub record IsDemo (seed count : ℕ) (h : List Step) (n : Numbers) : Type 0 where
  pub good : Good (defaults []) h
  pub ordered : Ordered seed count h
  pub answered : Answered h
  pub sent : n.sent ≡ sent_count count h
  pub received : n.received ≡ received_count seed h
  pub bytes : n.bytes ≡ byte_count seed h
  pub acked : n.acked ≡ acked_count h
