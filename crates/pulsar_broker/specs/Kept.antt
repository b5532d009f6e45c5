-- For the code's contracts alone: the state of a broker, as the code keeps it.
use Rattle.std.specs.Prelude.{◌≡◌, ◌==◌, ◌&&◌, ℕ, Bool, true, false, nat_lt, List, [], ◌∷◌, ◌++◌, bytes_eq, length, map, Option, Some, None, string_bytes, if◌then◌else◌}
use Rattle.std.specs.Global.{Vec}
use Rattle.std.specs.declared.string.String.{String}
use Rattle.std.specs.BTreeSet.{contains}
use Rattle.std.specs.List.{flat_map, list_any}
use Rattle.std.specs.List.Sorted.{IsStrictlySortedBy}
use Rattle.std.specs.declared.alloc.Global.{Global}
use Rattle.std.specs.BTreeMap.{BTreeMap, get, get_by_text}
use Rattle.std.specs.Option.{option_map, option_copied}
use Rattle.std.specs.Ordering.{nat_cmp, ordering_then}
use Rattle.std.specs.declared.cmp.Ordering.{Ordering}
use Rattle.pulsar_wire.specs.Views.{command_values}
use Rattle.pulsar_wire.specs.declared.commands.base.BaseCommand.{BaseCommand}
use Rattle.pulsar_frame.specs.declared.payload.Payload.{Payload}
use Rattle.pulsar_frame.specs.Message.{MessageValues}
use Rattle.pulsar_frame.specs.Payload.{payload_values}
use Rattle.pulsar_broker.specs.Asked as meaning
use Rattle.pulsar_broker.specs.declared.asked.Asked.{Asked}
use Rattle.pulsar_broker.specs.declared.asked.Asked.TheVariants.{Connects, Pings, CountsPartitions, LooksUp, MakesProducer, Sends, Subscribes, Grants, Acknowledges, ClosesProducer, ClosesConsumer, AsksElse, SaysElse}
use Rattle.pulsar_broker.specs.declared.consumer.Consumer.{Consumer}
use Rattle.pulsar_broker.specs.declared.outbox.Outbox.{Outbox}
use Rattle.pulsar_broker.specs.declared.tables.Tables.{Tables}
use Rattle.pulsar_broker.specs.declared.topic.Topic.{Topic}
use Rattle.pulsar_broker.specs.History.{bytes_for}
use Rattle.pulsar_broker.specs.State as state
use Rattle.pulsar_broker.specs.State.{Served, State, Turn, no_topic, passed, serving_of, with_cursor}

abbrev pub asked_in : Asked → meaning.Asked
asked_in Connects = meaning.Connects
asked_in Pings = meaning.Pings
asked_in (CountsPartitions request) = meaning.CountsPartitions request
asked_in (LooksUp request) = meaning.LooksUp request
asked_in (MakesProducer topic producer request name) = meaning.MakesProducer topic.now producer request (option_copied name)
asked_in (Sends producer sequence) = meaning.Sends producer sequence
asked_in (Subscribes topic subscription consumer request position) = meaning.Subscribes topic.now subscription.now consumer request position
asked_in (Grants consumer permits) = meaning.Grants consumer permits
asked_in Acknowledges = meaning.Acknowledges
asked_in (ClosesProducer producer request) = meaning.ClosesProducer producer request
asked_in (ClosesConsumer consumer request) = meaning.ClosesConsumer consumer request
asked_in (AsksElse request) = meaning.AsksElse request
asked_in SaysElse = meaning.SaysElse

-- the bytes that are owed to a link
abbrev pub bytes_of : Option (Vec ℕ) → List ℕ
bytes_of None = []
bytes_of (Some bytes) = bytes.items

abbrev pub owed_on : Outbox → (link : ℕ) → List ℕ
owed_on o l = bytes_of (get nat_cmp o.owed l)

abbrev pub consumer_in : Consumer → state.Consumer
consumer_in c =
    record {
      link = c.link;
      number = c.number;
      topic = string_bytes c.topic;
      subscription = string_bytes c.subscription;
      granted = c.granted;
      spent = c.spent;
    }

abbrev pub topic_in : Topic → state.Topic
topic_in t = record { messages = map payload_values t.messages.items; cursors = λ subscription. get_by_text t.cursors subscription }

abbrev pub topic_of : Option Topic → state.Topic
topic_of None = no_topic
topic_of (Some t) = topic_in t

-- a topic behind the serving of a consumer: where something is served, the cursor has passed it
abbrev pub topic_passed : state.Consumer → (cursor : ℕ) → List MessageValues → state.Topic → state.Topic
topic_passed c cursor [] t = t
topic_passed c cursor (m ∷ ms) t = with_cursor c.subscription cursor t

abbrev pub topic_behind : state.Consumer → Served → state.Topic → state.Topic
topic_behind c served t = topic_passed c served.cursor served.messages t

-- what a consumer is served of its topic
abbrev pub serving_in : state.Consumer → (List ℕ → state.Topic) → Served
serving_in c topics = serving_of c (topics c.topic)

-- a producer or a consumer is found by its link and its number
abbrev pub pair_cmp : ℕ × ℕ → ℕ × ℕ → Ordering
pair_cmp a b = ordering_then (nat_cmp a.0 b.0) (nat_cmp a.1 b.1)

abbrev pub producers_in : BTreeMap (ℕ × ℕ) (String Global) → ℕ → ℕ → Option (List ℕ)
producers_in producers l n = option_map string_bytes (get pair_cmp producers (l, n))

abbrev pub consumers_in : BTreeMap ℕ Consumer → ℕ → Option state.Consumer
consumers_in consumers seat = option_map consumer_in (get nat_cmp consumers seat)

abbrev pub seats_in : BTreeMap (ℕ × ℕ) ℕ → ℕ → ℕ → Option ℕ
seats_in seat_of l n = get pair_cmp seat_of (l, n)

abbrev pub topics_in : BTreeMap (String Global) Topic → List ℕ → state.Topic
topics_in topics name = topic_of (get_by_text topics name)

abbrev pub state_in : Tables → State
state_in t =
    record {
      producers = producers_in t.producers;
      consumers = consumers_in t.consumers;
      seats = t.seats;
      seat_of = seats_in t.seat_of;
      topics = topics_in t.topics;
    }

-- WHO IS SERVED NEXT

-- a consumer has permits, and its topic has a message that its subscription has not passed
abbrev pub is_due : state.Consumer → state.Topic → Bool
is_due c t = nat_lt c.spent c.granted && nat_lt (passed c.subscription t) (length t.messages)

abbrev pub is_due_at : Option state.Consumer → (List ℕ → state.Topic) → Bool
is_due_at None topics = false
is_due_at (Some c) topics = is_due c (topics c.topic)

abbrev pub is_due_in : State → (seat : ℕ) → Bool
is_due_in s seat = is_due_at (s.consumers seat) s.topics

-- a seat is listed of a topic
abbrev pub has_seat : Option Topic → (seat : ℕ) → Bool
has_seat None seat = false
has_seat (Some t) seat = contains nat_cmp t.seats seat

abbrev pub lists : BTreeMap (String Global) Topic → (name : List ℕ) (seat : ℕ) → Bool
lists topics name seat = has_seat (get_by_text topics name) seat

-- a seat is one of these
abbrev pub is_listed : ℕ → List ℕ → Bool
is_listed seat seats = list_any (λ k. k == seat) seats

abbrev pub is_on : List ℕ → Option state.Consumer → Bool
is_on name None = false
is_on name (Some c) = bytes_eq c.topic name

-- A topic lists the seats of its consumers, and no others; and no seat is in use that was not taken.
pub record AreListed (lists : (name : List ℕ) (seat : ℕ) → Bool) (s : State) : Type 0 where
  pub listed : (name : List ℕ) (seat : ℕ) → lists name seat ≡ is_on name (s.consumers seat)
  pub seated : (seat : ℕ) → nat_lt seat s.seats ≡ false → s.consumers seat ≡ None

-- nobody is due but who has one of these seats, which stand in order and are taken
pub record AreDue (due : List ℕ) (s : State) : Type 0 where
  pub others : (seat : ℕ) → is_listed seat due ≡ false → is_due_in s seat ≡ false
  pub ordered : IsStrictlySortedBy nat_cmp due
  pub taken : (seat : ℕ) → is_listed seat due ≡ true → nat_lt seat s.seats ≡ true

-- nobody is due, and the lists are right
pub record IsKept (t : Tables) : Type 0 where
  pub served : (seat : ℕ) → is_due_in (state_in t) seat ≡ false
  pub listed : AreListed (lists t.topics) (state_in t)

-- A frame was answered so. Nobody is due then but who has one of these seats.
pub record IsAnswered (turn : Turn) (old new : Tables) (before after : Outbox) (seats : List ℕ) : Type 0 where
  pub state : state_in new ≡ turn.state
  pub given : (l : ℕ) → owed_on after l ≡ owed_on before l ++ flat_map (bytes_for l) turn.given
  pub due : IsKept old → AreDue seats (state_in new)
  pub listed : IsKept old → AreListed (lists new.topics) (state_in new)

-- A frame was answered, and the consumers were served.
pub record IsTurned (turn : Turn) (old new : Tables) (before after : Outbox) : Type 0 where
  pub state : state_in new ≡ turn.state
  pub given : (l : ℕ) → owed_on after l ≡ owed_on before l ++ flat_map (bytes_for l) turn.given
  pub kept : IsKept new

-- WHO LEAVES WITH A LINK

abbrev pub name_of : state.Consumer → ℕ × ℕ
name_of c = (c.link, c.number)

abbrev pub names : State → (seat : ℕ) → Option (ℕ × ℕ)
names s seat = option_map name_of (s.consumers seat)

abbrev pub name_of_another : (link : ℕ) → Option (ℕ × ℕ) → Option (ℕ × ℕ)
name_of_another link None = None
name_of_another link (Some name) = if name.0 == link then None else Some name

-- A consumer is found by its link and its number, and what is found so is of that link. No seat is in use that was not taken.
pub record AreNamed (names : ℕ → Option (ℕ × ℕ)) (seats : ℕ) (seat_of : ℕ → ℕ → Option ℕ) : Type 0 where
  pub free : (seat : ℕ) → nat_lt seat seats ≡ false → names seat ≡ None
  pub found : (seat link number : ℕ) → names seat ≡ Some (link, number) → seat_of link number ≡ Some seat
  pub own : (link number seat : ℕ) → seat_of link number ≡ Some seat → name_of_another link (names seat) ≡ None
  pub taken : (link number seat : ℕ) → seat_of link number ≡ Some seat → nat_lt seat seats ≡ true

abbrev pub IsNamed : State → Type 0
IsNamed s = AreNamed (names s) s.seats s.seat_of

-- the message of this command and this payload
abbrev pub message_in : BaseCommand → Option Payload → MessageValues
message_in command payload = record { command = command_values command; payload = option_map payload_values payload }
