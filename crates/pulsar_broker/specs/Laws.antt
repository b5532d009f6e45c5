-- What follows from the definitions: what is consumed of a topic is what was sent, in order; and what the end of a link leaves.
use Rattle.std.specs.Prelude.{◌≡◌, ◌+◌, ℕ, List, [], ◌∷◌, ◌++◌, bytes_eq, drop, take, Option, Some, None, if◌then◌else◌}
use Rattle.pulsar_frame.specs.Message.{MessageValues}
use Rattle.pulsar_frame.specs.Payload.{PayloadValues}
use Rattle.pulsar_broker.specs.Answers.{delivery}
use Rattle.pulsar_broker.specs.Asked.{Asked, Sends, asked}
use Rattle.pulsar_broker.specs.History.{Act, Ended, state}
use Rattle.pulsar_broker.specs.State.{Consumer, State, Topic, closed, passed, serving_of, turn, with_producer}

-- the payload of a send goes to the topic of its producer
abbrev pub sent_by : (name : List ℕ) → Option PayloadValues → Option (List ℕ) → List PayloadValues
sent_by name (Some payload) (Some topic) = if bytes_eq topic name then payload ∷ [] else []
sent_by name _ _ = []

-- what a frame of a link sends to a topic
abbrev pub sent_to : (name : List ℕ) (link : ℕ) → Option PayloadValues → Asked → State → List PayloadValues
sent_to name link payload (Sends producer sequence) s = sent_by name payload (s.producers link producer)
sent_to name link payload _ s = []

-- The messages of each topic are those that were sent to it, in order: a frame adds what it sends.
abbrev pub KeepsWhatWasSent : Type 0
KeepsWhatWasSent =
    (url : List ℕ) (link : ℕ) (m : MessageValues) (s : State) (name : List ℕ) →
    ((turn url link m s).state.topics name).messages ≡ (s.topics name).messages ++ sent_to name link m.payload (asked m.command.body) s

-- The end of a link changes no topic: its messages stay, and the cursors of its subscriptions.
abbrev pub EndKeepsTopics : Type 0
EndKeepsTopics = (url : List ℕ) (h : List Act) (link : ℕ) → (state url (Ended link ∷ h)).topics ≡ (state url h).topics

-- these messages for a consumer, from a place on
abbrev pub deliveries : (consumer place : ℕ) → List PayloadValues → List MessageValues
deliveries consumer place [] = []
deliveries consumer place (p ∷ ps) = delivery consumer place p ∷ deliveries consumer (place + 1) ps

-- the next n messages of a subscription were served, and its cursor has passed them
pub record ServesNext (c : Consumer) (t : Topic) : Type 0 where
  pub n : ℕ
  pub messages : (serving_of c t).messages ≡ deliveries c.number (passed c.subscription t) (take n (drop (passed c.subscription t) t.messages))
  pub cursor : (serving_of c t).cursor ≡ passed c.subscription t + n

-- A consumer is served the next messages of its subscription, in order, each at its place, and the subscription has passed just these.
abbrev pub ServesInOrder : Type 0
ServesInOrder = (c : Consumer) (t : Topic) → ServesNext c t

-- the producers and the consumers of these numbers of a link are closed
abbrev pub close_each : (link : ℕ) (numbers : List ℕ) → State → State
close_each link [] s = s
close_each link (n ∷ ns) s = close_each link ns (closed link n (with_producer link n None s))

-- a link has no producer, and no consumer
abbrev pub HasNothing : (link : ℕ) → State → Type 0
HasNothing link s = (number : ℕ) → (s.producers link number ≡ None) × (s.seat_of link number ≡ None)

-- The end of a link leaves what it would leave if each of its producers and consumers had been closed.
abbrev pub EndsAsIfClosed : Type 0
EndsAsIfClosed =
    (url : List ℕ) (h : List Act) (link : ℕ) (numbers : List ℕ) → HasNothing link (close_each link numbers (state url h)) →
    state url (Ended link ∷ h) ≡ close_each link numbers (state url h)
