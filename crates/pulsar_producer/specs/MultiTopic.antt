-- A producer of many topics: what is done to it, what is seen of it, and what it answers. For each topic it has a producer, which is built
-- when the first message is sent there.  (Apache Pulsar, Concepts, Producers)
use Rattle.std.specs.Prelude.{ℕ, bytes_eq, Bool, if◌then◌else◌, List, [], ◌∷◌, ◌++◌, map, Option, Some, None}
use Rattle.std.specs.BTreeMap.{insert_entry}
use Rattle.std.specs.Cmp.Lexicographic.{slice_cmp}
use Rattle.std.specs.Option.{is_none}
use Rattle.std.specs.Ordering.{nat_cmp}
use Rattle.pulsar_messages.specs.Content.{ProducerMessageValues, ProducerOptionsValues}
use Rattle.pulsar_producer.specs.Dispatching.{dispatched}
use Rattle.pulsar_producer.specs.Producer as producer
use Rattle.pulsar_producer.specs.Routing.{Policy}
use Rattle.pulsar_producer.specs.Turns.{first_of, rest_of}
use Rattle.pulsar_outgoing.specs.declared.orders.ProducerOrder.{ProducerOrder}
use Rattle.pulsar_outgoing.specs.declared.multi_topic.Handing.{Handing}
use Rattle.pulsar_outgoing.specs.declared.multi_topic.MultiSaid.{MultiSaid}
use Rattle.pulsar_outgoing.specs.declared.multi_topic.MultiSaid.TheVariants.{Handed, Absent}
use Rattle.pulsar_outgoing.specs.declared.multi_topic.Taker.{Taker}

-- WHAT IS DONE TO IT: an act for each call that changes it

pub data Act : Type 0 where
  -- one wants its turn
  Takes : Taker → Act
  -- the turn of the one that has it is over
  Passes : Act
  -- a message goes to the producer of a topic
  Hands : (topic : List ℕ) (message : ProducerMessageValues) → Act
  -- the producer of a topic was built
  Joins : (topic : List ℕ) → producer.Seen → Act
  -- there is to be no producer of a topic any longer
  Removes : (topic : List ℕ) → Act

-- WHAT IS SEEN OF IT

-- the producers of topics, in the order of the topics
abbrev pub Topics : Type 0
Topics = List (List ℕ × producer.Seen)

-- the name and the options with which its producers are made, these producers, who has its turn, and those that wait for theirs in the order
-- in which they came
pub record Seen : Type 0 where
  pub name : Option (List ℕ)
  pub options : ProducerOptionsValues
  pub topics : Topics
  pub holder : Option Taker
  pub waiting : List Taker

abbrev pub fresh : Option (List ℕ) → ProducerOptionsValues → Seen
fresh name options = record { name = name; options = options; topics = []; holder = None; waiting = [] }

-- TURNS. One has it at a time, and then the one that has waited longest.

-- whether one has its turn at once
abbrev pub is_free : Seen → Bool
is_free v = is_none v.holder

abbrev pub takes_in : Option Taker → Taker → Seen → Seen
takes_in None t v = record v { holder = Some t }
takes_in (Some other) t v = record v { waiting = v.waiting ++ t ∷ [] }

-- who has the turn when it is passed on
abbrev pub next_holder : Seen → Option Taker
next_holder v = first_of v.waiting

abbrev pub passes : Seen → Seen
passes v = record v { holder = first_of v.waiting; waiting = rest_of v.waiting }

-- TOPICS

abbrev pub found : (topic : List ℕ) → Topics → Option producer.Seen
found t [] = None
found t (e ∷ es) = if bytes_eq t e.0 then Some e.1 else found t es

-- one more, at its place in the order of the topics; it takes the place of one of the same topic
abbrev pub joined : (topic : List ℕ) → producer.Seen → Topics → Topics
joined t p es = insert_entry (slice_cmp nat_cmp) es t p

abbrev pub removed : (topic : List ℕ) → Topics → Topics
removed t [] = []
removed t (e ∷ es) = if bytes_eq t e.0 then es else e ∷ removed t es

-- the producer of a topic, behind a message that goes to it
abbrev pub routed : (topic : List ℕ) → ProducerMessageValues → Topics → Topics
routed t m [] = []
routed t m (e ∷ es) = if bytes_eq t e.0 then (e.0, producer.after m e.1) ∷ es else e ∷ routed t m es

-- the topics for which there are producers, in order
abbrev pub names : Seen → List (List ℕ)
names v = map (λ e. e.0) v.topics

-- WHAT IT ANSWERS

-- how the producer of a topic is built, where there is none
abbrev pub order_for : (topic : List ℕ) → Seen → ProducerOrder
order_for t v = record { topic = t; name = v.name; options = v.options }

-- A message goes on by the producer of its topic, by what the policy of that says. Where there is none, one is to be built first, and the
-- message is given back.
abbrev pub handed_to : Option producer.Seen → (said : Option ℕ) → Handing → Seen → MultiSaid
handed_to None said h v = Absent (record { order = order_for h.topic v; message = h.message })
handed_to (Some p) said h v = Handed (dispatched said h.message p)

abbrev pub handed : (said : Option ℕ) → Handing → Seen → MultiSaid
handed said h v = handed_to (found h.topic v.topics) said h v

-- what the policy of a client says of a message, where the producer of its topic is there
abbrev pub advice_by : Option producer.Seen → List Policy → ProducerMessageValues → Option ℕ
advice_by None ps m = None
advice_by (Some p) ps m = producer.advice ps m p

abbrev pub advice : List Policy → (topic : List ℕ) → ProducerMessageValues → Seen → Option ℕ
advice ps t m v = advice_by (found t v.topics) ps m

-- WHAT A HISTORY SAYS. Its acts, newest first.

abbrev pub after : Act → Seen → Seen
after (Takes t) v = takes_in v.holder t v
after Passes v = passes v
after (Hands t m) v = record v { topics = routed t m v.topics }
after (Joins t p) v = record v { topics = joined t p v.topics }
after (Removes t) v = record v { topics = removed t v.topics }

abbrev pub seen : Option (List ℕ) → ProducerOptionsValues → List Act → Seen
seen name options [] = fresh name options
seen name options (act ∷ h) = after act (seen name options h)
