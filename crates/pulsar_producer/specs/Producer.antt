-- A producer as its user sees it: its topic, how it is made, and its partitions.
use Rattle.std.specs.Prelude.{ℕ, ◌==◌, Bool, if◌then◌else◌, List, [], ◌∷◌, map, Option, Some, None}
use Rattle.std.specs.Option.{option_map}
use Rattle.pulsar_messages.specs.Content.{ProducerMessageValues, ProducerOptionsValues}
use Rattle.pulsar_producer.specs.Routing.{Policy, Routed, begun, chosen_on, count, number_at, routed}
use Rattle.pulsar_producer.specs.Routing as routing
use Rattle.pulsar_producer.specs.declared.routing.Partition.{Partition}

pub record Seen : Type 0 where
  pub topic : List ℕ
  pub options : ProducerOptionsValues
  pub routes : Routed

-- a producer of one name is single, one of several is partitioned
abbrev pub is_single : Seen → Bool
is_single p = count p.routes == 1

-- the producer of these partitions, where they can be routed to
abbrev pub made : (topic : List ℕ) → ProducerOptionsValues → List Partition → (last : ℕ) → Option Seen
made topic options ps last =
    option_map (λ r. record { topic = topic; options = options; routes = r }) (begun ps options.routing_policy last)

-- its topic; a single one has the name that was found
abbrev pub topic_in : (topic : List ℕ) → List Partition → List ℕ
topic_in topic (p ∷ []) = p.name
topic_in topic _ = topic

abbrev pub topic_of : Seen → List ℕ
topic_of p = topic_in p.topic p.routes.partitions

-- the names of its partitions in order; a single one has none
abbrev pub names : Seen → Option (List (List ℕ))
names p = if is_single p then None else Some (map (λ q. q.name) p.routes.partitions)

-- what the policy of a client says of a message; a single producer asks none
abbrev pub advice : List Policy → ProducerMessageValues → Seen → Option ℕ
advice ps m p = if is_single p then None else routing.advice ps m p.routes

-- the index of the partition that a message goes to by what was said, and the number of its topic producer
abbrev pub target_on : (said : Option ℕ) → ProducerMessageValues → Seen → Option ℕ
target_on said m p = if is_single p then Some 0 else chosen_on said m p.routes

abbrev pub number_on : (said : Option ℕ) → ProducerMessageValues → Seen → Option ℕ
number_on said m p = number_at p.routes (target_on said m p)

-- and by the policies of the client
abbrev pub target : List Policy → ProducerMessageValues → Seen → Option ℕ
target ps m p = target_on (advice ps m p) m p

abbrev pub number_for : List Policy → ProducerMessageValues → Seen → Option ℕ
number_for ps m p = number_on (advice ps m p) m p

abbrev pub after : ProducerMessageValues → Seen → Seen
after m p = if is_single p then p else record p { routes = routed m p.routes }
