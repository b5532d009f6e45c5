-- Which partition of a topic a message goes to.  (Apache Pulsar, Concepts, Partitioned topics: Routing modes)
use Rattle.std.specs.Prelude.{ℕ, ◌+◌, ◌^◌, ◌%◌, ◌<◌, nat_lt, ◌==◌, ◌&&◌, if◌then◌else◌, List, length, Option, Some, None, slice_get}
use Rattle.pulsar_messages.specs.Content.{ProducerMessageValues}
use Rattle.pulsar_messages.specs.Murmur.{murmur3}
use Rattle.pulsar_messages.specs.declared.routing_policy.RoutingPolicy.{RoutingPolicy}
use Rattle.pulsar_messages.specs.declared.routing_policy.RoutingPolicy.TheVariants.{RoundRobin, Single, Custom}
use Rattle.pulsar_producer.specs.declared.routing.Partition.{Partition}

-- the partitions in order, each with the number of its topic producer, how one is chosen, and the index that was used last
pub record Routed : Type 0 where
  pub partitions : List Partition
  pub policy : Option RoutingPolicy
  pub last : ℕ

abbrev pub count : Routed → ℕ
count r = length r.partitions

-- a producer of these partitions begins behind an index, where that is one of them and they are not too many
abbrev pub begun : List Partition → Option RoutingPolicy → (last : ℕ) → Option Routed
begun ps policy last =
    if nat_lt last (length ps) && nat_lt (length ps) (2 ^ 32) then Some (record { partitions = ps; policy = policy; last = last })
    else None

-- a policy of a client: a function of the message and the count
abbrev pub Policy : Type 0
Policy = ProducerMessageValues → (count : ℕ) → ℕ

-- the number of the topic producer of an index
abbrev pub number_of : Option Partition → Option ℕ
number_of None = None
number_of (Some q) = Some q.number

abbrev pub number_at : Routed → Option ℕ → Option ℕ
number_at r None = None
number_at r (Some i) = number_of (slice_get r.partitions i)

-- the next index, and the first behind the last
abbrev pub stepped : Routed → ℕ
stepped r = if r.last + 1 == count r then 0 else r.last + 1

abbrev pub of_key : Option (List ℕ) → Routed → ℕ
of_key None r = stepped r
of_key (Some key) r = murmur3 key % count r

-- an index that is not there is none
abbrev pub in_range : (index count : ℕ) → Option ℕ
in_range index count = if nat_lt index count then Some index else None

abbrev pub asked : Option Policy → ProducerMessageValues → (count : ℕ) → Option ℕ
asked None m n = None
asked (Some p) m n = in_range (p m n) n

-- What the policy of a client says of a message, where a producer has such a policy: an index that is there. A policy that is not there
-- says none.
abbrev pub advice_by : Option RoutingPolicy → List Policy → ProducerMessageValues → (count : ℕ) → Option ℕ
advice_by None ps m n = None
advice_by (Some RoundRobin) ps m n = None
advice_by (Some Single) ps m n = None
advice_by (Some (Custom i)) ps m n = asked (slice_get ps i) m n

abbrev pub advice : List Policy → ProducerMessageValues → Routed → Option ℕ
advice ps m r = advice_by r.policy ps m (count r)

-- The choice, by what was said. Where no policy is set, a message's key is not looked at.
abbrev pub chosen_by : Option RoutingPolicy → (said : Option ℕ) → ProducerMessageValues → Routed → Option ℕ
chosen_by None said m r = Some (stepped r)
chosen_by (Some RoundRobin) said m r = Some (of_key m.partition_key r)
chosen_by (Some Single) said m r = Some r.last
chosen_by (Some (Custom n)) said m r = said

abbrev pub chosen_on : (said : Option ℕ) → ProducerMessageValues → Routed → Option ℕ
chosen_on said m r = chosen_by r.policy said m r

abbrev pub chosen : List Policy → ProducerMessageValues → Routed → Option ℕ
chosen ps m r = chosen_on (advice ps m r) m r

-- the index that was used last, behind that: only a step changes it
abbrev pub last_by_key : Option (List ℕ) → Routed → ℕ
last_by_key None r = stepped r
last_by_key (Some key) r = r.last

abbrev pub last_by : Option RoutingPolicy → ProducerMessageValues → Routed → ℕ
last_by None m r = stepped r
last_by (Some RoundRobin) m r = last_by_key m.partition_key r
last_by (Some Single) m r = r.last
last_by (Some (Custom n)) m r = r.last

abbrev pub routed : ProducerMessageValues → Routed → Routed
routed m r = record r { last = last_by r.policy m r }

-- there are partitions, not too many for their numbers, and the index that was used last is one of them
pub record IsRouted (r : Routed) : Type 0 where
  pub some : 0 < count r
  pub small : count r < 2 ^ 32
  pub there : r.last < count r
