-- What a call to build a consumer asks for, and how the consumer is made where that is not said.
use Rattle.std.specs.Prelude.{ℕ, zero, suc, ◌+◌, ◌*◌, ◌-◌, ◌^◌, ◌%◌, nat_lt, if◌then◌else◌, List, [], ◌∷◌, ◌++◌, Option, Some, None, codes, unwrap_or}
use Rattle.rand_pcg.specs.Lcg.{Lcg}
use Rattle.rand_pcg.specs.Pcg.{pcg32}
use Rattle.pulsar_wire.specs.declared.commands.enumerations.SubType.TheVariants.{Shared}
use Rattle.pulsar_addresses.specs.Backoff.{generator}
use Rattle.pulsar_incoming.specs.Content.{ConfigValues, ConsumerWanted}
use Rattle.pulsar_incoming.specs.declared.naming.Ordered.{Ordered}
use Rattle.pulsar_incoming.specs.declared.naming.Ordered.TheVariants as ordered
use Rattle.pulsar_incoming.specs.declared.naming.Topics.{Topics}
use Rattle.pulsar_incoming.specs.declared.naming.Topics.TheVariants as topics

-- the letters and digits in the order A to Z, a to z, 0 to 9, as ASCII writes them
abbrev pub letter : (word : ℕ) → ℕ
letter word =
    let n = word % 62 in
    if nat_lt n 26 then 65 + n else if nat_lt n 52 then 97 + (n - 26) else 48 + (n - 52)

-- so many letters, one for each word of a generator
unfoldable pub letters : (count : ℕ) → Lcg → List ℕ
letters zero g = []
letters (suc n) g = letter (pcg32 g).0 ∷ letters n (pcg32 g).1

-- a call draws the name of a consumer from the stream of four times its ticket and one, and that of a subscription from the next
abbrev pub stream_of : (ticket step : ℕ) → ℕ
stream_of ticket step = (ticket * 4 % 2 ^ 64 + step) % 2 ^ 64

abbrev pub drawn : (seed ticket step : ℕ) → List ℕ
drawn seed ticket step = letters 8 (generator seed (stream_of ticket step))

abbrev pub consumer_name : (seed ticket : ℕ) → List ℕ
consumer_name seed ticket = codes "consumer_" ++ drawn seed ticket 1

abbrev pub subscription_name : (seed ticket : ℕ) → List ℕ
subscription_name seed ticket = codes "sub_" ++ drawn seed ticket 2

-- How the consumer that the call of a ticket wants is made. It has a name and a subscription, which are drawn where they are absent, and its
-- subscription is shared where no type is said.
abbrev pub config_of : (seed ticket : ℕ) → ConsumerWanted → ConfigValues
config_of seed ticket w =
    record {
      subscription = unwrap_or w.subscription (subscription_name seed ticket);
      sub_type = unwrap_or w.subscription_type Shared;
      batch_size = w.batch_size;
      consumer_name = Some (unwrap_or w.consumer_name (consumer_name seed ticket));
      consumer_id = w.consumer_id;
      unacked_message_redelivery_delay = w.unacked_message_resend_delay;
      options = w.options;
      dead_letter_policy = w.dead_letter_policy;
    }

-- Which topics are asked for, by their names and by how the names begin. Where it is said how they begin there may be several.
abbrev pub topics_of : List (List ℕ) → (prefix : Option (List ℕ)) → Topics
topics_of [] None = topics.Nothing
topics_of [] (Some prefix) = topics.Several
topics_of (topic ∷ []) None = topics.One topic
topics_of (topic ∷ []) (Some prefix) = topics.Several
topics_of (topic ∷ other ∷ more) prefix = topics.Several

-- what the call of a ticket asks for
abbrev pub ordered_by : (seed ticket : ℕ) → ConsumerWanted → Topics → Ordered
ordered_by seed ticket w topics.Nothing = ordered.Nothing
ordered_by seed ticket w topics.Several = ordered.Several
ordered_by seed ticket w (topics.One topic) = ordered.One (record { topic = topic; config = config_of seed ticket w })

abbrev pub order_of : (seed ticket : ℕ) → ConsumerWanted → Ordered
order_of seed ticket w = ordered_by seed ticket w (topics_of w.topics w.topic_prefix)
