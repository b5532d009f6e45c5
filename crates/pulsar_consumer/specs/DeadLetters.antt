-- Dead letters: messages that were given so often that they go to another topic.  (Pulsar, Messaging: Dead letter topic)
use Rattle.std.specs.Prelude.{ℕ, ℤ, negsuc, nat_le, Bool, false, List, [], ◌∷◌, ◌++◌, codes, Option, Some, None, unwrap_or, if◌then◌else◌}
use Rattle.std.specs.BTreeMap.{insert_entry, is_at}
use Rattle.std.specs.Cmp.Lexicographic.{slice_cmp}
use Rattle.std.specs.Fmt.{decimal, signed_decimal}
use Rattle.std.specs.Map.{lookup}
use Rattle.std.specs.Option.{is_some}
use Rattle.std.specs.Ordering.{nat_cmp}
use Rattle.pulsar_wire.specs.Row.{Values}
use Rattle.pulsar_wire.specs.Rows.{key_value, message_id, message_metadata}
use Rattle.pulsar_frame.specs.Batch as batch
use Rattle.pulsar_frame.specs.Batch.{◌▸◌}
use Rattle.pulsar_consumer.specs.Items.{Item, Given, Faulty}
use Rattle.pulsar_messages.specs.Content.{Property, ProducerMessageValues, empty_message}
use Rattle.pulsar_wire.specs.Failures.{Custom}
use Rattle.pulsar_incoming.specs.Content.{DeadLetterValues}

-- an entry of a dead letter: its id, and its payload
abbrev pub Letter : Type 0
Letter = batch.Item

-- WHICH FRAMES ARE DEAD LETTERS: where there is a policy, those that were given as often as that says, or more often

abbrev pub is_dead_by : (most : ℕ) → (redeliveries : Option ℕ) → Bool
is_dead_by most None = false
is_dead_by most (Some n) = nat_le most n

abbrev pub is_dead : Option DeadLetterValues → (redeliveries : Option ℕ) → Bool
is_dead None n = false
is_dead (Some policy) n = is_dead_by policy.max_redeliver_count n

-- each of its messages is an entry that is copied, and an error is given in any case
abbrev pub letters : List Item → List Letter
letters [] = []
letters (Given id payload ∷ items) = (id, payload) ∷ letters items
letters (Faulty f ∷ items) = letters items

abbrev pub faults : List Item → List Item
faults [] = []
faults (Given id payload ∷ items) = faults items
faults (Faulty f ∷ items) = Faulty f ∷ faults items

-- what a consumer is given where a copy could not be sent
abbrev pub lost_letter : Item
lost_letter = Faulty (Custom (codes "DLQ send error"))

-- WHAT IS SENT TO THE OTHER TOPIC

-- the place of an id: its ledger, its entry, its partition, which is -1 where there is none, and its index in a batch, if it has one
abbrev pub partition_text : Option ℤ → List ℕ
partition_text partition = signed_decimal (unwrap_or partition (negsuc 0))

abbrev pub index_text : Option ℤ → List ℕ
index_text None = []
index_text (Some n) = codes ":" ++ signed_decimal n

abbrev pub origin_text : Values message_id → List ℕ
origin_text (ledger_id ▸ entry_id ▸ partition ▸ batch_index ▸ others) =
    decimal ledger_id ++ codes ":" ++ decimal entry_id ++ codes ":" ++ partition_text partition ++ index_text batch_index

-- properties as a map: of a key that stands twice the last value counts
abbrev pub with_property : (name value : List ℕ) → List Property → List Property
with_property name value ps = insert_entry (slice_cmp nat_cmp) ps name value

abbrev pub with_properties : List (Values key_value) → List Property → List Property
with_properties [] ps = ps
with_properties ((name ▸ value ▸ end) ∷ more) ps = with_properties more (with_property name value ps)

-- a property that stands already is left as it is
abbrev pub has_property : (name : List ℕ) → List Property → Bool
has_property name ps = is_some (lookup (is_at (slice_cmp nat_cmp name)) ps)

abbrev pub with_absent : (name value : List ℕ) → List Property → List Property
with_absent name value ps = if has_property name ps then ps else with_property name value ps

-- the properties of a copy: those of the message, and where it comes from
abbrev pub copied_properties : (topic : List ℕ) → Values message_id → List (Values key_value) → List Property
copied_properties topic id ps =
    with_absent (codes "ORIGIN_MESSAGE_ID") (origin_text id) (with_absent (codes "REAL_TOPIC") topic (with_properties ps []))

-- a copy has the payload, the properties, both keys and the event time of its message, and nothing else
abbrev pub copy_with : (topic : List ℕ) → Values message_id → Values message_metadata → (bytes : List ℕ) → ProducerMessageValues
copy_with topic id
    (producer_name ▸ sequence_id ▸ publish_time ▸ properties ▸ replicated_from ▸ partition_key ▸ replicate_to
    ▸ compression ▸ uncompressed_size ▸ num_messages ▸ event_time ▸ encryption_keys ▸ encryption_algo
    ▸ encryption_param ▸ schema_version ▸ ordering_key ▸ others)
    bytes =
    record empty_message {
      payload = bytes;
      properties = copied_properties topic id properties;
      partition_key = partition_key;
      ordering_key = ordering_key;
      event_time = event_time;
    }

abbrev pub copy_of : (topic : List ℕ) → Letter → ProducerMessageValues
copy_of topic letter = copy_with topic letter.0 letter.1.metadata letter.1.bytes
