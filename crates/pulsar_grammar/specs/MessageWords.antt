-- The words of a message that is sent, `NAME=VALUE` each: what they say of it.
use Rattle.std.specs.Prelude.{ℕ, ℤ, pos, neg_ℤ, ◌+◌, ◌^◌, ◌==◌, nat_lt, nat_le, Bool, true, false, if◌then◌else◌, List, [], ◌∷◌, ◌++◌, take, drop, position, Option, Some, None, codes}
use Rattle.std.specs.BTreeMap.{insert_entry}
use Rattle.std.specs.Cmp.Lexicographic.{slice_cmp}
use Rattle.std.specs.List.{slice_split}
use Rattle.std.specs.Option.{is_some}
use Rattle.std.specs.Ordering.{nat_cmp}
use Rattle.std.specs.Str.{bytes_eq}
use Rattle.pulsar_wire.specs.Field.{◌>>=◌}
use Rattle.pulsar_messages.specs.Content.{ProducerMessageValues, empty_message}
use Rattle.pulsar_grammar.specs.Words.{number, text, word_bytes}

-- what the words so far say: each part stands once, but for properties and clusters
pub record Draft : Type 0 where
  pub message : ProducerMessageValues
  pub has_data : Bool

abbrev pub blank : Draft
blank = record { message = empty_message; has_data = false }

-- what stands in front of the first `=`, and behind it
abbrev pub cut : List ℕ → Option (List ℕ × List ℕ)
cut word = position (λ b. b == 61) word >>= λ at. Some (take at word, drop (at + 1) word)

-- a number that may have a sign
abbrev pub plus : ℕ → Option ℤ
plus n = if nat_lt n (2 ^ 63) then Some (pos n) else None

abbrev pub minus : ℕ → Option ℤ
minus n = if nat_le n (2 ^ 63) then Some (neg_ℤ (pos n)) else None

abbrev pub signed : List ℕ → Option ℤ
signed [] = None
signed (b ∷ bs) = if b == 45 then number bs >>= minus else number (b ∷ bs) >>= plus

-- a part that is there already is refused
abbrev pub unless : {A : Type 0} → Bool → Option A → Option A
unless there value = if there then None else value

abbrev pub with_data : Draft → List ℕ → Draft
with_data d bytes = record { message = record d.message { payload = bytes }; has_data = true }

abbrev pub with_partition_key : Draft → List ℕ → Draft
with_partition_key d key = record d { message = record d.message { partition_key = Some key } }

abbrev pub with_ordering_key : Draft → List ℕ → Draft
with_ordering_key d key = record d { message = record d.message { ordering_key = Some key } }

abbrev pub with_event_time : Draft → ℕ → Draft
with_event_time d time = record d { message = record d.message { event_time = Some time } }

abbrev pub with_schema_version : Draft → List ℕ → Draft
with_schema_version d version = record d { message = record d.message { schema_version = Some version } }

abbrev pub with_delivery : Draft → ℤ → Draft
with_delivery d time = record d { message = record d.message { deliver_at_time = Some time } }

abbrev pub with_cluster : Draft → List ℕ → Draft
with_cluster d cluster = record d { message = record d.message { replicate_to = d.message.replicate_to ++ cluster ∷ [] } }

-- a property goes to the place of its name; a second one of a name takes the place of the first
abbrev pub with_property : Draft → List ℕ → List ℕ → Draft
with_property d name value =
    record d { message = record d.message { properties = insert_entry (slice_cmp nat_cmp) d.message.properties name value } }

-- data=WORD
abbrev pub payload : Draft → List ℕ → Option Draft
payload d word = unless d.has_data (word_bytes word >>= λ b. Some (with_data d b))

-- pk=TEXT
abbrev pub partition_key : Draft → List ℕ → Option Draft
partition_key d word = unless (is_some d.message.partition_key) (text word >>= λ t. Some (with_partition_key d t))

-- ok=WORD
abbrev pub ordering_key : Draft → List ℕ → Option Draft
ordering_key d word = unless (is_some d.message.ordering_key) (word_bytes word >>= λ b. Some (with_ordering_key d b))

-- et=NUMBER
abbrev pub event_time : Draft → List ℕ → Option Draft
event_time d word = unless (is_some d.message.event_time) (number word >>= λ n. Some (with_event_time d n))

-- sv=WORD
abbrev pub schema_version : Draft → List ℕ → Option Draft
schema_version d word = unless (is_some d.message.schema_version) (word_bytes word >>= λ b. Some (with_schema_version d b))

-- at=NUMBER
abbrev pub delivery : Draft → List ℕ → Option Draft
delivery d word = unless (is_some d.message.deliver_at_time) (signed word >>= λ n. Some (with_delivery d n))

-- rep=TEXT
abbrev pub cluster : Draft → List ℕ → Option Draft
cluster d word = text word >>= λ t. Some (with_cluster d t)

-- prop=NAME=VALUE
abbrev pub property : Draft → List ℕ → Option Draft
property d word = do
  p ← cut word
  name ← text p.0
  value ← text p.1
  Some (with_property d name value)

-- a word of the message
abbrev pub part : Draft → (name value : List ℕ) → Option Draft
part d name value =
    if bytes_eq name (codes "data") then payload d value
    else if bytes_eq name (codes "pk") then partition_key d value
    else if bytes_eq name (codes "ok") then ordering_key d value
    else if bytes_eq name (codes "et") then event_time d value
    else if bytes_eq name (codes "sv") then schema_version d value
    else if bytes_eq name (codes "at") then delivery d value
    else if bytes_eq name (codes "rep") then cluster d value
    else if bytes_eq name (codes "prop") then property d value
    else None

abbrev pub one : Draft → List ℕ → Option Draft
one d word = cut word >>= λ p. part d p.0 p.1

-- a word more, unless one was refused
abbrev pub with_word : Option Draft → List ℕ → Option Draft
with_word draft word = draft >>= λ d. one d word

abbrev pub all : Draft → List (List ℕ) → Option Draft
all d [] = Some d
all d (w ∷ ws) = one d w >>= λ e. all e ws

abbrev pub message : List (List ℕ) → Option ProducerMessageValues
message ws = all blank ws >>= λ d. Some d.message

-- messages with a `/` between two
abbrev pub with_message : Option (List ProducerMessageValues) → List (List ℕ) → Option (List ProducerMessageValues)
with_message messages ws = messages >>= λ ms. message ws >>= λ m. Some (ms ++ m ∷ [])

abbrev pub all_messages : Option (List ProducerMessageValues) → List (List (List ℕ)) → Option (List ProducerMessageValues)
all_messages messages [] = messages
all_messages messages (ws ∷ parts) = all_messages (with_message messages ws) parts

abbrev pub parts : List (List ℕ) → List (List (List ℕ))
parts ws = slice_split (λ w. bytes_eq w (codes "/")) ws

abbrev pub messages : List (List ℕ) → Option (List ProducerMessageValues)
messages ws = all_messages (Some []) (parts ws)
