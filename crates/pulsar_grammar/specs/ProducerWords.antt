-- The words of a producer, `NAME=VALUE` each: its topic, its name, and how it is made and sends.
use Rattle.std.specs.Prelude.{ℕ, ℤ, pos, ◌^◌, ◌==◌, nat_lt, Bool, true, false, ◌||◌, if◌then◌else◌, List, [], ◌∷◌, drop, length, Option, Some, None, codes}
use Rattle.std.specs.BTreeMap.{insert_entry}
use Rattle.std.specs.Cmp.Lexicographic.{slice_cmp}
use Rattle.std.specs.List.{starts_with}
use Rattle.std.specs.Option.{is_some}
use Rattle.std.specs.Ordering.{nat_cmp}
use Rattle.std.specs.Str.{bytes_eq}
use Rattle.pulsar_wire.specs.Field.{◌>>=◌}
use Rattle.pulsar_messages.specs.Content.{ProducerOptionsValues}
use Rattle.pulsar_messages.specs.declared.routing_policy.RoutingPolicy.{RoutingPolicy}
use Rattle.pulsar_messages.specs.declared.routing_policy.RoutingPolicy.TheVariants.{RoundRobin, Single, Custom}
use Rattle.pulsar_outgoing.specs.Wanted.{ProducerWanted, no_producer}
use Rattle.pulsar_grammar.specs.Choices.{flag}
use Rattle.pulsar_grammar.specs.Encoded.{schema_of}
use Rattle.pulsar_grammar.specs.MessageWords.{cut, unless}
use Rattle.pulsar_grammar.specs.Words.{number, text}

-- what the words so far say: each part stands once, but for the metadata
pub record Draft : Type 0 where
  pub wanted : ProducerWanted
  pub has_block : Bool

abbrev pub blank : Draft
blank = record { wanted = no_producer; has_block = false }

abbrev pub with_options : Draft → ProducerOptionsValues → Draft
with_options d options = record d { wanted = record d.wanted { options = options } }

-- topic=TEXT
abbrev pub topic : Draft → List ℕ → Option Draft
topic d word = unless (is_some d.wanted.topic) (text word >>= λ t. Some (record d { wanted = record d.wanted { topic = Some t } }))

-- name=TEXT
abbrev pub name : Draft → List ℕ → Option Draft
name d word = unless (is_some d.wanted.name) (text word >>= λ t. Some (record d { wanted = record d.wanted { name = Some t } }))

-- batch=NUMBER, which fits 32 bits
abbrev pub unsigned_32 : ℕ → Option ℕ
unsigned_32 n = if nat_lt n (2 ^ 32) then Some n else None

abbrev pub batch : Draft → List ℕ → Option Draft
batch d word =
    unless (is_some d.wanted.options.batch_size)
    (number word >>= λ n. unsigned_32 n >>= λ m. Some (with_options d (record d.wanted.options { batch_size = Some m })))

-- bytes=NUMBER
abbrev pub bytes : Draft → List ℕ → Option Draft
bytes d word =
    unless (is_some d.wanted.options.batch_byte_size)
    (number word >>= λ n. Some (with_options d (record d.wanted.options { batch_byte_size = Some n })))

-- batch-timeout=NUMBER
abbrev pub batch_timeout : Draft → List ℕ → Option Draft
batch_timeout d word =
    unless (is_some d.wanted.options.batch_timeout)
    (number word >>= λ n. Some (with_options d (record d.wanted.options { batch_timeout = Some n })))

-- access=NUMBER
abbrev pub signed_32 : ℕ → Option ℤ
signed_32 n = if nat_lt n (2 ^ 31) then Some (pos n) else None

abbrev pub access : Draft → List ℕ → Option Draft
access d word =
    unless (is_some d.wanted.options.access_mode)
    (number word >>= λ n. signed_32 n >>= λ z. Some (with_options d (record d.wanted.options { access_mode = Some z })))

-- block=BOOL
abbrev pub block : Draft → List ℕ → Option Draft
block d word =
    unless d.has_block
    (flag word >>= λ b. Some (record { wanted = record d.wanted { options = record d.wanted.options { block_queue_if_full = b } }; has_block = true }))

-- `round`, `single`, or `custom:NUMBER`
abbrev pub custom : List ℕ → Option RoutingPolicy
custom word =
    if starts_with (λ x y. x == y) word (codes "custom:") then (number (drop (length (codes "custom:")) word) >>= λ n. Some (Custom n)) else None

abbrev pub policy : List ℕ → Option RoutingPolicy
policy word =
    if bytes_eq word (codes "round") then Some RoundRobin
    else if bytes_eq word (codes "single") then Some Single
    else custom word

-- route=POLICY
abbrev pub route : Draft → List ℕ → Option Draft
route d word =
    unless (is_some d.wanted.options.routing_policy)
    (policy word >>= λ p. Some (with_options d (record d.wanted.options { routing_policy = Some p })))

-- encrypted=BOOL
abbrev pub encrypted : Draft → List ℕ → Option Draft
encrypted d word =
    unless (is_some d.wanted.options.encrypted)
    (flag word >>= λ b. Some (with_options d (record d.wanted.options { encrypted = Some b })))

-- meta=NAME=VALUE: a second one of a name takes the place of the first
abbrev pub with_meta : Draft → (name value : List ℕ) → Draft
with_meta d name value =
    with_options d (record d.wanted.options { metadata = insert_entry (slice_cmp nat_cmp) d.wanted.options.metadata name value })

abbrev pub meta : Draft → List ℕ → Option Draft
meta d word = do
  p ← cut word
  name ← text p.0
  value ← text p.1
  Some (with_meta d name value)

-- schema=HEX: the bytes of a Schema
abbrev pub schema : Draft → List ℕ → Option Draft
schema d word =
    unless (is_some d.wanted.options.schema)
    (schema_of word >>= λ s. Some (with_options d (record d.wanted.options { schema = Some s })))

-- a word of its options
abbrev pub option_part : Draft → (name value : List ℕ) → Option Draft
option_part d name value =
    if bytes_eq name (codes "batch") then batch d value
    else if bytes_eq name (codes "bytes") then bytes d value
    else if bytes_eq name (codes "batch-timeout") then batch_timeout d value
    else if bytes_eq name (codes "access") then access d value
    else if bytes_eq name (codes "block") then block d value
    else if bytes_eq name (codes "route") then route d value
    else if bytes_eq name (codes "encrypted") then encrypted d value
    else if bytes_eq name (codes "meta") then meta d value
    else if bytes_eq name (codes "schema") then schema d value
    else None

abbrev pub part : Draft → (name value : List ℕ) → Option Draft
part d n value =
    if bytes_eq n (codes "topic") then topic d value
    else if bytes_eq n (codes "name") then name d value
    else option_part d n value

abbrev pub one : Draft → List ℕ → Option Draft
one d word = cut word >>= λ p. part d p.0 p.1

-- a word more, unless one was refused
abbrev pub with_word : Option Draft → List ℕ → Option Draft
with_word draft word = draft >>= λ d. one d word

abbrev pub all : Draft → List (List ℕ) → Option Draft
all d [] = Some d
all d (w ∷ ws) = one d w >>= λ e. all e ws

-- a producer, and options alone, which name no topic and no producer
abbrev pub producer : List (List ℕ) → Option ProducerWanted
producer ws = all blank ws >>= λ d. Some d.wanted

abbrev pub options_in : ProducerWanted → Option ProducerOptionsValues
options_in w = if is_some w.topic || is_some w.name then None else Some w.options

abbrev pub options : List (List ℕ) → Option ProducerOptionsValues
options ws = producer ws >>= options_in
