-- What is said of a producer is read back.
use Rattle.std.proofs.Common.{◌≡◌, ◌==◌, ℕ, ℤ, pos, negsuc, ◌^◌, ◌<◌, ◌∙◌, sym, ap, List, [], ◌∷◌, ◌++◌, refl, arith, Bool, true, false, map, Option, Some, None, length, codes, append-nil, append_assoc}
use Rattle.std.specs.Cmp.Lexicographic.{slice_cmp}
use Rattle.std.specs.Fmt.{decimal}
use Rattle.std.specs.List.{AllByRecursion}
use Rattle.std.specs.List.Sorted.{IsStrictlySortedBy}
use Rattle.std.specs.Option.{option_to_list}
use Rattle.std.specs.Ordering.{nat_cmp}
use Rattle.std.proofs.lemmas.Bool.Decides.{nat_tests}
use Rattle.std.proofs.lemmas.List.Elements.{All-append}
use Rattle.std.proofs.lemmas.Option.{none-some}
use Rattle.hex.specs.Hex.{encode_lower}
use Rattle.pulsar_wire.specs.Field.{◌>>=◌}
use Rattle.pulsar_wire.specs.Row.{Values, reading, spelling, varint_in}
use Rattle.pulsar_wire.specs.Rows as rows
use Rattle.pulsar_wire.proofs.RoundTrip.{round_trip}
use Rattle.pulsar_messages.specs.Content.{ProducerOptionsValues, Property, empty_producer_options}
use Rattle.pulsar_messages.specs.declared.routing_policy.RoutingPolicy.{RoutingPolicy}
use Rattle.pulsar_messages.specs.declared.routing_policy.RoutingPolicy.TheVariants.{RoundRobin, Single, Custom}
use Rattle.pulsar_outgoing.specs.Wanted.{ProducerWanted}
use Rattle.pulsar_grammar.specs.Encoded.{schema_of}
use Rattle.pulsar_grammar.specs.ProducerWords.{Draft, all, blank, one, options, options_in, policy, producer, signed_32, unsigned_32, with_meta, with_options}
use Rattle.pulsar_printing.specs.WordText.{word}
use Rattle.pulsar_script.specs.WrittenRaw.{CanBeMade, IsCount, IsUnsigned, IsNumber, IsPolicy, IsProperty, IsSchema, IsText, Where, block_words, flag_word, meta_word, option_words, policy_word, producer_words, signed_word}
use Rattle.pulsar_script.proofs.WrittenLines.{IsWithinWord, decimal-within, hex-encoded, hex-within, number-decimal, same-some, text-word, word-within}
use Rattle.pulsar_script.proofs.WrittenRaw.{AreBelow, NoEquals, all-both, all-map, cut-at, flag-reads, flag-within, front-within, more-below, none-below, stands-last, tested-within, word-free}

-- WORDS ONE BEHIND THE OTHER

on-next : (d : Draft) (w : List ℕ) (ws vs : List (List ℕ)) (e : Draft) (o : Option Draft) → one d w ≡ o → all d (w ∷ ws) ≡ Some e → ((x : Draft) → all x ws ≡ Some e → all x (ws ++ vs) ≡ all e vs) → all d (w ∷ (ws ++ vs)) ≡ all e vs
on-next d w ws vs e None is h more = absurd (none-some e (sym (ap (λ o. o >>= λ x. all x ws) is) ∙ h))
on-next d w ws vs e (Some x) is h more = ap (λ o. o >>= λ y. all y (ws ++ vs)) is ∙ more x (sym (ap (λ o. o >>= λ y. all y ws) is) ∙ h)

-- what words say, and then further ones
all-on : (d : Draft) (ws vs : List (List ℕ)) (e : Draft) → all d ws ≡ Some e → all d (ws ++ vs) ≡ all e vs
all-on d [] vs e h = ap (λ x. all x vs) (same-some d e h)
all-on d (w ∷ ws) vs e h = on-next d w ws vs e (one d w) refl h (λ x g. all-on x ws vs e g)

-- words without a blank that make one draft of another
record Say (ws : List (List ℕ)) (d e : Draft) : Type 0 where
  is : all d ws ≡ Some e
  within : AllByRecursion IsWithinWord ws

-- words, and then further ones
say-both : {ws vs : List (List ℕ)} {d e f : Draft} → Say ws d e → Say vs e f → Say (ws ++ vs) d f
say-both {ws} {vs} {d} {e} h k = record { is = all-on d ws vs e h.is ∙ k.is; within = all-both IsWithinWord ws vs h.within k.within }

-- one word
say-word : (d e : Draft) (w : List ℕ) → IsWithinWord w → one d w ≡ Some e → Say (w ∷ []) d e
say-word d e w within h = record { is = ap (λ o. o >>= λ x. all x []) h; within = (within, tt) }

-- ITS PARTS

topic-reads : (d : Draft) (o : Option (List ℕ)) → Where IsText o → d.wanted.topic ≡ None →
    Say (map (λ t. codes "topic=" ++ word t) (option_to_list o)) d (record d { wanted = record d.wanted { topic = o } })
topic-reads d None can none = record { is = ap (λ o. Some (record d { wanted = record d.wanted { topic = o } })) none; within = tt }
topic-reads d (Some t) can none =
    say-word d _ (codes "topic=" ++ word t) (front-within (codes "topic=") (word t) refl (word-within t can.0))
    (rw (cut-at (codes "topic") (word t) (refl, (refl, (refl, (refl, (refl, tt))))), none, text-word t can.0 can.1) refl)

name-reads : (d : Draft) (o : Option (List ℕ)) → Where IsText o → d.wanted.name ≡ None →
    Say (map (λ t. codes "name=" ++ word t) (option_to_list o)) d (record d { wanted = record d.wanted { name = o } })
name-reads d None can none = record { is = ap (λ o. Some (record d { wanted = record d.wanted { name = o } })) none; within = tt }
name-reads d (Some t) can none =
    say-word d _ (codes "name=" ++ word t) (front-within (codes "name=") (word t) refl (word-within t can.0))
    (rw (cut-at (codes "name") (word t) (refl, (refl, (refl, (refl, tt)))), none, text-word t can.0 can.1) refl)

counted : (n : ℕ) → IsCount n → unsigned_32 n ≡ Some n
counted n lt = grind (arith, nat_tests)

batch-reads : (d : Draft) (o : Option ℕ) → Where IsCount o → d.wanted.options.batch_size ≡ None →
    Say (map (λ n. codes "batch=" ++ decimal n) (option_to_list o)) d (with_options d (record d.wanted.options { batch_size = o }))
batch-reads d None can none = record { is = ap (λ o. Some (with_options d (record d.wanted.options { batch_size = o }))) none; within = tt }
batch-reads d (Some n) can none =
    let wide : n < 2 ^ 64 = omega (arith, can) in
    say-word d _ (codes "batch=" ++ decimal n) (front-within (codes "batch=") (decimal n) refl (decimal-within n wide))
    (rw (cut-at (codes "batch") (decimal n) (refl, (refl, (refl, (refl, (refl, tt))))), none, number-decimal n wide, counted n can) refl)

bytes-reads : (d : Draft) (o : Option ℕ) → Where IsNumber o → d.wanted.options.batch_byte_size ≡ None →
    Say (map (λ n. codes "bytes=" ++ decimal n) (option_to_list o)) d (with_options d (record d.wanted.options { batch_byte_size = o }))
bytes-reads d None can none = record { is = ap (λ o. Some (with_options d (record d.wanted.options { batch_byte_size = o }))) none; within = tt }
bytes-reads d (Some n) can none =
    say-word d _ (codes "bytes=" ++ decimal n) (front-within (codes "bytes=") (decimal n) refl (decimal-within n can))
    (rw (cut-at (codes "bytes") (decimal n) (refl, (refl, (refl, (refl, (refl, tt))))), none, number-decimal n can) refl)

timeout-free : NoEquals (codes "batch-timeout")
timeout-free = (refl, (refl, (refl, (refl, (refl, (refl, (refl, (refl, (refl, (refl, (refl, (refl, (refl, tt)))))))))))))

timeout-reads : (d : Draft) (o : Option ℕ) → Where IsNumber o → d.wanted.options.batch_timeout ≡ None →
    Say (map (λ n. codes "batch-timeout=" ++ decimal n) (option_to_list o)) d (with_options d (record d.wanted.options { batch_timeout = o }))
timeout-reads d None can none = record { is = ap (λ o. Some (with_options d (record d.wanted.options { batch_timeout = o }))) none; within = tt }
timeout-reads d (Some n) can none =
    say-word d _ (codes "batch-timeout=" ++ decimal n) (front-within (codes "batch-timeout=") (decimal n) refl (decimal-within n can))
    (rw (cut-at (codes "batch-timeout") (decimal n) timeout-free, none, number-decimal n can) refl)

pub small : (n : ℕ) → n < 2 ^ 31 → signed_32 n ≡ Some (pos n)
small n lt = grind (arith, nat_tests)

access-reads : (d : Draft) (o : Option ℤ) → Where IsUnsigned o → d.wanted.options.access_mode ≡ None →
    Say (map (λ z. codes "access=" ++ signed_word z) (option_to_list o)) d (with_options d (record d.wanted.options { access_mode = o }))
access-reads d None can none = record { is = ap (λ o. Some (with_options d (record d.wanted.options { access_mode = o }))) none; within = tt }
access-reads d (Some (negsuc n)) can none = absurd can
access-reads d (Some (pos n)) can none =
    let wide : n < 2 ^ 64 = omega (arith, can) in
    say-word d _ (codes "access=" ++ decimal n) (front-within (codes "access=") (decimal n) refl (decimal-within n wide))
    (rw (cut-at (codes "access") (decimal n) (refl, (refl, (refl, (refl, (refl, (refl, tt)))))), none, number-decimal n wide, small n can) refl)

block-reads : (d : Draft) (b : Bool) → d.wanted.options.block_queue_if_full ≡ false → d.has_block ≡ false →
    Say (block_words b) d (record { wanted = record d.wanted { options = record d.wanted.options { block_queue_if_full = b } }; has_block = b })
block-reads d false waits none =
    record {
      is = ap (λ b. Some (record { wanted = record d.wanted { options = record d.wanted.options { block_queue_if_full = b } }; has_block = d.has_block })) waits
          ∙ ap (λ b. Some (record { wanted = record d.wanted { options = record d.wanted.options { block_queue_if_full = false } }; has_block = b })) none;
      within = tt;
    }
block-reads d true waits none = say-word d _ (codes "block=true") (tested-within (codes "block=true") refl) (rw none refl)

policy-reads : (p : RoutingPolicy) → IsPolicy p → policy (policy_word p) ≡ Some p
policy-reads RoundRobin can = refl
policy-reads Single can = refl
policy-reads (Custom n) can = ap (λ o. o >>= λ n. Some (Custom n)) (number-decimal n can)

policy-within : (p : RoutingPolicy) → IsPolicy p → IsWithinWord (policy_word p)
policy-within RoundRobin can = tested-within (codes "round") refl
policy-within Single can = tested-within (codes "single") refl
policy-within (Custom n) can = front-within (codes "custom:") (decimal n) refl (decimal-within n can)

route-reads : (d : Draft) (o : Option RoutingPolicy) → Where IsPolicy o → d.wanted.options.routing_policy ≡ None →
    Say (map (λ p. codes "route=" ++ policy_word p) (option_to_list o)) d (with_options d (record d.wanted.options { routing_policy = o }))
route-reads d None can none = record { is = ap (λ o. Some (with_options d (record d.wanted.options { routing_policy = o }))) none; within = tt }
route-reads d (Some p) can none =
    say-word d _ (codes "route=" ++ policy_word p) (front-within (codes "route=") (policy_word p) refl (policy-within p can))
    (rw (cut-at (codes "route") (policy_word p) (refl, (refl, (refl, (refl, (refl, tt))))), none, policy-reads p can) refl)

encrypted-reads : (d : Draft) (o : Option Bool) → d.wanted.options.encrypted ≡ None →
    Say (map (λ b. codes "encrypted=" ++ flag_word b) (option_to_list o)) d (with_options d (record d.wanted.options { encrypted = o }))
encrypted-reads d None none = record { is = ap (λ o. Some (with_options d (record d.wanted.options { encrypted = o }))) none; within = tt }
encrypted-reads d (Some b) none =
    say-word d _ (codes "encrypted=" ++ flag_word b) (front-within (codes "encrypted=") (flag_word b) refl (flag-within b))
    (rw (cut-at (codes "encrypted") (flag_word b) (refl, (refl, (refl, (refl, (refl, (refl, (refl, (refl, (refl, tt))))))))), none, flag-reads b) refl)

-- ITS METADATA

meta-read : (d : Draft) (k v : List ℕ) → IsText k → IsText v → one d (meta_word (k, v)) ≡ Some (with_meta d k v)
meta-read d k v ks vs =
    rw (cut-at (codes "meta") (word k ++ 61 ∷ word v) (refl, (refl, (refl, (refl, tt)))), cut-at (word k) (word v) (word-free k ks.0), text-word k ks.0 ks.1, text-word v vs.0 vs.1) refl

-- entries in the order of their names are put one behind the other
metadata-reads : (d : Draft) (ps : List Property) → AllByRecursion IsProperty ps → IsStrictlySortedBy (slice_cmp nat_cmp) (map (λ p. p.0) ps) → AreBelow d.wanted.options.metadata ps →
    all d (map meta_word ps) ≡ Some (with_options d (record d.wanted.options { metadata = d.wanted.options.metadata ++ ps }))
unfolding IsStrictlySortedBy
metadata-reads d [] can ordered below = ap (λ ps. Some (with_options d (record d.wanted.options { metadata = ps }))) (sym (append-nil d.wanted.options.metadata))
metadata-reads d (p ∷ ps) can ordered below =
    let there = stands-last d.wanted.options.metadata p.0 p.1 below.0 in
    ap (λ o. o >>= λ x. all x (map meta_word ps)) (meta-read d p.0 p.1 can.0.0 can.0.1 ∙ ap (λ es. Some (with_options d (record d.wanted.options { metadata = es }))) there)
    ∙ metadata-reads (with_options d (record d.wanted.options { metadata = d.wanted.options.metadata ++ p ∷ [] })) ps can.1 ordered.1 (more-below d.wanted.options.metadata p ps below.1 ordered.0)
    ∙ ap (λ es. Some (with_options d (record d.wanted.options { metadata = es }))) (append_assoc d.wanted.options.metadata (p ∷ []) ps)

pub meta-within : (p : Property) → IsProperty p → IsWithinWord (meta_word p)
meta-within p can =
    front-within (codes "meta=") (word p.0 ++ 61 ∷ word p.1) refl
    (All-append (λ c. (c == 32) ≡ false) (word p.0) (61 ∷ word p.1) (word-within p.0 can.0.0) (front-within (61 ∷ []) (word p.1) refl (word-within p.1 can.1.0)))

metadata-say : (d : Draft) (ps : List Property) → AllByRecursion IsProperty ps → IsStrictlySortedBy (slice_cmp nat_cmp) (map (λ p. p.0) ps) → AreBelow d.wanted.options.metadata ps →
    Say (map meta_word ps) d (with_options d (record d.wanted.options { metadata = d.wanted.options.metadata ++ ps }))
metadata-say d ps can ordered below = record { is = metadata-reads d ps can ordered below; within = all-map IsProperty IsWithinWord meta_word meta-within ps can }

-- ITS SCHEMA

-- the name always stands there
schema-some : (s : Values rows.schema) → 0 < length (spelling rows.schema s)
unfolding spelling varint_in
schema-some s = omega arith

pub schema-read : (s : Values rows.schema) → IsSchema s → schema_of (encode_lower (spelling rows.schema s)) ≡ Some s
schema-read s can =
    let bytes = spelling rows.schema s in
    ap (λ o. o >>= reading rows.schema) (hex-encoded bytes can.1 (schema-some s)) ∙ round_trip rows.schema s refl can.0

schema-reads : (d : Draft) (o : Option (Values rows.schema)) → Where IsSchema o → d.wanted.options.schema ≡ None →
    Say (map (λ s. codes "schema=" ++ encode_lower (spelling rows.schema s)) (option_to_list o)) d (with_options d (record d.wanted.options { schema = o }))
schema-reads d None can none = record { is = ap (λ o. Some (with_options d (record d.wanted.options { schema = o }))) none; within = tt }
schema-reads d (Some s) can none =
    let hex = encode_lower (spelling rows.schema s) in
    say-word d _ (codes "schema=" ++ hex) (front-within (codes "schema=") hex refl (hex-within (spelling rows.schema s) can.1))
    (rw (cut-at (codes "schema") hex (refl, (refl, (refl, (refl, (refl, (refl, tt)))))), none, schema-read s can) refl)

-- ALL

-- a draft of whose options nothing is said yet
abbrev begun : (topic name : Option (List ℕ)) → Draft
begun topic name = record { wanted = record { topic = topic; name = name; options = empty_producer_options }; has_block = false }

abbrev made : (topic name : Option (List ℕ)) → ProducerOptionsValues → Draft
made topic name o = record { wanted = record { topic = topic; name = name; options = o }; has_block = o.block_queue_if_full }

options-told : (topic name : Option (List ℕ)) (o : ProducerOptionsValues) → CanBeMade o → Say (option_words o) (begun topic name) (made topic name o)
options-told topic name o can =
    say-both (say-both (say-both (say-both (say-both (say-both (say-both (say-both
    (batch-reads (begun topic name) o.batch_size can.batch_size refl)
    (bytes-reads _ o.batch_byte_size can.batch_byte_size refl))
    (timeout-reads _ o.batch_timeout can.batch_timeout refl))
    (access-reads _ o.access_mode can.access_mode refl))
    (block-reads _ o.block_queue_if_full refl refl))
    (route-reads _ o.routing_policy can.routing_policy refl))
    (encrypted-reads _ o.encrypted refl))
    (metadata-say _ o.metadata can.metadata can.ordered (none-below o.metadata)))
    (schema-reads _ o.schema can.schema refl)

pub options-within : (o : ProducerOptionsValues) → CanBeMade o → AllByRecursion IsWithinWord (option_words o)
options-within o can = (options-told None None o can).within

pub options-read : (o : ProducerOptionsValues) → CanBeMade o → options (option_words o) ≡ Some o
options-read o can = ap (λ (t : Option Draft). (t >>= λ d. Some d.wanted) >>= options_in) (options-told None None o can).is

producer-said : (w : ProducerWanted) → Where IsText w.topic → Where IsText w.name → CanBeMade w.options → Say (producer_words w) blank (made w.topic w.name w.options)
producer-said w topic name can =
    say-both (say-both (topic-reads blank w.topic topic refl) (name-reads _ w.name name refl)) (options-told w.topic w.name w.options can)

pub producer-within : (w : ProducerWanted) → Where IsText w.topic → Where IsText w.name → CanBeMade w.options → AllByRecursion IsWithinWord (producer_words w)
producer-within w topic name can = (producer-said w topic name can).within

pub producer-reads : (w : ProducerWanted) → Where IsText w.topic → Where IsText w.name → CanBeMade w.options → producer (producer_words w) ≡ Some w
producer-reads w topic name can = ap (λ (t : Option Draft). t >>= λ d. Some d.wanted) (producer-said w topic name can).is
