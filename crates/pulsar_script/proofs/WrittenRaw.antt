-- The words of what is asked of one connection are read back: texts, numbers, messages, ids and credentials.
use Rattle.std.proofs.Common.{◌≡◌, ◌==◌, ℕ, zero, ℤ, pos, negsuc, subst, ◌+◌, ◌*◌, ◌/◌, ◌%◌, ◌^◌, ◌<◌, ◌∙◌, sym, ap, List, [], ◌∷◌, ◌++◌, refl, arith, Bool, true, false, map, Option, Some, None, length, codes, append-nil, append_assoc, suc, cond, take, drop, nat_lt, length-append}
use Rattle.std.specs.Prelude.{FitsSigned}
use Rattle.std.specs.BTreeMap.{insert_entry}
use Rattle.std.specs.Cmp.Lexicographic.{slice_cmp}
use Rattle.std.specs.Fmt.{decimal}
use Rattle.std.specs.Int.{w32, w64, cast_unsigned}
use Rattle.std.specs.List.{AllByRecursion, flat_map, position, position_or_len}
use Rattle.std.specs.List.Sorted.{IsStrictlySortedBy}
use Rattle.std.specs.Option.{option_to_list}
use Rattle.std.specs.Ordering.{nat_cmp, ordering_reverse}
use Rattle.std.specs.declared.cmp.Ordering.TheVariants.{Less, Greater}
use Rattle.std.specs.Str.{bytes_eq}
use Rattle.std.proofs.lemmas.Bool.Decides.{nat_tests}
use Rattle.std.proofs.lemmas.Cmp.{nat_list_cmp_total}
use Rattle.std.proofs.lemmas.List.Elements.{All-append, All-cons, All-nil}
use Rattle.std.proofs.lemmas.Option.{none-some}
use Rattle.std.proofs.lemmas.Slice.Eq.{bytes_eq-Decides}
use Rattle.std.proofs.Math.Nat.{pow-succ'}
use Rattle.std.proofs.Math.Seq.{take-append_seam, drop-append-add}
use Rattle.hex.specs.Hex.{IsBytes}
use Rattle.pulsar_wire.specs.Field.{◌>>=◌}
use Rattle.pulsar_wire.specs.Fits.{FitsContent, InRange}
use Rattle.pulsar_wire.specs.Row.{Kind, Text, Bytes, Uint32, Uint64, Int32, Int64, Flag, Row, End, Plain, Embedded, Numbers, Values, Content, each, entry, items, reading, spelling, varint, varint_in, wire, wire_type}
use Rattle.pulsar_wire.specs.Rows.{message_id}
use Rattle.pulsar_wire.specs.declared.commands.enumerations.SubType.{SubType}
use Rattle.pulsar_wire.specs.declared.commands.enumerations.SubType.TheVariants.{Exclusive, Shared, Failover, KeyShared}
use Rattle.pulsar_wire.specs.declared.commands.topics.Mode.{Mode}
use Rattle.pulsar_wire.specs.declared.commands.topics.Mode.TheVariants.{Persistent, NonPersistent, All}
use Rattle.pulsar_wire.proofs.RoundTrip.{round_trip}
use Rattle.pulsar_messages.specs.Content.{AuthenticationValues, ProducerMessageValues, Property}
use Rattle.pulsar_grammar.specs.Words.{hex, in_range, is_digit, number, optional, small_number, text, word_bytes, words}
use Rattle.pulsar_grammar.specs.Choices.{cumulative, flag, mode, sub_type}
use Rattle.pulsar_printing.specs.WordText.{is_printed, printed, upper_digit, word}
use Rattle.pulsar_grammar.specs.MessageWords.{Draft, all, blank, cut, message, minus, one, plus, signed, with_cluster, with_data, with_property}
use Rattle.pulsar_grammar.specs.Encoded.{id, id_bytes}
use Rattle.pulsar_grammar.specs.RawLines.{credential}
use Rattle.pulsar_script.specs.WrittenRaw.{CanBeSent, IsCredential, IsId, IsNumber, IsProperty, IsSigned, IsText, Where, behind_blanks, credential_words, cumulative_word, flag_word, id_word, message_words, mode_word, optional_word, plain, property_word, signed_word, sub_type_word}
use Rattle.pulsar_script.proofs.WrittenLines.{IsWithinWord, decimal-within, first-word, hex-encoded, hex-within, number-decimal, one-word, same-some, single, step-off, text-word, word-bytes, word-within}

-- LISTS

-- what holds of the elements of two lists holds of those of both together
pub all-both : {A : Type 0} (P : A → Type 0) (xs ys : List A) → AllByRecursion P xs → AllByRecursion P ys → AllByRecursion P (xs ++ ys)
all-both P [] ys h k = k
all-both P (x ∷ xs) ys h k = (h.0, all-both P xs ys h.1 k)

pub all-map : {A B : Type 0} (P : A → Type 0) (Q : B → Type 0) (f : A → B) → ((x : A) → P x → Q (f x)) → (xs : List A) → AllByRecursion P xs → AllByRecursion Q (map f xs)
all-map P Q f each-one [] h = tt
all-map P Q f each-one (x ∷ xs) h = (each-one x h.0, all-map P Q f each-one xs h.1)

all-flat : {A B : Type 0} (P : A → Type 0) (Q : B → Type 0) (f : A → List B) → ((x : A) → P x → AllByRecursion Q (f x)) → (xs : List A) → AllByRecursion P xs → AllByRecursion Q (flat_map f xs)
all-flat P Q f each-one [] h = tt
all-flat P Q f each-one (x ∷ xs) h = all-both Q (f x) (flat_map f xs) (each-one x h.0) (all-flat P Q f each-one xs h.1)

-- THE WORDS OF A LINE

-- words with a blank in front of each are parted at the blanks
pub words-behind : (first : List ℕ) (ws : List (List ℕ)) → IsWithinWord first → AllByRecursion IsWithinWord ws → words (first ++ behind_blanks ws) ≡ first ∷ ws
words-behind first [] within all = ap words (append-nil first) ∙ one-word first within
words-behind first (w ∷ ws) within all = first-word first (w ++ behind_blanks ws) within ∙ ap (λ (t : List (List ℕ)). first ∷ t) (words-behind w ws all.0 all.1)

-- whether a word has no blank
abbrev has_no_blank : List ℕ → Bool
has_no_blank [] = true
has_no_blank (b ∷ bs) = cond (b == 32) false (has_no_blank bs)

tested-next : (b : ℕ) (bs : List ℕ) (t : Bool) → (b == 32) ≡ t → cond t false (has_no_blank bs) ≡ true → (has_no_blank bs ≡ true → IsWithinWord bs) → IsWithinWord (b ∷ bs)
tested-next b bs true e h more = absurd cc
tested-next b bs false e h more = All-cons (λ c. (c == 32) ≡ false) b bs e (more h)

-- a word that passes has none
pub tested-within : (w : List ℕ) → has_no_blank w ≡ true → IsWithinWord w
tested-within [] h = All-nil (λ c. (c == 32) ≡ false)
tested-within (b ∷ bs) h = tested-next b bs (b == 32) refl h (tested-within bs)

-- a word behind a front
pub front-within : (front w : List ℕ) → has_no_blank front ≡ true → IsWithinWord w → IsWithinWord (front ++ w)
front-within front w h within = All-append (λ c. (c == 32) ≡ false) front w (tested-within front h) within

-- WORDS

pub flag-within : (b : Bool) → IsWithinWord (flag_word b)
flag-within true = tested-within (codes "true") refl
flag-within false = tested-within (codes "false") refl

pub type-within : (k : SubType) → IsWithinWord (sub_type_word k)
type-within Exclusive = tested-within (codes "exclusive") refl
type-within Shared = tested-within (codes "shared") refl
type-within Failover = tested-within (codes "failover") refl
type-within KeyShared = tested-within (codes "key-shared") refl

pub mode-within : (m : Mode) → IsWithinWord (mode_word m)
mode-within Persistent = tested-within (codes "persistent") refl
mode-within NonPersistent = tested-within (codes "non-persistent") refl
mode-within All = tested-within (codes "all") refl

pub mode-reads : (m : Mode) → mode (mode_word m) ≡ Some m
mode-reads Persistent = refl
mode-reads NonPersistent = refl
mode-reads All = refl

pub cumulative-within : (b : Bool) → IsWithinWord (cumulative_word b)
cumulative-within true = tested-within (codes "cumulative") refl
cumulative-within false = tested-within (codes "individual") refl

pub cumulative-reads : (b : Bool) → cumulative (cumulative_word b) ≡ Some b
cumulative-reads true = refl
cumulative-reads false = refl

pub flag-reads : (b : Bool) → flag (flag_word b) ≡ Some b
flag-reads true = refl
flag-reads false = refl

pub type-reads : (k : SubType) → sub_type (sub_type_word k) ≡ Some k
type-reads Exclusive = refl
type-reads Shared = refl
type-reads Failover = refl
type-reads KeyShared = refl

pub small-reads : (n : ℕ) → n < 2 ^ 32 → small_number (decimal n) ≡ Some n
small-reads n lt =
    let wide : n < 2 ^ 64 = omega (arith, lt) in
    let is = number-decimal n wide in
    rw is (grind (arith, nat_tests))

tilde-first : (b : ℕ) (rest : List ℕ) (t : Bool) → is_printed b ≡ t → bytes_eq (printed b ++ rest) (codes "~") ≡ false
tilde-first b rest true h =
    let apart : (b == 126) ≡ false = grind (arith, nat_tests) in
    rw (h, apart) refl
tilde-first b rest false h = rw h refl

not-tilde : (t : List ℕ) → bytes_eq (word t) (codes "~") ≡ false
not-tilde [] = refl
not-tilde (b ∷ bs) = tilde-first b (flat_map printed bs) (is_printed b) refl

-- what reads nothing of `~` is read of another word
apart-or : {A : Type 0} (read : List ℕ → Option A) (w : List ℕ) (x : A) (t : Bool) → read (codes "~") ≡ None → bytes_eq w (codes "~") ≡ t → read w ≡ Some x → bytes_eq w (codes "~") ≡ false
apart-or read w x true none e h =
    let same : w ≡ codes "~" = (bytes_eq-Decides w (codes "~")).0 e in
    absurd (none-some x (sym none ∙ sym (ap read same) ∙ h))
apart-or read w x false none e h = e

apart : {A : Type 0} (read : List ℕ → Option A) (w : List ℕ) (x : A) → read (codes "~") ≡ None → read w ≡ Some x → bytes_eq w (codes "~") ≡ false
apart read w x none h = apart-or read w x (bytes_eq w (codes "~")) none refl h

there : {A : Type 0} (read : List ℕ → Option A) (w : List ℕ) (x : A) → bytes_eq w (codes "~") ≡ false → read w ≡ Some x → optional read w ≡ Some (Some x)
there read w x e h = rw (e, h) refl

-- what may be absent is read back
pub name-reads : (o : Option (List ℕ)) → Where IsText o → optional text (optional_word word o) ≡ Some o
name-reads None can = refl
name-reads (Some t) can = there text (word t) t (not-tilde t) (text-word t can.0 can.1)

pub bytes-reads : (o : Option (List ℕ)) → Where IsBytes o → optional word_bytes (optional_word word o) ≡ Some o
bytes-reads None can = refl
bytes-reads (Some t) can = there word_bytes (word t) t (not-tilde t) (word-bytes t can)

pub time-reads : (o : Option ℕ) → Where IsNumber o → optional number (optional_word decimal o) ≡ Some o
time-reads None can = refl
time-reads (Some n) can =
    let is = number-decimal n can in
    there number (decimal n) n (apart number (decimal n) n refl is) is

pub name-within : (o : Option (List ℕ)) → Where IsText o → IsWithinWord (optional_word word o)
name-within None can = single 126 refl
name-within (Some t) can = word-within t can.0

pub bytes-within : (o : Option (List ℕ)) → Where IsBytes o → IsWithinWord (optional_word word o)
bytes-within None can = single 126 refl
bytes-within (Some t) can = word-within t can

pub time-within : (o : Option ℕ) → Where IsNumber o → IsWithinWord (optional_word decimal o)
time-within None can = single 126 refl
time-within (Some n) can = decimal-within n can

-- A NAME IN FRONT OF `=`

abbrev pub NoEquals : List ℕ → Type 0
NoEquals w = AllByRecursion (λ b. (b == 61) ≡ false) w

one-more : (n : ℕ) → 1 + n ≡ suc n
one-more n = omega arith

-- the first `=` stands right behind a front that has none
at-equals : (w rest : List ℕ) → NoEquals w → position_or_len (λ b. b == 61) (w ++ 61 ∷ rest) ≡ length w
at-equals [] rest h = refl
at-equals (b ∷ w) rest h = rw h.0 (ap (λ n. 1 + n) (at-equals w rest h.1) ∙ one-more (length w))

found-at : (w : List ℕ) (at : ℕ) → position_or_len (λ b. b == 61) w ≡ at → nat_lt at (length w) ≡ true → position (λ b. b == 61) w ≡ Some at
found-at w at h within = rw (h, within) refl

cut-found : (w front back : List ℕ) (at : ℕ) → position (λ b. b == 61) w ≡ Some at → take at w ≡ front → drop (at + 1) w ≡ back → cut w ≡ Some (front, back)
cut-found w front back at h before behind = rw (h, before, behind) refl

-- such a front is cut off there
pub cut-at : (w rest : List ℕ) → NoEquals w → cut (w ++ 61 ∷ rest) ≡ Some (w, rest)
cut-at w rest h =
    let size : length (w ++ 61 ∷ rest) ≡ length w + suc (length rest) = length-append w (61 ∷ rest) in
    let within : nat_lt (length w) (length (w ++ 61 ∷ rest)) ≡ true = rw size (grind (arith, nat_tests)) in
    cut-found (w ++ 61 ∷ rest) w rest (length w) (found-at (w ++ 61 ∷ rest) (length w) (at-equals w rest h) within) (take-append_seam w (61 ∷ rest)) (drop-append-add w (61 ∷ rest) 1)

upper-free : (n : ℕ) → n < 16 → (upper_digit n == 61) ≡ false
upper-free n lt = grind (arith, nat_tests)

printed-free : (b : ℕ) (t : Bool) → is_printed b ≡ t → b < 256 → NoEquals (printed b)
printed-free b true h lt =
    let apart : (b == 61) ≡ false = grind (arith, nat_tests) in
    rw h (apart, tt)
printed-free b false h lt =
    let high : b / 16 < 16 = omega arith in
    let low : b % 16 < 16 = omega arith in
    rw h (refl, (upper-free (b / 16) high, (upper-free (b % 16) low, tt)))

-- no printed byte is `=`
all-free : (t : List ℕ) → IsBytes t → NoEquals (flat_map printed t)
all-free [] is = tt
all-free (b ∷ bs) is = all-both (λ c. (c == 61) ≡ false) (printed b) (flat_map printed bs) (printed-free b (is_printed b) refl (is 0)) (all-free bs (λ i. is (suc i)))

pub word-free : (t : List ℕ) → IsBytes t → NoEquals (word t)
word-free [] is = (refl, tt)
word-free (b ∷ bs) is = all-free (b ∷ bs) is

-- PARTS OF A MESSAGE

on-next : (d : Draft) (w : List ℕ) (ws vs : List (List ℕ)) (e : Draft) (o : Option Draft) → one d w ≡ o → all d (w ∷ ws) ≡ Some e → ((x : Draft) → all x ws ≡ Some e → all x (ws ++ vs) ≡ all e vs) → all d (w ∷ (ws ++ vs)) ≡ all e vs
on-next d w ws vs e None is h more = absurd (none-some e (sym (ap (λ o. o >>= λ x. all x ws) is) ∙ h))
on-next d w ws vs e (Some x) is h more = ap (λ o. o >>= λ y. all y (ws ++ vs)) is ∙ more x (sym (ap (λ o. o >>= λ y. all y ws) is) ∙ h)

-- what words say, and then further ones
all-on : (d : Draft) (ws vs : List (List ℕ)) (e : Draft) → all d ws ≡ Some e → all d (ws ++ vs) ≡ all e vs
all-on d [] vs e h = ap (λ x. all x vs) (same-some d e h)
all-on d (w ∷ ws) vs e h = on-next d w ws vs e (one d w) refl h (λ x g. all-on x ws vs e g)

-- words without a blank that make one draft of another
pub record Say (ws : List (List ℕ)) (d e : Draft) : Type 0 where
  pub is : all d ws ≡ Some e
  pub within : AllByRecursion IsWithinWord ws

-- words, and then further ones
say-both : {ws vs : List (List ℕ)} {d e f : Draft} → Say ws d e → Say vs e f → Say (ws ++ vs) d f
say-both {ws} {vs} {d} {e} h k = record { is = all-on d ws vs e h.is ∙ k.is; within = all-both IsWithinWord ws vs h.within k.within }

say-first : (d e : Draft) (w : List ℕ) {ws : List (List ℕ)} {f : Draft} → IsWithinWord w → one d w ≡ Some e → Say ws e f → Say (w ∷ ws) d f
say-first d e w {ws} within h k = record { is = ap (λ o. o >>= λ x. all x ws) h ∙ k.is; within = (within, k.within) }

-- a part of two letters
short-cut : (a b : ℕ) (rest : List ℕ) → (a == 61) ≡ false → (b == 61) ≡ false → cut (a ∷ b ∷ 61 ∷ rest) ≡ Some (a ∷ b ∷ [], rest)
short-cut a b rest h k = cut-at (a ∷ b ∷ []) rest (h, (k, tt))

-- each part gives a draft its value
data-reads : (bytes : List ℕ) → IsBytes bytes → one blank (codes "data=" ++ word bytes) ≡ Some (with_data blank bytes)
data-reads bytes is = rw (cut-at (codes "data") (word bytes) (refl, (refl, (refl, (refl, tt)))), word-bytes bytes is) refl

pk-reads : (d : Draft) (o : Option (List ℕ)) → Where IsText o → d.message.partition_key ≡ None →
    Say (map (λ t. codes "pk=" ++ word t) (option_to_list o)) d (record d { message = record d.message { partition_key = o } })
pk-reads d None can none = record { is = ap (λ o. Some (record d { message = record d.message { partition_key = o } })) none; within = tt }
pk-reads d (Some t) can none = record { is = rw (short-cut 112 107 (word t) refl refl, none, text-word t can.0 can.1) refl; within = (front-within (codes "pk=") (word t) refl (word-within t can.0), tt) }

ok-reads : (d : Draft) (o : Option (List ℕ)) → Where IsBytes o → d.message.ordering_key ≡ None →
    Say (map (λ t. codes "ok=" ++ word t) (option_to_list o)) d (record d { message = record d.message { ordering_key = o } })
ok-reads d None can none = record { is = ap (λ o. Some (record d { message = record d.message { ordering_key = o } })) none; within = tt }
ok-reads d (Some t) can none = record { is = rw (short-cut 111 107 (word t) refl refl, none, word-bytes t can) refl; within = (front-within (codes "ok=") (word t) refl (word-within t can), tt) }

et-reads : (d : Draft) (o : Option ℕ) → Where IsNumber o → d.message.event_time ≡ None →
    Say (map (λ n. codes "et=" ++ decimal n) (option_to_list o)) d (record d { message = record d.message { event_time = o } })
et-reads d None can none = record { is = ap (λ o. Some (record d { message = record d.message { event_time = o } })) none; within = tt }
et-reads d (Some n) can none = record { is = rw (short-cut 101 116 (decimal n) refl refl, none, number-decimal n can) refl; within = (front-within (codes "et=") (decimal n) refl (decimal-within n can), tt) }

sv-reads : (d : Draft) (o : Option (List ℕ)) → Where IsBytes o → d.message.schema_version ≡ None →
    Say (map (λ t. codes "sv=" ++ word t) (option_to_list o)) d (record d { message = record d.message { schema_version = o } })
sv-reads d None can none = record { is = ap (λ o. Some (record d { message = record d.message { schema_version = o } })) none; within = tt }
sv-reads d (Some t) can none = record { is = rw (short-cut 115 118 (word t) refl refl, none, word-bytes t can) refl; within = (front-within (codes "sv=") (word t) refl (word-within t can), tt) }

cluster-read : (d : Draft) (t : List ℕ) → IsText t → one d (codes "rep=" ++ word t) ≡ Some (with_cluster d t)
cluster-read d t can = rw (cut-at (codes "rep") (word t) (refl, (refl, (refl, tt))), text-word t can.0 can.1) refl

-- clusters are put one behind the other
clusters-read : (d : Draft) (ts : List (List ℕ)) → AllByRecursion IsText ts →
    all d (map (λ t. codes "rep=" ++ word t) ts) ≡ Some (record d { message = record d.message { replicate_to = d.message.replicate_to ++ ts } })
clusters-read d [] can = ap (λ ts. Some (record d { message = record d.message { replicate_to = ts } })) (sym (append-nil d.message.replicate_to))
clusters-read d (t ∷ ts) can =
    ap (λ o. o >>= λ x. all x (map (λ u. codes "rep=" ++ word u) ts)) (cluster-read d t can.0) ∙ clusters-read (with_cluster d t) ts can.1
    ∙ ap (λ us. Some (record d { message = record d.message { replicate_to = us } })) (append_assoc d.message.replicate_to (t ∷ []) ts)

-- SIGNED NUMBERS

first-digit : (b : ℕ) (bs : List ℕ) (n : ℕ) (t : Bool) → is_digit b ≡ t → number (b ∷ bs) ≡ Some n → is_digit b ≡ true
first-digit b bs n true e h = e
first-digit b bs n false e h = absurd (none-some n (sym (ap in_range (step-off 0 b bs e)) ∙ h))

not-minus : (b : ℕ) → is_digit b ≡ true → (b == 45) ≡ false
not-minus b h = grind (arith, nat_tests)

-- a word that is a number has no sign
signed-plain : (w : List ℕ) (n : ℕ) → number w ≡ Some n → signed w ≡ plus n
signed-plain [] n h = absurd (none-some n h)
signed-plain (b ∷ bs) n h = rw (not-minus b (first-digit b bs n (is_digit b) refl h), h) refl

plus-small : (n : ℕ) → n < 2 ^ 63 → plus n ≡ Some (pos n)
plus-small n lt = grind (arith, nat_tests)

minus-small : (n : ℕ) → n < 2 ^ 63 → minus (suc n) ≡ Some (negsuc n)
minus-small n lt = grind (arith, nat_tests)

one-up : (n : ℕ) → n + 1 ≡ suc n
one-up n = omega arith

-- a number with a sign, or with none
signed-reads : (z : ℤ) → IsSigned z → signed (signed_word z) ≡ Some z
signed-reads (pos n) lt = signed-plain (decimal n) n (number-decimal n (omega (arith, lt))) ∙ plus-small n lt
signed-reads (negsuc n) lt = ap (λ o. o >>= minus) (number-decimal (n + 1) (omega (arith, lt))) ∙ ap minus (one-up n) ∙ minus-small n lt

signed-within : (z : ℤ) → IsSigned z → IsWithinWord (signed_word z)
signed-within (pos n) lt = decimal-within n (omega (arith, lt))
signed-within (negsuc n) lt = front-within (45 ∷ []) (decimal (n + 1)) refl (decimal-within (n + 1) (omega (arith, lt)))

at-reads : (d : Draft) (o : Option ℤ) → Where IsSigned o → d.message.deliver_at_time ≡ None →
    Say (map (λ z. codes "at=" ++ signed_word z) (option_to_list o)) d (record d { message = record d.message { deliver_at_time = o } })
at-reads d None can none = record { is = ap (λ o. Some (record d { message = record d.message { deliver_at_time = o } })) none; within = tt }
at-reads d (Some z) can none = record { is = rw (short-cut 97 116 (signed_word z) refl refl, none, signed-reads z can) refl; within = (front-within (codes "at=") (signed_word z) refl (signed-within z can), tt) }

-- PROPERTIES

-- the names of some entries are below a name
abbrev pub Below : List Property → List ℕ → Type 0
Below es k = AllByRecursion (λ e. slice_cmp nat_cmp e.0 k ≡ Less) es

-- an entry above all others stands last
pub stands-last : (es : List Property) (k v : List ℕ) → Below es k → insert_entry (slice_cmp nat_cmp) es k v ≡ es ++ (k, v) ∷ []
stands-last [] k v h = refl
stands-last (e ∷ es) k v h =
    let greater : slice_cmp nat_cmp k e.0 ≡ Greater = nat_list_cmp_total.antisymm k e.0 ∙ ap ordering_reverse h.0 in
    rw greater (ap (λ t. e ∷ t) (stands-last es k v h.1))

-- the names of some entries are below those of others
abbrev pub AreBelow : List Property → List Property → Type 0
AreBelow es ps = AllByRecursion (λ p. Below es p.0) ps

-- at first there is no property
pub none-below : (ps : List Property) → AreBelow [] ps
none-below [] = tt
none-below (p ∷ ps) = (tt, none-below ps)

pub more-below : (es : List Property) (p : List ℕ × List ℕ) (ps : List Property) → AreBelow es ps → AllByRecursion (λ k. slice_cmp nat_cmp p.0 k ≡ Less) (map (λ q. q.0) ps) → AreBelow (es ++ p ∷ []) ps
more-below es p [] h above = tt
more-below es p (q ∷ ps) h above = (all-both (λ e. slice_cmp nat_cmp e.0 q.0 ≡ Less) es (p ∷ []) h.0 (above.0, tt), more-below es p ps h.1 above.1)

property-read : (d : Draft) (k v : List ℕ) → IsText k → IsText v → one d (property_word (k, v)) ≡ Some (with_property d k v)
property-read d k v ks vs = rw (cut-at (codes "prop") (word k ++ 61 ∷ word v) (refl, (refl, (refl, (refl, tt)))), cut-at (word k) (word v) (word-free k ks.0), text-word k ks.0 ks.1, text-word v vs.0 vs.1) refl

-- properties in the order of their names are put one behind the other
properties-read : (d : Draft) (ps : List Property) → AllByRecursion IsProperty ps → IsStrictlySortedBy (slice_cmp nat_cmp) (map (λ p. p.0) ps) → AreBelow d.message.properties ps →
    all d (map property_word ps) ≡ Some (record d { message = record d.message { properties = d.message.properties ++ ps } })
unfolding IsStrictlySortedBy
properties-read d [] can ordered below = ap (λ ps. Some (record d { message = record d.message { properties = ps } })) (sym (append-nil d.message.properties))
properties-read d (p ∷ ps) can ordered below =
    let there = stands-last d.message.properties p.0 p.1 below.0 in
    ap (λ o. o >>= λ x. all x (map property_word ps)) (property-read d p.0 p.1 can.0.0 can.0.1 ∙ ap (λ es. Some (record d { message = record d.message { properties = es } })) there)
    ∙ properties-read (record d { message = record d.message { properties = d.message.properties ++ p ∷ [] } }) ps can.1 ordered.1 (more-below d.message.properties p ps below.1 ordered.0)
    ∙ ap (λ es. Some (record d { message = record d.message { properties = es } })) (append_assoc d.message.properties (p ∷ []) ps)

property-within : (p : Property) → IsProperty p → IsWithinWord (property_word p)
property-within p can =
    front-within (codes "prop=") (word p.0 ++ 61 ∷ word p.1) refl
    (All-append (λ c. (c == 32) ≡ false) (word p.0) (61 ∷ word p.1) (word-within p.0 can.0.0) (front-within (61 ∷ []) (word p.1) refl (word-within p.1 can.1.0)))

-- A MESSAGE

properties-say : (d : Draft) (ps : List Property) → AllByRecursion IsProperty ps → IsStrictlySortedBy (slice_cmp nat_cmp) (map (λ p. p.0) ps) → AreBelow d.message.properties ps →
    Say (map property_word ps) d (record d { message = record d.message { properties = d.message.properties ++ ps } })
properties-say d ps can ordered below = record { is = properties-read d ps can ordered below; within = all-map IsProperty IsWithinWord property_word property-within ps can }

clusters-say : (d : Draft) (ts : List (List ℕ)) → AllByRecursion IsText ts →
    Say (map (λ t. codes "rep=" ++ word t) ts) d (record d { message = record d.message { replicate_to = d.message.replicate_to ++ ts } })
clusters-say d ts can = record { is = clusters-read d ts can; within = all-map IsText IsWithinWord (λ t. codes "rep=" ++ word t) (λ t is. front-within (codes "rep=") (word t) refl (word-within t is.0)) ts can }

-- a plain message is what its words say
plain-said : (m : ProducerMessageValues) → CanBeSent m → Say (message_words m) blank (record { message = plain m; has_data = true })
plain-said m can =
    say-first blank (with_data blank m.payload) (codes "data=" ++ word m.payload) (front-within (codes "data=") (word m.payload) refl (word-within m.payload can.payload)) (data-reads m.payload can.payload)
    (say-both (say-both (say-both (say-both (say-both (say-both
    (properties-say (with_data blank m.payload) m.properties can.properties can.ordered (none-below m.properties))
    (pk-reads _ m.partition_key can.partition_key refl))
    (ok-reads _ m.ordering_key can.ordering_key refl))
    (clusters-say _ m.replicate_to can.replicate_to))
    (et-reads _ m.event_time can.event_time refl))
    (sv-reads _ m.schema_version can.schema_version refl))
    (at-reads _ m.deliver_at_time can.deliver_at_time refl))

pub message-said : (m : ProducerMessageValues) → CanBeSent m → Say (message_words m) blank (record { message = m; has_data = true })
message-said m can = subst (λ t. Say (message_words m) blank (record { message = t; has_data = true })) can.is_plain (plain-said m can)

pub message-reads : (m : ProducerMessageValues) → CanBeSent m → message (message_words m) ≡ Some m
message-reads m can = ap (λ o. o >>= λ (d : Draft). Some d.message) (message-said m can).is

-- THE BYTES OF AN ID

abbrev AreBytes : List ℕ → Type 0
AreBytes bytes = AllByRecursion (λ b. b < 256) bytes

is-bytes : (bytes : List ℕ) → AreBytes bytes → IsBytes bytes
is-bytes [] h i = omega arith
is-bytes (b ∷ bs) h zero = h.0
is-bytes (b ∷ bs) h (suc i) = is-bytes bs h.1 i

varint-next : (k n : ℕ) (t : Bool) → nat_lt n 128 ≡ t → n < 2 * 128 ^ suc k → (n / 128 < 2 * 128 ^ k → AreBytes (varint_in k (n / 128))) → AreBytes (varint_in (suc k) n)
unfolding varint_in
varint-next k n true e lt more =
    let small : n < 256 = grind (arith, nat_tests) in
    rw e (small, tt)
varint-next k n false e lt more =
    let p : 128 ^ suc k ≡ 128 * 128 ^ k = pow-succ' 128 k in
    let low : n % 128 + 128 < 256 = omega arith in
    rw e (low, more (omega (arith, p, lt)))

-- a number is written in bytes
varint-bytes : (k n : ℕ) → n < 2 * 128 ^ k → AreBytes (varint_in k n)
unfolding varint_in
varint-bytes zero n lt = let small : n < 256 = omega (arith, lt) in (small, tt)
varint-bytes (suc k) n lt = varint-next k n (nat_lt n 128) refl lt (varint-bytes k (n / 128))

number-bytes : (n : ℕ) → n < 2 ^ 64 → AreBytes (varint n)
number-bytes n lt = varint-bytes 9 n (omega (arith, lt))

small-bytes : (z : ℤ) → FitsSigned w32 z → AreBytes (varint (cast_unsigned w64 z))
small-bytes (pos n) fits = let lt : n < 2 ^ 31 = fits.sfits in number-bytes n (omega (arith, lt))
small-bytes (negsuc n) fits = number-bytes (cast_unsigned w64 (negsuc n)) (omega arith)

long-bytes : (z : ℤ) → FitsSigned w64 z → AreBytes (varint (cast_unsigned w64 z))
long-bytes (pos n) fits = let lt : n < 2 ^ 63 = fits.sfits in number-bytes n (omega (arith, lt))
long-bytes (negsuc n) fits = number-bytes (cast_unsigned w64 (negsuc n)) (omega arith)

-- a kind of numbers
abbrev IsOfNumbers : Kind → Type 0
IsOfNumbers Text = ⊥
IsOfNumbers Bytes = ⊥
IsOfNumbers _ = Unit {0}

wire-bytes : (k : Kind) (x : Content k) → IsOfNumbers k → FitsContent k x → AreBytes (wire k x)
wire-bytes Text x is fits = absurd is
wire-bytes Bytes x is fits = absurd is
wire-bytes Uint32 n is lt = number-bytes n (omega (arith, lt))
wire-bytes Uint64 n is lt = number-bytes n lt
wire-bytes Int32 z is fits = small-bytes z fits
wire-bytes Int64 z is fits = long-bytes z fits
wire-bytes Flag true is fits = number-bytes 1 (omega arith)
wire-bytes Flag false is fits = number-bytes 0 (omega arith)

type-small : (k : Kind) → wire_type k < 8
type-small Text = omega arith
type-small Bytes = omega arith
type-small Uint32 = omega arith
type-small Uint64 = omega arith
type-small Int32 = omega arith
type-small Int64 = omega arith
type-small Flag = omega arith

entry-bytes : (n : ℕ) (k : Kind) (x : Content k) → n < 2 ^ 29 → IsOfNumbers k → FitsContent k x → AreBytes (entry n k x)
entry-bytes n k x lt is fits =
    let type = type-small k in
    all-both (λ b. b < 256) _ (wire k x) (number-bytes (8 * n + wire_type k) (omega (arith, lt, type))) (wire-bytes k x is fits)

-- a row whose fields hold numbers
abbrev HoldsNumbers : Row → Type 0
HoldsNumbers End = Unit {0}
HoldsNumbers (Plain n r k row) = (n < 2 ^ 29) × IsOfNumbers k × HoldsNumbers row
HoldsNumbers (Embedded n r inner row) = ⊥
HoldsNumbers (Numbers n row) = (n < 2 ^ 29) × HoldsNumbers row

-- such a row is written in bytes
row-bytes : (row : Row) (vs : Values row) → HoldsNumbers row → InRange row vs → AreBytes (spelling row vs)
unfolding spelling
row-bytes End vs is fits = tt
row-bytes (Plain n r k row) vs is fits =
    all-both (λ b. b < 256) (flat_map (entry n k) (items r vs.0)) (spelling row vs.1) (all-flat (FitsContent k) (λ b. b < 256) (entry n k) (λ x f. entry-bytes n k x is.0 is.1 f) (items r vs.0) fits.0) (row-bytes row vs.1 is.2 fits.1)
row-bytes (Embedded n r inner row) vs is fits = absurd is
row-bytes (Numbers n row) vs is fits =
    all-both (λ b. b < 256) (flat_map (entry n Int64) vs.0) (spelling row vs.1) (all-flat (FitsSigned w64) (λ b. b < 256) (entry n Int64) (λ x f. entry-bytes n Int64 x is.0 tt f) vs.0 fits.0) (row-bytes row vs.1 is.1 fits.1)

id-holds-numbers : HoldsNumbers message_id
id-holds-numbers = (omega arith, tt, (omega arith, tt, (omega arith, tt, (omega arith, tt, (omega arith, (omega arith, tt, tt))))))

id-bytes : (i : Values message_id) → IsId i → IsBytes (spelling message_id i)
id-bytes i fits = is-bytes (spelling message_id i) (row-bytes message_id i id-holds-numbers fits.0)

-- the ledger always stands there
id-some : (i : Values message_id) → 0 < length (spelling message_id i)
unfolding spelling varint_in
id-some i = omega arith

-- IDS

-- a word that is hex is not the one for no bytes
not-percent : (w bytes : List ℕ) (t : Bool) → bytes_eq w (codes "%") ≡ t → hex w ≡ Some bytes → bytes_eq w (codes "%") ≡ false
not-percent w bytes true e h =
    let same : w ≡ 37 ∷ [] = (bytes_eq-Decides w (37 ∷ [])).0 e in
    absurd (none-some bytes (sym (ap hex same) ∙ h))
not-percent w bytes false e h = e

hex-of-id : (w bytes : List ℕ) → hex w ≡ Some bytes → id_bytes w ≡ Some bytes
hex-of-id w bytes h = rw (not-percent w bytes (bytes_eq w (codes "%")) refl h) h

-- an id is read from the hex of its bytes
pub id-reads : (i : Values message_id) → IsId i → id (id_word i) ≡ Some i
id-reads i fits =
    let bytes = spelling message_id i in
    ap (λ o. o >>= reading message_id) (hex-of-id (id_word i) bytes (hex-encoded bytes (id-bytes i fits) (id-some i))) ∙ round_trip message_id i refl fits

pub ids-read : (is : List (Values message_id)) → AllByRecursion IsId is → each id (map id_word is) ≡ Some is
ids-read [] can = refl
ids-read (i ∷ is) can = rw (id-reads i can.0, ids-read is can.1) refl

pub id-within : (i : Values message_id) → IsId i → IsWithinWord (id_word i)
id-within i fits = hex-within (spelling message_id i) (id-bytes i fits)

pub ids-within : (is : List (Values message_id)) → AllByRecursion IsId is → AllByRecursion IsWithinWord (map id_word is)
ids-within is can = all-map IsId IsWithinWord id_word id-within is can

pub place-reads : (o : Option (Values message_id)) → Where IsId o → optional id (optional_word id_word o) ≡ Some o
place-reads None can = refl
place-reads (Some i) can =
    let is = id-reads i can in
    there id (id_word i) i (apart id (id_word i) i refl is) is

pub place-within : (o : Option (Values message_id)) → Where IsId o → IsWithinWord (optional_word id_word o)
place-within None can = single 126 refl
place-within (Some i) can = id-within i can

-- CREDENTIALS

pub credential-reads : (c : AuthenticationValues) → IsCredential c → credential (word c.name) (word c.auth_data) ≡ Some c
credential-reads c can = rw (text-word c.name can.0.0 can.0.1, word-bytes c.auth_data can.1) refl

pub credential-within : (c : AuthenticationValues) → IsCredential c → AllByRecursion IsWithinWord (credential_words c)
credential-within c can = (word-within c.name can.0.0, (word-within c.auth_data can.1, tt))
