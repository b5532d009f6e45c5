-- A written word is read back.
use Rattle.std.proofs.Common.{◌≡◌, ◌==◌, ℕ, ◌+◌, ◌-◌, ◌*◌, ◌/◌, ◌%◌, ◌^◌, ◌<◌, ◌≤◌, ◌∙◌, sym, ap, List, [], ◌∷◌, ◌++◌, refl, arith, Bool, true, false, Option, Some, None, Ok, length, length-append, suc}
use Rattle.std.specs.List.{All as Each, flat_map}
use Rattle.std.specs.Fmt.{decimal}
use Rattle.std.specs.Str.{bytes_eq, is_utf8}
use Rattle.std.proofs.lemmas.Bool.Decides.{nat_tests}
use Rattle.std.proofs.lemmas.Fmt.{decimal_by_steps}
use Rattle.std.proofs.lemmas.List.Elements.{All-append}
use Rattle.std.proofs.lemmas.List.Splits.{slice_split_at, slice_split_none}
use Rattle.std.proofs.lemmas.Option.{none-some}
use Rattle.hex.specs.Hex.{IsBytes, decode_of, encode_lower, hex_digit_value, is_hex_digit}
use Rattle.hex.proofs.HexLemmas.{decode_of-encode_lower, decode_of-ok}
use Rattle.pulsar_grammar.specs.Words.{digits_from, hex, in_range, is_digit, is_plain, number, text, unescaped, word_bytes, words}
use Rattle.pulsar_printing.specs.WordText.{is_printed, printed, upper_digit, word}
use Rattle.std.proofs.lemmas.Slice.Eq.{bytes_eq-Decides}
use Rattle.pulsar_grammar.proofs.Numbers.{all-read}

-- no blank is in a word
abbrev pub IsWithinWord : List ℕ → Type 0
IsWithinWord w = Each (λ b. (b == 32) ≡ false) w

pub one-word : (w : List ℕ) → IsWithinWord w → words w ≡ w ∷ []
one-word w h = slice_split_none (λ b. b == 32) w h

pub first-word : (w rest : List ℕ) → IsWithinWord w → words (w ++ 32 ∷ rest) ≡ w ∷ words rest
first-word w rest h = slice_split_at (λ b. b == 32) w 32 rest h refl

pub single : (b : ℕ) → (b == 32) ≡ false → IsWithinWord (b ∷ [])
single b h k d lt = let zero' : k ≡ 0 = omega (arith, lt) in rw zero' h

-- NUMBERS

abbrev value-or : {A : Type 0} → A → Option A → A
value-or a None = a
value-or a (Some x) = x

pub same-some : {A : Type 0} (a b : A) → Some a ≡ Some b → a ≡ b
same-some a b h = ap (value-or a) h

step-on : (k d : ℕ) (ds : List ℕ) → is_digit d ≡ true → digits_from k (d ∷ ds) ≡ digits_from (10 * k + (d - 48)) ds
step-on k d ds h = rw h refl

pub step-off : (k d : ℕ) (ds : List ℕ) → is_digit d ≡ false → digits_from k (d ∷ ds) ≡ None
step-off k d ds h = rw h refl

digits-append-or : (k x : ℕ) (xs : List ℕ) (d m : ℕ) (b : Bool) → is_digit x ≡ b → ((j : ℕ) → digits_from j xs ≡ Some m → digits_from j (xs ++ d ∷ []) ≡ digits_from m (d ∷ [])) → digits_from k (x ∷ xs) ≡ Some m → digits_from k (x ∷ (xs ++ d ∷ [])) ≡ digits_from m (d ∷ [])
digits-append-or k x xs d m true e more h = step-on k x (xs ++ d ∷ []) e ∙ more (10 * k + (x - 48)) (sym (step-on k x xs e) ∙ h)
digits-append-or k x xs d m false e more h = absurd (none-some m (sym (step-off k x xs e) ∙ h))

digits-append : (k : ℕ) (ds : List ℕ) (d m : ℕ) → digits_from k ds ≡ Some m → digits_from k (ds ++ d ∷ []) ≡ digits_from m (d ∷ [])
digits-append k [] d m h = ap (λ n. digits_from n (d ∷ [])) (same-some k m h)
digits-append k (x ∷ xs) d m h = digits-append-or k x xs d m (is_digit x) refl (λ j i. digits-append j xs d m i) h

record Reads (n : ℕ) (ds : List ℕ) : Type 0 where
  value : digits_from 0 ds ≡ Some n
  within : IsWithinWord ds
  some : 0 < length ds

digit-value : (k n : ℕ) → n < 10 → digits_from k ((48 + n) ∷ []) ≡ Some (10 * k + n)
digit-value k n lt =
    let is : is_digit (48 + n) ≡ true = grind (arith, nat_tests) in
    let e : 10 * k + ((48 + n) - 48) ≡ 10 * k + n = omega arith in
    step-on k (48 + n) [] is ∙ ap (λ m. Some m) e

digit-within : (n : ℕ) → n < 10 → ((48 + n) == 32) ≡ false
digit-within n lt = grind (arith, nat_tests)

reads-one : (n : ℕ) → n < 10 → Reads n ((48 + n) ∷ [])
reads-one n lt = record { value = digit-value 0 n lt ∙ ap (λ m. Some m) (omega arith); within = single (48 + n) (digit-within n lt); some = omega arith }

reads-more : (n : ℕ) (ds : List ℕ) → 10 ≤ n → Reads (n / 10) ds → Reads n (ds ++ ((48 + n % 10) ∷ []))
reads-more n ds ge r =
    let lt : n % 10 < 10 = omega arith in
    let whole : 10 * (n / 10) + n % 10 ≡ n = omega arith in
    record {
      value = digits-append 0 ds (48 + n % 10) (n / 10) r.value ∙ digit-value (n / 10) (n % 10) lt ∙ ap (λ m. Some m) whole;
      within = All-append (λ b. (b == 32) ≡ false) ds ((48 + n % 10) ∷ []) r.within (single (48 + n % 10) (digit-within (n % 10) lt));
      some = let size = length-append ds ((48 + n % 10) ∷ []) in omega arith;
    }

reads-decimal : (n : ℕ) → n < 2 ^ 64 → Reads n (decimal n)
reads-decimal n lt = decimal_by_steps Reads reads-one reads-more n lt

pub decimal-within : (n : ℕ) → n < 2 ^ 64 → IsWithinWord (decimal n)
decimal-within n lt = (reads-decimal n lt).within

pub number-decimal : (n : ℕ) → n < 2 ^ 64 → number (decimal n) ≡ Some n
number-decimal n lt =
    let r = reads-decimal n lt in
    sym (all-read (decimal n) n lt (λ none. let some = r.some in absurd (omega arith)) (ap in_range (sym r.value)))

-- HEX

digit-word : (b : ℕ) → is_hex_digit b ≡ true → (b == 32) ≡ false
digit-word b h = grind (arith, nat_tests)

pub hex-within : (bytes : List ℕ) → IsBytes bytes → IsWithinWord (encode_lower bytes)
hex-within bytes is =
    let ok = decode_of-ok (encode_lower bytes) bytes (decode_of-encode_lower bytes is) in
    λ k d lt. digit-word _ (ok.1 k d lt)

hex-of : (w bytes : List ℕ) → 0 < length w → decode_of w ≡ Ok bytes → hex w ≡ Some bytes
hex-of [] bytes some h = absurd (omega arith)
hex-of (d ∷ ds) bytes some h = rw h refl

pub hex-encoded : (bytes : List ℕ) → IsBytes bytes → 0 < length bytes → hex (encode_lower bytes) ≡ Some bytes
hex-encoded bytes is some =
    let ok = decode_of-ok (encode_lower bytes) bytes (decode_of-encode_lower bytes is) in
    hex-of (encode_lower bytes) bytes (omega (arith, ok.2, some)) (decode_of-encode_lower bytes is)

-- WORDS

upper-value : (n : ℕ) → n < 16 → hex_digit_value (upper_digit n) ≡ Some n
upper-value n lt = grind (arith, nat_tests)

upper-within : (n : ℕ) → n < 16 → (upper_digit n == 32) ≡ false
upper-within n lt = grind (arith, nat_tests)

printed-plain : (b : ℕ) → is_printed b ≡ true → ((b == 37) ≡ false) × (is_plain b ≡ true) × ((b == 32) ≡ false)
printed-plain b h = (grind (arith, nat_tests), grind (arith, nat_tests), grind (arith, nat_tests))

byte-halves : (b : ℕ) → b < 256 → (b / 16 < 16) × (b % 16 < 16) × (16 * (b / 16) + b % 16 ≡ b)
byte-halves b lt = (omega arith, omega arith, omega arith)

escaped-byte : (b : ℕ) (rest bytes : List ℕ) → b < 256 → unescaped rest ≡ Some bytes → unescaped (37 ∷ upper_digit (b / 16) ∷ upper_digit (b % 16) ∷ rest) ≡ Some (b ∷ bytes)
escaped-byte b rest bytes lt h =
    let halves = byte-halves b lt in
    rw (upper-value (b / 16) halves.0, upper-value (b % 16) halves.1, h) (ap (λ n. Some (n ∷ bytes)) halves.2)

plain-byte : (b : ℕ) (rest bytes : List ℕ) → is_printed b ≡ true → unescaped rest ≡ Some bytes → unescaped (b ∷ rest) ≡ Some (b ∷ bytes)
plain-byte b rest bytes is h =
    let plain = printed-plain b is in
    rw (plain.0, plain.1, h) refl

printed-byte : (b : ℕ) (rest bytes : List ℕ) (t : Bool) → is_printed b ≡ t → b < 256 → unescaped rest ≡ Some bytes → unescaped (printed b ++ rest) ≡ Some (b ∷ bytes)
printed-byte b rest bytes true is lt h = rw is (plain-byte b rest bytes is h)
printed-byte b rest bytes false is lt h = rw is (escaped-byte b rest bytes lt h)

byte-within : (b : ℕ) (t : Bool) → is_printed b ≡ t → b < 256 → IsWithinWord (printed b)
byte-within b true is lt = rw is (single b (printed-plain b is).2)
byte-within b false is lt =
    let halves = byte-halves b lt in
    rw is (All-append (λ c. (c == 32) ≡ false) (37 ∷ []) (upper_digit (b / 16) ∷ upper_digit (b % 16) ∷ []) (single 37 refl) (All-append (λ c. (c == 32) ≡ false) (upper_digit (b / 16) ∷ []) (upper_digit (b % 16) ∷ []) (single _ (upper-within (b / 16) halves.0)) (single _ (upper-within (b % 16) halves.1))))

first-byte : (b : ℕ) (bs : List ℕ) → IsBytes (b ∷ bs) → b < 256
first-byte b bs is = is 0

rest-bytes : (b : ℕ) (bs : List ℕ) → IsBytes (b ∷ bs) → IsBytes bs
rest-bytes b bs is i = is (suc i)

pub unescaped-printed : (bytes : List ℕ) → IsBytes bytes → unescaped (flat_map printed bytes) ≡ Some bytes
unescaped-printed [] is = refl
unescaped-printed (b ∷ bs) is = printed-byte b (flat_map printed bs) bs (is_printed b) refl (first-byte b bs is) (unescaped-printed bs (rest-bytes b bs is))

printed-within : (bytes : List ℕ) → IsBytes bytes → IsWithinWord (flat_map printed bytes)
printed-within [] is = λ k d lt. absurd (omega arith)
printed-within (b ∷ bs) is = All-append (λ c. (c == 32) ≡ false) (printed b) (flat_map printed bs) (byte-within b (is_printed b) refl (first-byte b bs is)) (printed-within bs (rest-bytes b bs is))

pub word-within : (bytes : List ℕ) → IsBytes bytes → IsWithinWord (word bytes)
word-within [] is = single 37 refl
word-within (b ∷ bs) is = printed-within (b ∷ bs) is

word-else : (w : List ℕ) → bytes_eq w (37 ∷ []) ≡ false → 0 < length w → word_bytes w ≡ unescaped w
word-else [] h some = absurd (omega arith)
word-else (c ∷ cs) h some = rw h refl

some-byte : (w bytes : List ℕ) → unescaped w ≡ Some bytes → 0 < length bytes → 0 < length w
some-byte [] bytes h some = let e = ap (λ (t : List ℕ). length t) (same-some [] bytes h) in absurd (omega (arith, e, some))
some-byte (c ∷ cs) bytes h some = omega arith

-- a word that isn't empty has no escape alone
bytes-of-word-or : (w bytes : List ℕ) (t : Bool) → bytes_eq w (37 ∷ []) ≡ t → unescaped w ≡ Some bytes → 0 < length bytes → word_bytes w ≡ Some bytes
bytes-of-word-or w bytes true e h some =
    let same : w ≡ 37 ∷ [] = (bytes_eq-Decides w (37 ∷ [])).0 e in
    absurd (none-some bytes (sym (ap unescaped same) ∙ h))
bytes-of-word-or w bytes false e h some = word-else w e (some-byte w bytes h some) ∙ h

bytes-of-word : (w bytes : List ℕ) → unescaped w ≡ Some bytes → 0 < length bytes → word_bytes w ≡ Some bytes
bytes-of-word w bytes h some = bytes-of-word-or w bytes (bytes_eq w (37 ∷ [])) refl h some

pub word-bytes : (bytes : List ℕ) → IsBytes bytes → word_bytes (word bytes) ≡ Some bytes
word-bytes [] is = refl
word-bytes (b ∷ bs) is = bytes-of-word (flat_map printed (b ∷ bs)) (b ∷ bs) (unescaped-printed (b ∷ bs) is) (omega arith)

pub text-word : (bytes : List ℕ) → IsBytes bytes → is_utf8 bytes ≡ true → text (word bytes) ≡ Some bytes
text-word bytes is utf8 = rw (word-bytes bytes is, utf8) refl
