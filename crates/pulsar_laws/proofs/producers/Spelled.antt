-- The spelling of values in range is bytes, where what they hold as bytes is: numbers and lengths are spelled in bytes, and a text is UTF-8.
use Rattle.std.proofs.Common.{◌≡◌, inl, inr, subst, ℕ, zero, suc, ◌+◌, ◌*◌, ◌/◌, ◌%◌, ◌^◌, ◌<◌, ℤ, List, [], ◌∷◌, ◌++◌, length, length-append, flat_map, arith, refl, true, false, nat_lt, ◌&&◌, encode_utf8_all}
use Rattle.std.proofs.lemmas.Bool.{and_parts}
use Rattle.std.proofs.lemmas.Bool.Decides.{nat_tests}
use Rattle.std.proofs.lemmas.List.Elements.{All-append, All-cons, All-nil}
use Rattle.std.proofs.lemmas.Str.{IsUtf8-from_is_utf8}
use Rattle.std.proofs.Math.Facts.{Fits-lt-pow, Fits-of_z, sfits_widen}
use Rattle.std.proofs.Math.Utf8.{encode, scalar, scalar_cases, scalars}
use Rattle.std.specs.Int.{byte_at, cast_unsigned, to_be_bytes, w32, w64}
use Rattle.std.specs.List.{AllByRecursion}
use Rattle.std.specs.Prelude.{FitsSigned}
use Rattle.std.specs.Str.{is_utf8}
use Rattle.pulsar_wire.specs.Fits.{FitsContent, InRange, is_number, is_row, lacks}
use Rattle.pulsar_wire.specs.Row.{Bytes, Content, Embedded, End, Flag, Int32, Int64, Kind, Numbers, Plain, Row, Text, Uint32, Uint64, Values, entry, items, message_entry, spelling, varint, varint_in, wire, wire_type, with_length}
use Rattle.pulsar_frame.specs.Checksum.{AreBytes}
use Rattle.pulsar_frame.specs.Payload.{PayloadValues, covered_bytes}
use Rattle.pulsar_frame.specs.Sized.{with_size}
use Rattle.pulsar_wire.specs.Rows.{message_metadata}
use Rattle.pulsar_laws.proofs.Cases.{cond_when}
use Rattle.pulsar_laws.specs.ProducerLaws.{HoldsBytes, HoldBytes}

abbrev IsByte : ℕ → Type 0
IsByte b = b < 256

put : (n : ℕ) (xs : List ℕ) → n < 256 → AreBytes xs → AreBytes (n ∷ xs)
put n xs h k = All-cons IsByte n xs h k

one : (n : ℕ) → n < 256 → AreBytes (n ∷ [])
one n h = put n [] h (All-nil IsByte)

both : (xs ys : List ℕ) → AreBytes xs → AreBytes ys → AreBytes (xs ++ ys)
both xs ys p q = All-append IsByte xs ys p q

-- NUMBERS

-- below this a number is spelled in one byte and so many more
above : ℕ → ℕ
above zero = 2
above (suc k) = 128 * above k

number_in : (k n : ℕ) → n < above k → AreBytes (varint_in k n)
unfolding varint_in above
number_in zero n h = one n (omega (arith, h))
number_in (suc k) n h =
    cond_when AreBytes (nat_lt n 128) (n ∷ []) ((n % 128 + 128) ∷ varint_in k (n / 128)) (λ e. one n (grind (arith, nat_tests)))
    (λ e. put (n % 128 + 128) (varint_in k (n / 128)) (omega arith) (number_in k (n / 128) (omega (arith, h))))

number : (n : ℕ) → n < 2 ^ 64 → AreBytes (varint n)
unfolding above
number n h = number_in 9 n h

sized : (bytes : List ℕ) → length bytes < 2 ^ 64 → AreBytes bytes → AreBytes (with_length bytes)
sized bytes h k = both (varint (length bytes)) bytes (number (length bytes) h) k

-- TEXTS

last : (n : ℕ) → AreBytes ((128 + n % 64) ∷ [])
last n = one (128 + n % 64) (omega arith)

last_two : (m n : ℕ) → AreBytes ((128 + m % 64) ∷ (128 + n % 64) ∷ [])
last_two m n = put (128 + m % 64) ((128 + n % 64) ∷ []) (omega arith) (last n)

letter : (c : ℕ) → scalar c ≡ true → AreBytes (encode c)
unfolding encode
letter c h =
    cond_when AreBytes (nat_lt c 128) _ _ (λ e. one c (grind (arith, nat_tests)))
    (λ e. cond_when AreBytes (nat_lt c 2048) _ _ (λ f. put (192 + c / 64) ((128 + c % 64) ∷ []) (grind (arith, nat_tests)) (last c))
    (λ f. cond_when AreBytes (nat_lt c 65536) _ _
    (λ g. put (224 + c / 4096) ((128 + c / 64 % 64) ∷ (128 + c % 64) ∷ []) (grind (arith, nat_tests)) (last_two (c / 64) c))
    (λ g. put (240 + c / 262144) ((128 + c / 4096 % 64) ∷ (128 + c / 64 % 64) ∷ (128 + c % 64) ∷ []) (omega (arith, below))
    (put (128 + c / 4096 % 64) ((128 + c / 64 % 64) ∷ (128 + c % 64) ∷ []) (omega arith) (last_two (c / 64) c)))))
  where
    below : c < 1114112
    below = elim (scalar_cases c h) [ inl l ↦ omega (arith, l) | inr r ↦ r.1 ]

letters : (cs : List ℕ) → scalars cs ≡ true → AreBytes (encode_utf8_all cs)
letters [] h = All-nil IsByte
letters (c ∷ cs) h = let k = and_parts (scalar c) (scalars cs) h in both (encode c) (encode_utf8_all cs) (letter c k.0) (letters cs k.1)

text : (bytes : List ℕ) → is_utf8 bytes ≡ true → AreBytes bytes
text bytes h = let (cs, (are, e)) = IsUtf8-from_is_utf8 bytes h in subst AreBytes e (letters cs are)

-- CONTENTS

signed : (z : ℤ) → FitsSigned w64 z → cast_unsigned w64 z < 2 ^ 64
signed z h = Fits-lt-pow {w = w64} (Fits-of_z h)

shorter : (xs ys : List ℕ) → length (xs ++ ys) < 2 ^ 64 → (length xs < 2 ^ 64) × (length ys < 2 ^ 64)
shorter xs ys h = (omega (arith, h, length-append xs ys), omega (arith, h, length-append xs ys))

written : (k : Kind) (x : Content k) → FitsContent k x → HoldsBytes k x → length (wire k x) < 2 ^ 64 → AreBytes (wire k x)
written Text x f b l = sized x (shorter (varint (length x)) x l).1 (text x f)
written Bytes x f b l = sized x (shorter (varint (length x)) x l).1 b
written Uint32 n f b l = number n (omega (arith, f))
written Uint64 n f b l = number n f
written Int32 z f b l = number (cast_unsigned w64 z) (signed z (sfits_widen {w = w32} {w' = w64} tt f))
written Int64 z f b l = number (cast_unsigned w64 z) (signed z f)
written Flag true f b l = number 1 (omega arith)
written Flag false f b l = number 0 (omega arith)

type_low : (k : Kind) → wire_type k < 3
type_low Text = omega arith
type_low Bytes = omega arith
type_low _ = omega arith

-- ROWS

module _ {X : Type 0} (P Q : X → Type 0) (spell : X → List ℕ) (each : (x : X) → P x → Q x → length (spell x) < 2 ^ 64 → AreBytes (spell x)) where
  flat : (xs : List X) → AllByRecursion P xs → AllByRecursion Q xs → length (flat_map spell xs) < 2 ^ 64 → AreBytes (flat_map spell xs)
  flat [] p q l = All-nil IsByte
  flat (x ∷ xs) p q l =
      let s = shorter (spell x) (flat_map spell xs) l in both (spell x) (flat_map spell xs) (each x p.0 q.0 s.0) (flat xs p.1 q.1 s.1)

low_key : (n t : ℕ) → is_number n ≡ true → t < 3 → 8 * n + t < 2 ^ 64
low_key n t h l = grind (arith, nat_tests, and_parts (nat_lt 0 n) (nat_lt n (2 ^ 29)) h)

plain_bytes : (n : ℕ) (k : Kind) → is_number n ≡ true → (x : Content k) → FitsContent k x → HoldsBytes k x → length (entry n k x) < 2 ^ 64 →
    AreBytes (entry n k x)
plain_bytes n k h x f b l =
    both (varint (8 * n + wire_type k)) (wire k x) (number (8 * n + wire_type k) (low_key n (wire_type k) h (type_low k)))
    (written k x f b (shorter (varint (8 * n + wire_type k)) (wire k x) l).1)

pub spelled : (row : Row) (vs : Values row) → is_row row ≡ true → InRange row vs → HoldBytes row vs → length (spelling row vs) < 2 ^ 64 →
    AreBytes (spelling row vs)
unfolding spelling
spelled End vs h f b l = All-nil IsByte
spelled (Plain n r k row) vs h f b l =
    let t = and_parts (is_number n && lacks n row) (is_row row) h in
    let first : List ℕ = flat_map (entry n k) (items r vs.0) in
    let s = shorter first (spelling row vs.1) l in
    both first (spelling row vs.1)
    (flat (FitsContent k) (HoldsBytes k) (entry n k) (plain_bytes n k (and_parts (is_number n) (lacks n row) t.0).0) (items r vs.0) f.0 b.0 s.0)
    (spelled row vs.1 t.1 f.1 b.1 s.1)
spelled (Embedded n r inner row) vs h f b l =
    let t = and_parts (is_number n && lacks n row && is_row row) (is_row inner) h in
    let u = and_parts (is_number n && lacks n row) (is_row row) t.0 in
    let first : List ℕ = flat_map (λ x. message_entry n (spelling inner x)) (items r vs.0) in
    let s = shorter first (spelling row vs.1) l in
    both first (spelling row vs.1)
    (flat (InRange inner) (HoldBytes inner) (λ x. message_entry n (spelling inner x)) (message (and_parts (is_number n) (lacks n row) u.0).0
    (λ x f b l. spelled inner x t.1 f b l)) (items r vs.0) f.0 b.0 s.0)
    (spelled row vs.1 u.1 f.1 b.1 s.1)
  where
    message : is_number n ≡ true →
        ((x : Values inner) → InRange inner x → HoldBytes inner x → length (spelling inner x) < 2 ^ 64 → AreBytes (spelling inner x)) →
        (x : Values inner) → InRange inner x → HoldBytes inner x → length (message_entry n (spelling inner x)) < 2 ^ 64 →
        AreBytes (message_entry n (spelling inner x))
    message i deep x f b l =
        let s = shorter (varint (8 * n + 2)) (with_length (spelling inner x)) l in
        let m = shorter (varint (length (spelling inner x))) (spelling inner x) s.1 in
        both (varint (8 * n + 2)) (with_length (spelling inner x)) (number (8 * n + 2) (low_key n 2 i (omega arith)))
        (sized (spelling inner x) m.1 (deep x f b m.1))
spelled (Numbers n row) vs h f b l =
    let t = and_parts (is_number n && lacks n row) (is_row row) h in
    let first : List ℕ = flat_map (entry n Int64) vs.0 in
    let s = shorter first (spelling row vs.1) l in
    both first (spelling row vs.1)
    (flat (FitsSigned w64) (λ z. Unit {0}) (entry n Int64) (plain_bytes n Int64 (and_parts (is_number n) (lacks n row) t.0).0) vs.0 f.0 (all vs.0) s.0)
    (spelled row vs.1 t.1 f.1 b s.1)
  where
    all : (zs : List ℤ) → AllByRecursion (λ z. Unit {0}) zs
    all [] = tt
    all (z ∷ zs) = (tt, all zs)

high : (i n : ℕ) → byte_at i n < 256
high zero n = omega arith
high (suc i) n = let m : ℕ = n / 256 ^ suc i in let h : m % 256 < 256 = omega arith in h

-- so what a checksum covers is bytes
pub covered : (p : PayloadValues) → InRange message_metadata p.metadata → HoldBytes message_metadata p.metadata →
    length (spelling message_metadata p.metadata) < 2 ^ 64 → AreBytes p.bytes → AreBytes (covered_bytes p)
unfolding covered_bytes with_size
covered p f b l k =
    let said : List ℕ = spelling message_metadata p.metadata in
    both (to_be_bytes w32 (length said) ++ said) p.bytes
    (both (to_be_bytes w32 (length said)) said (size (length said)) (spelled message_metadata p.metadata refl f b l)) k
  where
    size : (n : ℕ) → AreBytes (to_be_bytes w32 n)
    size n =
        put (byte_at 3 n) (byte_at 2 n ∷ byte_at 1 n ∷ byte_at 0 n ∷ []) (high 3 n)
        (put (byte_at 2 n) (byte_at 1 n ∷ byte_at 0 n ∷ []) (high 2 n) (put (byte_at 1 n) (byte_at 0 n ∷ []) (high 1 n) (one (byte_at 0 n) (high 0 n))))
