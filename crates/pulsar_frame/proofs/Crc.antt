-- The division is linear over exclusive-or, so the bytes of a word are divided each by itself.
use Rattle.std.proofs.Common.{◌≡◌, ℕ, zero, suc, ◌+◌, ◌*◌, ◌/◌, ◌%◌, ◌^◌, ◌<◌, ◌≤◌, ◌==◌, if◌then◌else◌, List, [], ◌∷◌, map, length, drop, length-drop, get_or, bit_and, bit_xor, refl, sym, ap, ap₂, ◌∙◌, arith}
use Rattle.std.specs.List.{range_with_len}
use Rattle.std.specs.Int.{w32, from_le_bytes, to_le_bytes}
use Rattle.std.proofs.lemmas.List.{get_or-map, length-map, get_or-drop, drop_all, drop-drop}
use Rattle.std.proofs.lemmas.List.FromFn.{get_or-range_with_len, length-range_with_len}
use Rattle.std.proofs.lemmas.Nat.{xor_comm, xor_shr, xor_mod, and_mask}
use Rattle.std.proofs.lemmas.Nat.Bits.{bit_at_xor}
use Rattle.std.proofs.Math.Nat.{pow-suc, mul_assoc, zero-add}
use lib.Bits.{xor_zero_r, xor_self, xor_assoc, xor_shifted}
use Rattle.pulsar_frame.specs.Checksum.{polynomial, after_bit, after_bits, after_byte, after}

-- (a b) (c d) as (a c) (b d)
pub xor_swap : (a b c d : ℕ) → bit_xor (bit_xor a b) (bit_xor c d) ≡ bit_xor (bit_xor a c) (bit_xor b d)
xor_swap a b c d =
    xor_assoc a b (bit_xor c d) ∙ ap (bit_xor a) (sym (xor_assoc b c d) ∙ ap (λ x. bit_xor x d) (xor_comm b c) ∙ xor_assoc c b d)
    ∙ sym (xor_assoc a c (bit_xor b d))

abbrev pub divided : ℕ → ℕ → ℕ
divided low high = if low == 1 then bit_xor high polynomial else high

divided-xor : (r s h g : ℕ) → r < 2 → s < 2 → divided ((r + s) % 2) (bit_xor h g) ≡ bit_xor (divided r h) (divided s g)
divided-xor zero zero h g a b = refl
divided-xor zero (suc zero) h g a b = xor_assoc h g polynomial
divided-xor (suc zero) zero h g a b =
    xor_assoc h g polynomial ∙ ap (bit_xor h) (xor_comm g polynomial) ∙ sym (xor_assoc h polynomial g)
divided-xor (suc zero) (suc zero) h g a b =
    sym (xor_swap h polynomial g polynomial ∙ ap (bit_xor (bit_xor h g)) (xor_self polynomial) ∙ xor_zero_r (bit_xor h g))
divided-xor (suc (suc r)) s h g a b = absurd (omega arith)
divided-xor r (suc (suc s)) h g a b = absurd (omega arith)

after_bit-xor : (x y : ℕ) → after_bit (bit_xor x y) ≡ bit_xor (after_bit x) (after_bit y)
unfolding after_bit
after_bit-xor x y =
    let low : bit_xor x y % 2 ≡ (x % 2 + y % 2) % 2 = omega (arith, bit_at_xor x y 0) in
    let high : bit_xor x y / 2 ≡ bit_xor (x / 2) (y / 2) = xor_shr x y 1 in
    ap₂ divided low high ∙ divided-xor (x % 2) (y % 2) (x / 2) (y / 2) (omega arith) (omega arith)

pub after_bits-xor : (n x y : ℕ) → after_bits n (bit_xor x y) ≡ bit_xor (after_bits n x) (after_bits n y)
after_bits-xor zero x y = refl
after_bits-xor (suc n) x y = ap (after_bits n) (after_bit-xor x y) ∙ after_bits-xor n (after_bit x) (after_bit y)

pub same_count : (m n x : ℕ) → m ≡ n → after_bits m x ≡ after_bits n x
same_count m n x e = ap (λ (k : ℕ). after_bits k x) e

pub after_bits-add : (m n x : ℕ) → after_bits (m + n) x ≡ after_bits n (after_bits m x)
after_bits-add zero n x = same_count (0 + n) n x (omega arith)
after_bits-add (suc m) n x = same_count (suc m + n) (suc (m + n)) x (omega arith) ∙ after_bits-add m n (after_bit x)

-- low bits of zero fall out
after_bits-shift : (n h : ℕ) → after_bits n (h * 2 ^ n) ≡ h
unfolding after_bit
after_bits-shift zero h = omega arith
after_bits-shift (suc n) h =
    ap₂ (λ r x. after_bits n (divided r x)) even half ∙ after_bits-shift n h
  where
    twice : h * 2 ^ suc n ≡ h * 2 ^ n * 2
    twice = ap (λ x. h * x) (pow-suc 2 n) ∙ sym (mul_assoc h (2 ^ n) 2)

    even : h * 2 ^ suc n % 2 ≡ 0
    even = omega (arith, twice)

    half : h * 2 ^ suc n / 2 ≡ h * 2 ^ n
    half = omega (arith, twice)

joined : (b r : ℕ) → b < 256 → b + r * 256 ≡ bit_xor (r * 2 ^ 8) b
joined b r h = sym (xor_shifted r 8 b h ∙ omega arith)

-- ---- the bytes of a word, taken in at once

pub byte_in : (n s b r : ℕ) → b < 256 → after_bits (8 + n) (bit_xor s (b + r * 256)) ≡ after_bits n (bit_xor (after_byte s b) r)
unfolding after_byte
byte_in n s b r h =
    ap (λ x. after_bits (8 + n) (bit_xor s x)) (joined b r h ∙ xor_comm (r * 2 ^ 8) b)
    ∙ ap (after_bits (8 + n)) (sym (xor_assoc s b (r * 2 ^ 8)))
    ∙ after_bits-add 8 n _
    ∙ ap (after_bits n) (after_bits-xor 8 (bit_xor s b) (r * 2 ^ 8) ∙ ap (bit_xor (after_bits 8 (bit_xor s b))) (after_bits-shift 8 r))

pub word_in : (s a b c d : ℕ) (rest : List ℕ) → a < 256 → b < 256 → c < 256 → d < 256
    → after s (a ∷ b ∷ c ∷ d ∷ rest) ≡ after (after_bits 32 (bit_xor s (((a + b * 256) + c * 65536) + d * 16777216))) rest
word_in s a b c d rest A B C D =
    ap (λ x. after x rest)
    (sym (ap (λ x. after_bits 32 (bit_xor s x)) e ∙ byte_in 24 s a _ A ∙ byte_in 16 _ b _ B ∙ byte_in 8 _ c _ C ∙ byte_in 0 _ d 0 D
    ∙ xor_zero_r _))
  where
    e : ((a + b * 256) + c * 65536) + d * 16777216 ≡ a + (b + (c + (d + 0 * 256) * 256) * 256) * 256
    e = omega arith

-- ---- the bytes of a word, divided each by itself

low_byte : (n w : ℕ) → after_bits (8 + n) w ≡ bit_xor (after_bits (8 + n) (w % 256)) (after_bits n (w / 256))
low_byte n w =
    ap (after_bits (8 + n)) (split ∙ joined (w % 256) (w / 256) (omega arith))
    ∙ after_bits-xor (8 + n) (w / 256 * 2 ^ 8) (w % 256)
    ∙ xor_comm (after_bits (8 + n) (w / 256 * 2 ^ 8)) (after_bits (8 + n) (w % 256))
    ∙ ap (bit_xor (after_bits (8 + n) (w % 256))) (after_bits-add 8 n (w / 256 * 2 ^ 8) ∙ ap (after_bits n) (after_bits-shift 8 (w / 256)))
  where
    split : w ≡ w % 256 + w / 256 * 256
    split = omega arith

-- ---- tables

-- n rows, each of which has the row before it, eight bits on
abbrev pub rows_from : ℕ → List ℕ → List (List ℕ)
rows_from zero row = []
rows_from (suc n) row = map (after_bits 8) row ∷ rows_from n (map (after_bits 8) row)

one_on : (row : List ℕ) (m i : ℕ) → get_or row i 0 ≡ after_bits m i → i < length row → get_or (map (after_bits 8) row) i 0 ≡ after_bits (m + 8) i
one_on row m i e l = get_or-map (after_bits 8) row i 0 0 l ∙ ap (after_bits 8) e ∙ sym (after_bits-add m 8 i)

row_at : (n : ℕ) (row : List ℕ) (m k i : ℕ) → get_or row i 0 ≡ after_bits m i → i < length row → k < n
    → get_or (get_or (rows_from n row) k []) i 0 ≡ after_bits (m + 8 * (k + 1)) i
row_at zero row m k i e l h = absurd (omega arith)
row_at (suc n) row m zero i e l h = one_on row m i e l
row_at (suc n) row m (suc k) i e l h =
    row_at n (map (after_bits 8) row) (m + 8) k i (one_on row m i e l) (omega (arith, length-map row (after_bits 8))) (omega arith)
    ∙ same_count (m + 8 + 8 * (k + 1)) (m + 8 * (suc k + 1)) i (omega arith)

-- what the tables hold, whose rows go on from the bytes
pub tables_hold : (k i : ℕ) → k < 16 → i < 256 → get_or (get_or (rows_from 16 (range_with_len 0 256)) k []) i 0 ≡ after_bits (8 * (k + 1)) i
tables_hold k i h l =
    row_at 16 (range_with_len 0 256) 0 k i (get_or-range_with_len 0 256 i 0 l ∙ zero-add i) (omega (arith, length-range_with_len 0 256)) h
    ∙ same_count (0 + 8 * (k + 1)) (8 * (k + 1)) i (omega arith)

-- the bytes of a word that is divided on by 8 * (4 * k + 4) bits
word_parts : (k w : ℕ)
    → bit_xor (bit_xor (bit_xor (after_bits (8 * (4 * k + 3 + 1)) (w % 256)) (after_bits (8 * (4 * k + 2 + 1)) (w / 256 % 256)))
    (after_bits (8 * (4 * k + 1 + 1)) (w / 65536 % 256))) (after_bits (8 * (4 * k + 1)) (w / 16777216)) ≡ after_bits (32 * (k + 1)) w
word_parts k w =
    sym (same_count (32 * (k + 1)) (8 + (24 + 32 * k)) w (omega arith) ∙ low_byte (24 + 32 * k) w
    ∙ ap₂ bit_xor (same_count (8 + (24 + 32 * k)) (8 * (4 * k + 3 + 1)) (w % 256) (omega arith)) rest3
    ∙ sym (xor_assoc (after_bits (8 * (4 * k + 3 + 1)) (w % 256)) _ _)
    ∙ sym (xor_assoc (bit_xor (after_bits (8 * (4 * k + 3 + 1)) (w % 256)) (after_bits (8 * (4 * k + 2 + 1)) (w / 256 % 256))) _ _))
  where
    rest1 : after_bits (16 + 32 * k) (w / 65536) ≡ bit_xor (after_bits (8 * (4 * k + 1 + 1)) (w / 65536 % 256)) (after_bits (8 * (4 * k + 1)) (w / 16777216))
    rest1 =
        same_count (16 + 32 * k) (8 + (8 + 32 * k)) (w / 65536) (omega arith) ∙ low_byte (8 + 32 * k) (w / 65536)
        ∙ ap₂ bit_xor (same_count (8 + (8 + 32 * k)) (8 * (4 * k + 1 + 1)) (w / 65536 % 256) (omega arith))
        (same_count (8 + 32 * k) (8 * (4 * k + 1)) (w / 65536 / 256) (omega arith) ∙ ap (after_bits (8 * (4 * k + 1))) (omega arith))

    rest3 : after_bits (24 + 32 * k) (w / 256) ≡ bit_xor (after_bits (8 * (4 * k + 2 + 1)) (w / 256 % 256))
        (bit_xor (after_bits (8 * (4 * k + 1 + 1)) (w / 65536 % 256)) (after_bits (8 * (4 * k + 1)) (w / 16777216)))
    rest3 =
        same_count (24 + 32 * k) (8 + (16 + 32 * k)) (w / 256) (omega arith) ∙ low_byte (16 + 32 * k) (w / 256)
        ∙ ap₂ bit_xor (same_count (8 + (16 + 32 * k)) (8 * (4 * k + 2 + 1)) (w / 256 % 256) (omega arith))
        (ap (after_bits (16 + 32 * k)) (omega arith) ∙ rest1)

pub word_out : (k w : ℕ) (bytes : List ℕ) → w < 2 ^ 32 → bytes ≡ to_le_bytes w32 w
    → bit_xor (bit_xor (bit_xor (after_bits (8 * (4 * k + 3 + 1)) (get_or bytes 0 0)) (after_bits (8 * (4 * k + 2 + 1)) (get_or bytes 1 0)))
    (after_bits (8 * (4 * k + 1 + 1)) (get_or bytes 2 0))) (after_bits (8 * (4 * k + 1)) (get_or bytes 3 0)) ≡ after_bits (32 * (k + 1)) w
word_out k w bytes h e =
    rw e (ap (λ x. bit_xor (bit_xor (bit_xor (after_bits (8 * (4 * k + 3 + 1)) (w % 256)) (after_bits (8 * (4 * k + 2 + 1)) (w / 256 % 256)))
    (after_bits (8 * (4 * k + 1 + 1)) (w / 65536 % 256))) (after_bits (8 * (4 * k + 1)) x)) highest ∙ word_parts k w)
  where
    highest : w / 16777216 % 256 ≡ w / 16777216
    highest = omega arith

pub byte_on : (s b : ℕ) → b < 256 → bit_xor (after_bits 8 (bit_xor (bit_and s 255) b)) (s / 256) ≡ after_byte s b
unfolding after_byte
byte_on s b h =
    sym (low_byte 0 (bit_xor s b) ∙ ap₂ (λ x y. bit_xor (after_bits 8 x) y) low high)
  where
    low : bit_xor s b % 256 ≡ bit_xor (bit_and s 255) b
    low = xor_mod s b 8 ∙ ap₂ bit_xor (sym (and_mask s 8)) (omega arith)

    high : bit_xor s b / 256 ≡ s / 256
    high = xor_shr s b 8 ∙ ap (bit_xor (s / 256)) (omega arith) ∙ xor_zero_r (s / 256)

-- the state behind a word
abbrev on : ℕ → ℕ → ℕ
on state word = after_bits 32 (bit_xor state word)

-- sixteen bytes: each word by itself, or from the state behind the words before it
words_apart : (s u v w x : ℕ)
    → bit_xor (bit_xor (bit_xor (after_bits 128 (bit_xor s u)) (after_bits 96 v)) (after_bits 64 w)) (after_bits 32 x) ≡ on (on (on (on s u) v) w) x
words_apart s u v w x =
    sym (after_bits-xor 32 (on (on (on s u) v) w) x
    ∙ ap (λ y. bit_xor y (after_bits 32 x)) (after_bits-xor 64 (on (on s u) v) w
    ∙ ap (λ y. bit_xor y (after_bits 64 w)) (after_bits-xor 96 (on s u) v)))

-- a word of four bytes in front
four_in : (s : ℕ) (bytes : List ℕ) → 4 ≤ length bytes → ((i : ℕ) → get_or bytes i 0 < 256) → after s bytes ≡ after (on s (from_le_bytes w32 bytes)) (drop 4 bytes)
four_in s (a ∷ b ∷ c ∷ d ∷ bytes) h fits = word_in s a b c d bytes (fits 0) (fits 1) (fits 2) (fits 3)
four_in s [] h fits = absurd (omega arith)
four_in s (a ∷ []) h fits = absurd (omega arith)
four_in s (a ∷ b ∷ []) h fits = absurd (omega arith)
four_in s (a ∷ b ∷ c ∷ []) h fits = absurd (omega arith)

fits_on : (n : ℕ) (bytes : List ℕ) → ((i : ℕ) → get_or bytes i 0 < 256) → (i : ℕ) → get_or (drop n bytes) i 0 < 256
fits_on n bytes fits i = rw (get_or-drop n bytes i 0) (fits (n + i))

pub block_in : (s : ℕ) (block : List ℕ) → length block ≡ 16 → ((i : ℕ) → get_or block i 0 < 256)
    → bit_xor (bit_xor (bit_xor (after_bits 128 (bit_xor s (from_le_bytes w32 block))) (after_bits 96 (from_le_bytes w32 (drop 4 block))))
    (after_bits 64 (from_le_bytes w32 (drop 8 block)))) (after_bits 32 (from_le_bytes w32 (drop 12 block))) ≡ after s block
block_in s block long fits =
    words_apart s _ _ _ _
    ∙ sym (four_in s block (omega arith) fits ∙ next 4 (omega arith) (on s (from_le_bytes w32 block))
    ∙ next 8 (omega arith) (on (on s (from_le_bytes w32 block)) (from_le_bytes w32 (drop 4 block)))
    ∙ next 12 (omega arith) (on (on (on s (from_le_bytes w32 block)) (from_le_bytes w32 (drop 4 block))) (from_le_bytes w32 (drop 8 block)))
    ∙ ap (after _) (drop_all 16 block (omega arith)))
  where
    next : (n : ℕ) → n + 4 ≤ 16 → (t : ℕ) → after t (drop n block) ≡ after (on t (from_le_bytes w32 (drop n block))) (drop (n + 4) block)
    next n h t =
        four_in t (drop n block) (omega (arith, length-drop n block)) (fits_on n block fits)
        ∙ ap (after (on t (from_le_bytes w32 (drop n block)))) (drop-drop 4 n block)
