-- No step of the division loses anything, so a change of a few neighbours stays a change.
use Rattle.std.proofs.Common.{◌≡◌, ℕ, zero, suc, ◌+◌, ◌*◌, ◌/◌, ◌%◌, ◌^◌, ◌<◌, ◌≤◌, List, [], ◌∷◌, ◌++◌, length, bit_xor, refl, sym, ap, ap₂, ◌∙◌, arith, lt_of_lt_of_le}
use Rattle.std.proofs.Math.Nat.{pow-suc, pow-le-pow_right}
use Rattle.std.proofs.lemmas.Nat.{xor_comm, xor_lt}
use lib.Bits.{xor_zero_r, xor_self, xor_assoc}
use Rattle.pulsar_frame.specs.Checksum.{polynomial, after_bit, after_bits, after_byte, after, start, crc32c, AreBytes}
use Rattle.pulsar_frame.proofs.Crc.{divided, same_count, after_bits-xor, byte_in}

pub after-append : (state : ℕ) (a b : List ℕ) → after state (a ++ b) ≡ after (after state a) b
after-append state [] b = refl
after-append state (x ∷ a) b = after-append (after_byte state x) a b

-- ---- states of 32 bits

after_bit-lt : (s : ℕ) → s < 2 ^ 32 → after_bit s < 2 ^ 32
unfolding after_bit
after_bit-lt s h = go (s % 2) (s / 2) (omega arith) (omega arith)
  where
    go : (low high : ℕ) → low < 2 → high < 2 ^ 32 → divided low high < 2 ^ 32
    go zero high m l = l
    go (suc zero) high m l = xor_lt 32 high polynomial l (omega arith)
    go (suc (suc low)) high m l = absurd (omega arith)

after_bits-lt : (n s : ℕ) → s < 2 ^ 32 → after_bits n s < 2 ^ 32
after_bits-lt zero s h = h
after_bits-lt (suc n) s h = after_bits-lt n (after_bit s) (after_bit-lt s h)

after_byte-lt : (s b : ℕ) → s < 2 ^ 32 → b < 256 → after_byte s b < 2 ^ 32
unfolding after_byte
after_byte-lt s b h l = after_bits-lt 8 (bit_xor s b) (xor_lt 32 s b h (omega arith))

rest_of : (b : ℕ) (bytes : List ℕ) → AreBytes (b ∷ bytes) → AreBytes bytes
rest_of b bytes h = λ k d l. h (suc k) d (omega arith)

after-lt : (s : ℕ) (bytes : List ℕ) → s < 2 ^ 32 → AreBytes bytes → after s bytes < 2 ^ 32
after-lt s [] h l = h
after-lt s (b ∷ bytes) h l = after-lt (after_byte s b) bytes (after_byte-lt s b h (l 0 0 (omega arith))) (rest_of b bytes l)

-- a checksum of bytes has 32 bits
pub crc32c-lt : (bytes : List ℕ) → AreBytes bytes → crc32c bytes < 2 ^ 32
unfolding crc32c
crc32c-lt bytes h = xor_lt 32 (after start bytes) 0xffffffff (after-lt start bytes (omega arith) h) (omega arith)

-- ---- nothing is lost

same_from_xor : (a b : ℕ) → bit_xor a b ≡ 0 → a ≡ b
same_from_xor a b e =
    sym (xor_assoc a b b ∙ ap (bit_xor a) (xor_self b) ∙ xor_zero_r a) ∙ ap (λ x. bit_xor x b) e

xor-cancel : (a b c : ℕ) → bit_xor a b ≡ bit_xor a c → b ≡ c
xor-cancel a b c e =
    sym (back b) ∙ ap (bit_xor a) e ∙ back c
  where
    back : (x : ℕ) → bit_xor a (bit_xor a x) ≡ x
    back x = sym (xor_assoc a a x) ∙ ap (λ y. bit_xor y x) (xor_self a)

zero_before : (s : ℕ) → s < 2 ^ 32 → after_bit s ≡ 0 → s ≡ 0
unfolding after_bit
zero_before s h e = go (s % 2) (s / 2) (omega arith) e (omega arith) (omega arith)
  where
    go : (low high : ℕ) → high < 2 ^ 31 → divided low high ≡ 0 → s ≡ high * 2 + low → low < 2 → s ≡ 0
    go zero high l f is m = omega (arith, f)
    go (suc zero) high l f is m = let big : high ≡ polynomial = same_from_xor high polynomial f in absurd (omega (arith, big))
    go (suc (suc low)) high l f is m = absurd (omega arith)

zeros_before : (n s : ℕ) → s < 2 ^ 32 → after_bits n s ≡ 0 → s ≡ 0
zeros_before zero s h e = e
zeros_before (suc n) s h e = zero_before s h (zeros_before n (after_bit s) (after_bit-lt s h) e)

pub after_bits-same : (n s t : ℕ) → s < 2 ^ 32 → t < 2 ^ 32 → after_bits n s ≡ after_bits n t → s ≡ t
after_bits-same n s t h l e =
    same_from_xor s t (zeros_before n (bit_xor s t) (xor_lt 32 s t h l)
    (after_bits-xor n s t ∙ ap (λ x. bit_xor x (after_bits n t)) e ∙ xor_self (after_bits n t)))

after_byte-same : (s t b : ℕ) → s < 2 ^ 32 → t < 2 ^ 32 → b < 256 → after_byte s b ≡ after_byte t b → s ≡ t
unfolding after_byte
after_byte-same s t b h l m e =
    xor-cancel b s t
    (xor_comm b s ∙ after_bits-same 8 (bit_xor s b) (bit_xor t b) (xor_lt 32 s b h (omega arith)) (xor_lt 32 t b l (omega arith)) e ∙ xor_comm t b)

after-same : (s t : ℕ) (bytes : List ℕ) → s < 2 ^ 32 → t < 2 ^ 32 → AreBytes bytes → after s bytes ≡ after t bytes → s ≡ t
after-same s t [] h l m e = e
after-same s t (b ∷ bytes) h l m e =
    let fits = m 0 0 (omega arith) in
    after_byte-same s t b h l fits
    (after-same (after_byte s b) (after_byte t b) bytes (after_byte-lt s b h fits) (after_byte-lt t b l fits) (rest_of b bytes m) e)

-- ---- a few bytes as a number

number : List ℕ → ℕ
number [] = 0
number (b ∷ bytes) = b + number bytes * 256

number-lt : (bytes : List ℕ) → AreBytes bytes → number bytes < 256 ^ length bytes
unfolding number
number-lt [] h = omega arith
number-lt (b ∷ bytes) h =
    let first : b < 256 = h 0 0 (omega arith) in
    omega (arith, number-lt bytes (rest_of b bytes h), pow-suc 256 (length bytes))

number-same : (a b : List ℕ) → AreBytes a → AreBytes b → length a ≡ length b → number a ≡ number b → a ≡ b
unfolding number
number-same [] [] h l same e = refl
number-same [] (y ∷ b) h l same e = absurd (omega arith)
number-same (x ∷ a) [] h l same e = absurd (omega arith)
number-same (x ∷ a) (y ∷ b) h l same e =
    let low : x < 256 = h 0 0 (omega arith) in
    let high : y < 256 = l 0 0 (omega arith) in
    ap₂ (λ z zs. z ∷ zs) (omega arith) (number-same a b (rest_of x a h) (rest_of y b l) (omega arith) (omega arith))

number_in : (s : ℕ) (bytes : List ℕ) → AreBytes bytes → after s bytes ≡ after_bits (8 * length bytes) (bit_xor s (number bytes))
unfolding number
number_in s [] h = sym (xor_zero_r s)
number_in s (b ∷ bytes) h =
    number_in (after_byte s b) bytes (rest_of b bytes h)
    ∙ sym (same_count (8 * suc (length bytes)) (8 + 8 * length bytes) _ (omega arith) ∙ byte_in (8 * length bytes) s b (number bytes) (h 0 0 (omega arith)))

small : (bytes : List ℕ) → AreBytes bytes → length bytes ≤ 4 → number bytes < 2 ^ 32
small bytes h l = lt_of_lt_of_le (number-lt bytes h) (pow-le-pow_right {n = 256} (omega arith) l)

few-same : (s : ℕ) (a b : List ℕ) → s < 2 ^ 32 → AreBytes a → AreBytes b → length a ≡ length b → length a ≤ 4 → after s a ≡ after s b → a ≡ b
few-same s a b h l m same few e =
    let long : length b ≤ 4 = omega arith in
    number-same a b l m same
    (xor-cancel s (number a) (number b)
    (after_bits-same (8 * length a) (bit_xor s (number a)) (bit_xor s (number b)) (xor_lt 32 s (number a) h (small a l few)) (xor_lt 32 s (number b) h (small b m long))
    (sym (number_in s a l) ∙ e ∙ number_in s b m ∙ same_count (8 * length b) (8 * length a) _ (omega arith))))

pub shows_a_change : (front a b back : List ℕ) → AreBytes front → AreBytes a → AreBytes b → AreBytes back → length a ≡ length b → length a ≤ 4
    → crc32c (front ++ (a ++ back)) ≡ crc32c (front ++ (b ++ back)) → a ≡ b
unfolding crc32c
shows_a_change front a b back F A B C same few e =
    let before = after start front in
    let fits : before < 2 ^ 32 = after-lt start front (omega arith) F in
    few-same before a b fits A B same few
    (after-same (after before a) (after before b) back (after-lt before a fits A) (after-lt before b fits B) C
    (sym (whole a) ∙ xor-cancel 0xffffffff _ _ (xor_comm 0xffffffff _ ∙ e ∙ xor_comm _ 0xffffffff) ∙ whole b))
  where
    whole : (x : List ℕ) → after start (front ++ (x ++ back)) ≡ after (after (after start front) x) back
    whole x = after-append start front (x ++ back) ∙ after-append (after start front) x back
