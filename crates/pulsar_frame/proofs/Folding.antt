-- Bytes that are folded: each has five bytes before it added, by a product of the polynomial that has six terms.
use Rattle.std.proofs.Common.{◌≡◌, ℕ, zero, suc, ◌+◌, ◌*◌, ◌<◌, ◌≤◌, Bool, true, ◌&&◌, T, eqb, List, [], ◌∷◌, ◌++◌, length, get_or, take, drop, set, replicate, ◌^◌, bit_xor, refl, sym, ap, ap₂, ◌∙◌, inl, inr, subst, arith, length-drop, eqb→eq}
use Rattle.std.proofs.lemmas.Bool.{cases_lt, cases_eq}
use Rattle.std.proofs.lemmas.List.{take_more, take-set-le, drop-set-add, get_or-drop, drop-drop, length-set, get_or-set_same, get_or-set_other, length-take-le, take-append-le, take-append-drop, take-take}
use Rattle.std.proofs.lemmas.List.Edits.{paste_all}
use Rattle.std.specs.List.{copy_within}
use Rattle.std.proofs.lemmas.Nat.{xor_block, xor_lt, xor_comm}
use Rattle.std.specs.Int.{w32, to_le_bytes}
use lib.Ieee.Fits.{and_l, and_r}
use lib.Bits.{xor_zero_r, xor_self, xor_assoc}
use Rattle.pulsar_frame.specs.Checksum.{after_bit, after_bits, after_byte, after}
use Rattle.pulsar_frame.specs.Residue.{residue}
use Rattle.pulsar_frame.proofs.Crc.{word_in, xor_swap, same_count, after_bits-xor, after_bits-add}
use Rattle.pulsar_frame.proofs.Changes.{after-append}

abbrev pub chain : ℕ → ℕ → ℕ → ℕ → ℕ → ℕ → ℕ
chain a b c d e f = bit_xor (bit_xor (bit_xor (bit_xor (bit_xor a b) c) d) e) f

-- ---- the product divides evenly

-- a byte at the six places of the product
places : ℕ → ℕ
places x = chain (after_bits 1680 x) (after_bits 1160 x) (after_bits 440 x) (after_bits 320 x) (after_bits 120 x) (after_bits 8 x)

all_below : (ℕ → Bool) → ℕ → Bool
all_below test zero = true
all_below test (suc n) = test n && all_below test n

each_below : (test : ℕ → Bool) (n k : ℕ) → T (all_below test n) → k < n → T (test k)
unfolding all_below
each_below test zero k h l = absurd (omega arith)
each_below test (suc n) k h l =
    elim (cases_lt k n) [ inl a ↦ each_below test n k (and_r (test n) _ h) a | inr a ↦ let e : n ≡ k = omega arith in subst (λ x. T (test x)) e (and_l _ _ h) ]

vanishes : T (all_below (λ x. eqb (places x) 0) 256)
unfolding all_below places after_bit
vanishes = tt

places-zero : (x : ℕ) → x < 256 → places x ≡ 0
places-zero x h = eqb→eq _ _ (each_below (λ x. eqb (places x) 0) 256 x vanishes h)

-- ---- lists

after_byte-xor : (s t b c : ℕ) → after_byte (bit_xor s t) (bit_xor b c) ≡ bit_xor (after_byte s b) (after_byte t c)
unfolding after_byte
after_byte-xor s t b c = ap (after_bits 8) (xor_swap s t b c) ∙ after_bits-xor 8 (bit_xor s b) (bit_xor t c)

after-from_zero : (s : ℕ) (bytes : List ℕ) → after s bytes ≡ bit_xor (after_bits (8 * length bytes) s) (after 0 bytes)
unfolding after_byte
after-from_zero s [] = sym (xor_zero_r s)
after-from_zero s (b ∷ bytes) =
    ap (λ x. after x bytes) (ap (λ t. after_byte t b) (sym (xor_zero_r s)) ∙ after_byte-xor s 0 0 b)
    ∙ after-from_zero (bit_xor (after_byte s 0) (after_byte 0 b)) bytes
    ∙ ap (λ x. bit_xor x (after 0 bytes)) (after_bits-xor n (after_byte s 0) (after_byte 0 b))
    ∙ xor_assoc (after_bits n (after_byte s 0)) (after_bits n (after_byte 0 b)) (after 0 bytes)
    ∙ ap₂ bit_xor (first ∙ same_count (8 + n) (8 * suc (length bytes)) s (omega arith)) (sym (after-from_zero (after_byte 0 b) bytes))
  where
    n : ℕ
    n = 8 * length bytes

    first : after_bits n (after_byte s 0) ≡ after_bits (8 + n) s
    first = ap (λ t. after_bits n (after_bits 8 t)) (xor_zero_r s) ∙ sym (after_bits-add 8 n s)

after-front : (k x : ℕ) (v : List ℕ) → k ≤ length v → after_byte (after 0 (take k (x ∷ v))) (get_or (x ∷ v) k 0) ≡ bit_xor (after_bits (8 * suc k) x) (after 0 (take k v))
unfolding after_byte
after-front k x v h =
    sym (after-append 0 (take k (x ∷ v)) (get_or (x ∷ v) k 0 ∷ []))
    ∙ ap (after 0) (sym (take_more (x ∷ v) k 0 (omega arith)) ∙ ap (λ (n : ℕ). take n (x ∷ v)) k+1)
    ∙ after-from_zero (after_bits 8 x) (take k v)
    ∙ ap (λ y. bit_xor y (after 0 (take k v)))
    (same_count (8 * length (take k v)) (8 * k) (after_bits 8 x) (omega (arith, length-take-le k v h))
    ∙ sym (after_bits-add 8 (8 * k) x) ∙ same_count (8 + 8 * k) (8 * suc k) x (omega arith))
  where
    k+1 : k + 1 ≡ suc k
    k+1 = omega arith

-- ---- six terms together

chain-after_byte : (s t u v w x a b c d e f : ℕ)
    → after_byte (chain s t u v w x) (chain a b c d e f) ≡ chain (after_byte s a) (after_byte t b) (after_byte u c) (after_byte v d) (after_byte w e) (after_byte x f)
chain-after_byte s t u v w x a b c d e f =
    more _ _ _ x f (more _ _ _ w e (more _ _ _ v d (more _ _ _ u c (after_byte-xor s t a b))))
  where
    more : (y z n p q : ℕ) → after_byte y z ≡ n → after_byte (bit_xor y p) (bit_xor z q) ≡ bit_xor n (after_byte p q)
    more y z n p q e = after_byte-xor y p z q ∙ ap (λ m. bit_xor m (after_byte p q)) e

chain-apart : (s t u v w x a b c d e f : ℕ)
    → chain (bit_xor s a) (bit_xor t b) (bit_xor u c) (bit_xor v d) (bit_xor w e) (bit_xor x f) ≡ bit_xor (chain s t u v w x) (chain a b c d e f)
chain-apart s t u v w x a b c d e f =
    more _ _ _ x f (more _ _ _ w e (more _ _ _ v d (more _ _ _ u c (xor_swap s a t b))))
  where
    more : (n y z p q : ℕ) → n ≡ bit_xor y z → bit_xor n (bit_xor p q) ≡ bit_xor (bit_xor y p) (bit_xor z q)
    more n y z p q e = ap (λ m. bit_xor m (bit_xor p q)) e ∙ xor_swap y z p q

chain-gathered : (a b c d e f : ℕ) → chain a b c d e f ≡ bit_xor a (bit_xor (bit_xor (bit_xor (bit_xor b c) d) e) f)
chain-gathered a b c d e f = more _ _ f (more _ _ e (more _ _ d (xor_assoc a b c)))
  where
    more : (n m q : ℕ) → n ≡ bit_xor a m → bit_xor n q ≡ bit_xor a (bit_xor m q)
    more n m q h = ap (λ y. bit_xor y q) h ∙ xor_assoc a m q

chain-twice : (a b c d e f : ℕ) → chain (chain a b c d e f) b c d e f ≡ a
chain-twice a b c d e f =
    ap (λ y. chain y b c d e f) (chain-gathered a b c d e f) ∙ chain-gathered (bit_xor a m) b c d e f
    ∙ xor_assoc a m m ∙ ap (bit_xor a) (xor_self m) ∙ xor_zero_r a
  where
    m : ℕ
    m = bit_xor (bit_xor (bit_xor (bit_xor b c) d) e) f

-- ---- a window that moves on by a byte

step : (x : ℕ) (v : List ℕ) → x < 256 → 209 ≤ length v
    → after_byte (residue (x ∷ v)) (chain (get_or (x ∷ v) 209 0) (get_or (x ∷ v) 144 0) (get_or (x ∷ v) 54 0) (get_or (x ∷ v) 39 0) (get_or (x ∷ v) 14 0) x) ≡ residue v
unfolding residue places
step x v h l =
    ap (λ s. after_byte s (chain (g 209) (g 144) (g 54) (g 39) (g 14) x)) (sym (xor_zero_r (residue (x ∷ v))))
    ∙ chain-after_byte (q 209) (q 144) (q 54) (q 39) (q 14) 0 (g 209) (g 144) (g 54) (g 39) (g 14) x
    ∙ ap₂ bit_xor (ap₂ bit_xor (ap₂ bit_xor (ap₂ bit_xor (ap₂ bit_xor (at 209 (omega arith)) (at 144 (omega arith))) (at 54 (omega arith))) (at 39 (omega arith)))
    (at 14 (omega arith))) (at 0 (omega arith))
    ∙ chain-apart (p 209) (p 144) (p 54) (p 39) (p 14) (p 0) (r 209) (r 144) (r 54) (r 39) (r 14) 0
    ∙ ap₂ bit_xor (places-zero x h) (xor_zero_r (residue v))
  where
    p : ℕ → ℕ
    p k = after_bits (8 * suc k) x

    q : ℕ → ℕ
    q k = after 0 (take k (x ∷ v))

    r : ℕ → ℕ
    r k = after 0 (take k v)

    g : ℕ → ℕ
    g k = get_or (x ∷ v) k 0

    at : (k : ℕ) → k ≤ length v → after_byte (q k) (g k) ≡ bit_xor (p k) (r k)
    at k m = after-front k x v m

step_on : (w : List ℕ) (b : ℕ) → 210 ≤ length w → get_or w 0 0 < 256
    → b ≡ chain (get_or w 209 0) (get_or w 144 0) (get_or w 54 0) (get_or w 39 0) (get_or w 14 0) (get_or w 0 0) → after_byte (residue w) b ≡ residue (drop 1 w)
step_on [] b l h e = absurd (omega arith)
step_on (x ∷ v) b l h e = ap (after_byte (residue (x ∷ v))) e ∙ step x v h (omega arith)

-- what the next byte b is folded to, behind the window at i
abbrev pub folded : List ℕ → ℕ → ℕ → ℕ
folded w i b = chain b (get_or w (i + 144) 0) (get_or w (i + 54) 0) (get_or w (i + 39) 0) (get_or w (i + 14) 0) (get_or w i 0)

residue-set : (v : List ℕ) (y : ℕ) → residue (set v 209 y) ≡ residue v
unfolding residue
residue-set v y =
    ap₂ bit_xor (ap₂ bit_xor (ap₂ bit_xor (ap₂ bit_xor (same 209 (omega arith)) (same 144 (omega arith))) (same 54 (omega arith))) (same 39 (omega arith))) (same 14 (omega arith))
  where
    same : (k : ℕ) → k ≤ 209 → after 0 (take k (set v 209 y)) ≡ after 0 (take k v)
    same k h = ap (after 0) (take-set-le k v 209 y h)

pub fold_more : (w : List ℕ) (i b s : ℕ) → i + 210 ≤ length w → get_or w i 0 < 256 → s ≡ residue (drop i w)
    → after_byte s b ≡ residue (drop (i + 1) (set w (i + 209) (folded w i b)))
fold_more w i b s long h e =
    ap (λ t. after_byte t b) (e ∙ sym (residue-set v y))
    ∙ step_on n b (omega (arith, length-set v 209 y, length-drop i w)) (rw (front 0 (omega arith), i+0) h) next
    ∙ ap residue (ap (drop 1) (sym (drop-set-add i w 209 y)) ∙ drop-drop 1 i (set w (i + 209) y))
  where
    y : ℕ
    y = folded w i b

    v : List ℕ
    v = drop i w

    n : List ℕ
    n = set v 209 y

    i+0 : get_or w (i + 0) 0 ≡ get_or w i 0
    i+0 = ap (λ (j : ℕ). get_or w j 0) (omega arith)

    front : (k : ℕ) → k < 209 → get_or n k 0 ≡ get_or w (i + k) 0
    front k l = get_or-set_other v 209 k y 0 (omega arith) ∙ get_or-drop i w k 0

    next : b ≡ chain (get_or n 209 0) (get_or n 144 0) (get_or n 54 0) (get_or n 39 0) (get_or n 14 0) (get_or n 0 0)
    next =
        sym (ap₂ bit_xor (ap₂ bit_xor (ap₂ bit_xor (ap₂ bit_xor (ap₂ bit_xor (get_or-set_same v 209 y 0 (omega (arith, length-drop i w)))
        (front 144 (omega arith))) (front 54 (omega arith))) (front 39 (omega arith))) (front 14 (omega arith))) (front 0 (omega arith) ∙ i+0)
        ∙ chain-twice b _ _ _ _ _)

pub residue-take : (n : ℕ) (a b : List ℕ) → 209 ≤ n → take n a ≡ take n b → residue a ≡ residue b
unfolding residue
residue-take n a b h e =
    ap₂ bit_xor (ap₂ bit_xor (ap₂ bit_xor (ap₂ bit_xor (same 209 (omega arith)) (same 144 (omega arith))) (same 54 (omega arith))) (same 39 (omega arith))) (same 14 (omega arith))
  where
    same : (k : ℕ) → k ≤ 209 → after 0 (take k a) ≡ after 0 (take k b)
    same k l =
        let le : k ≤ n = omega arith in
        ap (after 0) (sym (take-take k n a le) ∙ ap (take k) e ∙ take-take k n b le)

-- the window's end, moved to its front
pub residue-moved : (w : List ℕ) → length w ≡ 1233 → residue (copy_within w 1024 (length w) 0) ≡ residue (drop 1024 w)
residue-moved w h =
    ap (λ n. residue (copy_within w 1024 n 0)) h
    ∙ ap residue (paste_all w 0 (drop 1024 w) 209 (omega (arith, length-drop 1024 w)))
    ∙ residue-take 209 (drop 1024 w ++ drop 209 w) (drop 1024 w) (omega arith)
    (take-append-le 209 (drop 1024 w) (drop 209 w) (omega (arith, length-drop 1024 w)))

pub residue-zeros : residue (replicate 1233 0) ≡ 0
unfolding residue after_byte after_bit
residue-zeros = refl

set-fits : (w : List ℕ) (j y : ℕ) → j < length w → ((k : ℕ) → get_or w k 0 < 256) → y < 256 → (k : ℕ) → get_or (set w j y) k 0 < 256
set-fits w j y within fits h k =
    elim (cases_eq k j) [ inl e ↦ rw (e, get_or-set_same w j y 0 within) h | inr n ↦ rw (get_or-set_other w j k y 0 n) (fits k) ]

chain-lt : (a b c d e f : ℕ) → a < 256 → b < 256 → c < 256 → d < 256 → e < 256 → f < 256 → chain a b c d e f < 256
chain-lt a b c d e f A B C D E F =
    xor_lt 8 _ f (xor_lt 8 _ e (xor_lt 8 _ d (xor_lt 8 _ c (xor_lt 8 a b A B) C) D) E) F

-- a window of bytes, of which the first i have been folded
pub record Window (w : List ℕ) (state i : ℕ) : Type 0 where
  pub long : length w ≡ 1233
  pub fits : (k : ℕ) → get_or w k 0 < 256
  pub holds : state ≡ residue (drop i w)

pub window_more : (w : List ℕ) (i : ℕ) (block : List ℕ) (s : ℕ) → i < 1024 → length block ≡ 1024 → get_or block i 0 < 256
    → Window w (after s (take i block)) i → Window (set w (i + 209) (folded w i (get_or block i 0))) (after s (take (i + 1) block)) (i + 1)
window_more w i block s h long lt win = record {
  long = length-set w (i + 209) y ∙ win.long;
  fits = set-fits w (i + 209) y (omega (arith, win.long)) win.fits
      (chain-lt _ _ _ _ _ _ lt (win.fits (i + 144)) (win.fits (i + 54)) (win.fits (i + 39)) (win.fits (i + 14)) (win.fits i));
  holds =
      ap (after s) (take_more block i 0 (omega arith)) ∙ after-append s (take i block) (get_or block i 0 ∷ [])
      ∙ fold_more w i (get_or block i 0) (after s (take i block)) (omega (arith, win.long)) (win.fits i) win.holds;
}
  where
    y : ℕ
    y = folded w i (get_or block i 0)

-- ---- a state in the first four bytes

abbrev worth : ℕ → ℕ → ℕ → ℕ → ℕ
worth a b c d = ((a + b * 256) + c * 65536) + d * 16777216

worth-xor : (a b c d p q r s : ℕ) → a < 256 → b < 256 → c < 256 → p < 256 → q < 256 → r < 256
    → worth (bit_xor a p) (bit_xor b q) (bit_xor c r) (bit_xor d s) ≡ bit_xor (worth a b c d) (worth p q r s)
worth-xor a b c d p q r s A B C P Q R =
    worth-nested (bit_xor a p) (bit_xor b q) (bit_xor c r) (bit_xor d s)
    ∙ sym (ap₂ bit_xor (worth-nested a b c d) (worth-nested p q r s)
    ∙ xor_block 8 ((d * 2 ^ 8 + c) * 2 ^ 8 + b) ((s * 2 ^ 8 + r) * 2 ^ 8 + q) a p A P
    ∙ ap (λ x. x * 2 ^ 8 + bit_xor a p) (xor_block 8 (d * 2 ^ 8 + c) (s * 2 ^ 8 + r) b q B Q
    ∙ ap (λ x. x * 2 ^ 8 + bit_xor b q) (xor_block 8 d s c r C R)))
  where
    worth-nested : (a b c d : ℕ) → ((a + b * 256) + c * 65536) + d * 16777216 ≡ ((d * 2 ^ 8 + c) * 2 ^ 8 + b) * 2 ^ 8 + a
    worth-nested a b c d = omega arith

bytes_of : (s : ℕ) (bytes : List ℕ) → s < 2 ^ 32 → bytes ≡ to_le_bytes w32 s
    → (worth (get_or bytes 0 0) (get_or bytes 1 0) (get_or bytes 2 0) (get_or bytes 3 0) ≡ s)
    × (get_or bytes 0 0 < 256) × (get_or bytes 1 0 < 256) × (get_or bytes 2 0 < 256) × (get_or bytes 3 0 < 256)
bytes_of s bytes h e = rw e (omega arith, omega arith, omega arith, omega arith, omega arith)

-- the first four of the bytes, each with its byte of the state
abbrev pub started : List ℕ → List ℕ → List ℕ
started block bytes =
    let one = set block 0 (bit_xor (get_or block 0 0) (get_or bytes 0 0)) in
    let two = set one 1 (bit_xor (get_or one 1 0) (get_or bytes 1 0)) in
    let three = set two 2 (bit_xor (get_or two 2 0) (get_or bytes 2 0)) in
    set three 3 (bit_xor (get_or three 3 0) (get_or bytes 3 0))

pub started-is : (s : ℕ) (block bytes : List ℕ) → s < 2 ^ 32 → bytes ≡ to_le_bytes w32 s → ((k : ℕ) → get_or block k 0 < 256) → 4 ≤ length block
    → after 0 (started block bytes) ≡ after s block
started-is s (a ∷ b ∷ c ∷ d ∷ block) bytes h e fits l =
    let of = bytes_of s bytes h e in
    word_in 0 _ _ _ _ block (xor_lt 8 a _ (fits 0) of.1) (xor_lt 8 b _ (fits 1) of.2) (xor_lt 8 c _ (fits 2) of.3) (xor_lt 8 d _ (fits 3) of.4)
    ∙ ap (λ x. after (after_bits 32 x) block)
    (worth-xor a b c d _ _ _ _ (fits 0) (fits 1) (fits 2) of.1 of.2 of.3 ∙ xor_comm (worth a b c d) _ ∙ ap (λ x. bit_xor x (worth a b c d)) of.0)
    ∙ sym (word_in s a b c d block (fits 0) (fits 1) (fits 2) (fits 3))
started-is s [] bytes h e fits l = absurd (omega arith)
started-is s (a ∷ []) bytes h e fits l = absurd (omega arith)
started-is s (a ∷ b ∷ []) bytes h e fits l = absurd (omega arith)
started-is s (a ∷ b ∷ c ∷ []) bytes h e fits l = absurd (omega arith)

-- ---- a text that is cut

pub after-cut : (s n : ℕ) (bytes front behind : List ℕ) → front ≡ take n bytes → behind ≡ drop n bytes → after (after s front) behind ≡ after s bytes
after-cut s n bytes front behind e f =
    sym (after-append s front behind) ∙ ap (after s) (ap₂ (λ x y. x ++ y) e f ∙ take-append-drop n bytes)
