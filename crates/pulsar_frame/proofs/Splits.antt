-- Bytes behind their size: how many they are, and what comes after them.
use Rattle.std.proofs.Common.{◌≡◌, ℕ, ◌+◌, ◌-◌, ◌^◌, ◌<◌, false, ltb, List, ◌++◌, length, take, drop, Option, Some, None, refl, sym, ap, ◌∙◌, [], append_assoc, length-append, arith, inl, inr}
use Rattle.std.specs.Int.{w32, from_be_bytes, to_be_bytes}
use Rattle.std.proofs.lemmas.Bool.{le-ltb, ltb-false}
use Rattle.std.proofs.lemmas.List.{take-append-drop, length-take-le, take_at, drop_at, append-nil}
use Rattle.pulsar_wire.specs.Field.{bytes_at}
use Rattle.pulsar_wire.proofs.Fields.{bind_some, chosen, some, some_is, Takes}
use Rattle.std.proofs.lemmas.Nat.{from_be_bytes-to_be_bytes_4}
use Rattle.pulsar_frame.specs.Sized.{sized_at, with_size}

abbrev size_then : List ℕ × List ℕ → Option (List ℕ × List ℕ)
size_then size = bytes_at (from_be_bytes w32 size.0) size.1

-- the next n bytes and those after them are all bytes
bytes_at-whole : (n : ℕ) (bytes x rest : List ℕ) → bytes_at n bytes ≡ Some (x, rest) → (bytes ≡ x ++ rest) × (length x ≡ n)
unfolding bytes_at
bytes_at-whole n bytes x rest e =
    elim (chosen (ltb (length bytes) n) None (some (take n bytes, drop n bytes)) (some (x, rest)) e) [
      | inl h ↦ absurd (let none = h.1 in cc)
      | inr h ↦
          let front = ap (λ (p : List ℕ × List ℕ). p.0) (some_is _ _ h.1) in
          let back = ap (λ (p : List ℕ × List ℕ). p.1) (some_is _ _ h.1) in
          let long = ltb-false _ _ h.0 in
          (rw (← front, ← back) (sym (take-append-drop n bytes)), rw (← front) (length-take-le n bytes long))
    ]

-- the first n bytes, where x has as many
pub bytes_at-front : (n : ℕ) (x t : List ℕ) → length x ≡ n → bytes_at n (x ++ t) ≡ Some (x, t)
unfolding bytes_at
bytes_at-front n x t e =
    let long : ltb (length (x ++ t)) n ≡ false = le-ltb _ _ (omega (arith, length-append x t)) in
    rw (long, take_at x t n e, drop_at x t n e) refl

-- the bytes of a size, those that it counts, and those after them
record Parts (bytes x rest : List ℕ) : Type 0 where
  size : List ℕ
  whole : bytes ≡ (size ++ x) ++ rest
  four : length size ≡ 4
  counted : length x ≡ from_be_bytes w32 size

regroup : (bytes a more x rest : List ℕ) → bytes ≡ a ++ more → more ≡ x ++ rest → bytes ≡ (a ++ x) ++ rest
regroup bytes a more x rest e f = rw (e, f, append_assoc) refl

parts : (bytes x rest : List ℕ) → sized_at bytes ≡ Some (x, rest) → Parts bytes x rest
unfolding sized_at
parts bytes x rest e =
    let size = bind_some (bytes_at 4 bytes) size_then (x, rest) e in
    let four = bytes_at-whole 4 bytes size.0.0 size.0.1 size.1 in
    let counted = bytes_at-whole _ size.0.1 x rest size.2 in
    record { size = size.0.0; whole = regroup bytes size.0.0 size.0.1 x rest four.0 counted.0; four = four.1; counted = counted.1 }

sized_at-parts : (size x rest : List ℕ) → length size ≡ 4 → length x ≡ from_be_bytes w32 size → sized_at (size ++ (x ++ rest)) ≡ Some (x, rest)
unfolding sized_at
sized_at-parts size x rest four counted = rw (bytes_at-front 4 size (x ++ rest) four) (bytes_at-front (from_be_bytes w32 size) x rest counted)

-- the size stands in four bytes at least
pub sized-takes : Takes sized_at 4
sized-takes = record {
  shorter = λ bytes x rest e.
      let p = parts bytes x rest e in
      let whole = ap length p.whole in
      omega (arith, p.four, length-append (p.size ++ x) rest, length-append p.size x);
  goes_on = λ bytes x rest after e.
      let p = parts bytes x rest e in
      rw (p.whole, append_assoc, append_assoc) (sized_at-parts p.size x (rest ++ after) p.four p.counted);
}

-- what follows is what is left behind as many bytes as are gone
pub sized-rest : (bytes x rest : List ℕ) → sized_at bytes ≡ Some (x, rest) → rest ≡ drop (length bytes - length rest) bytes
sized-rest bytes x rest e =
    let p = parts bytes x rest e in
    let whole = ap length p.whole in
    let gone : length (p.size ++ x) ≡ length bytes - length rest = omega (arith, length-append (p.size ++ x) rest) in
    sym (ap (drop (length bytes - length rest)) p.whole ∙ drop_at (p.size ++ x) rest _ gone)

-- the bytes in front of what follows
pub sized-alone : (bytes x rest : List ℕ) → sized_at bytes ≡ Some (x, rest) → (front : List ℕ) × (bytes ≡ front ++ rest) × (sized_at front ≡ Some (x, []))
sized-alone bytes x rest e =
    let p = parts bytes x rest e in
    (p.size ++ x, p.whole, rw (append-nil x) at (sized_at-parts p.size x [] p.four p.counted))

sized_at-behind : (n : ℕ) (x t : List ℕ) → length x ≡ n → n < 2 ^ 32 → sized_at (to_be_bytes w32 n ++ (x ++ t)) ≡ Some (x, t)
unfolding sized_at
sized_at-behind n x t e fits =
    rw (bytes_at-front 4 (to_be_bytes w32 n) (x ++ t) refl, from_be_bytes-to_be_bytes_4 n fits) (bytes_at-front n x t e)

-- bytes behind their size are read again
pub sized_at-with_size : (x t : List ℕ) → length x < 2 ^ 32 → sized_at (with_size x ++ t) ≡ Some (x, t)
unfolding with_size
sized_at-with_size x t fits = rw append_assoc (sized_at-behind (length x) x t refl fits)

pub length-with_size : (x : List ℕ) → length (with_size x) ≡ 4 + length x
unfolding with_size
length-with_size x = length-append (to_be_bytes w32 (length x)) x
