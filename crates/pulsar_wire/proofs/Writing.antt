-- A message behind its length.
use Rattle.std.proofs.Common.{◌≡◌, ℕ, ◌-◌, ◌^◌, ◌≤◌, List, ◌++◌, length, append_assoc, length-append, arith, inl, inr}
use Rattle.std.proofs.lemmas.Bool.{cases_lt}
use Rattle.pulsar_wire.specs.Row.{key, varint, message_entry}
use Rattle.pulsar_wire.specs.Sink.{capped}

-- a length that was counted stands for the length of what follows it
pub with_count : {S : Type 0} (Holds : S → List ℕ → Type 0) (full : (s : S) (xs ys : List ℕ) → Holds s xs → 2 ^ 64 - 1 ≤ length xs → 2 ^ 64 - 1 ≤ length ys → Holds s ys)
    (s : S) (n count : ℕ) (front bytes : List ℕ) → count ≡ capped (length bytes) → Holds s ((front ++ (key n 2 ++ varint count)) ++ bytes) → Holds s (front ++ message_entry n bytes)
with_count Holds full s n count front bytes e h =
    let same : (front ++ (key n 2 ++ varint (length bytes))) ++ bytes ≡ front ++ message_entry n bytes = simp append_assoc in
    elim (cases_lt (length bytes) (2 ^ 64 - 1)) [
      | inl lt ↦ let exact : count ≡ length bytes = omega arith in rw (← same, ← exact) h
      | inr le ↦ full s _ _ h (omega (arith, length-append (front ++ (key n 2 ++ varint count)) bytes)) (rw (← same) (omega (arith, length-append (front ++ (key n 2 ++ varint (length bytes))) bytes)))
    ]
