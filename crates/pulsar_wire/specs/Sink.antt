-- Where bytes are written, one behind the other, or only counted: a length stands in front of what it counts.
-- (Protocol Buffers, Encoding: length-delimited records)
use Rattle.std.specs.Prelude.{ℕ, ◌-◌, ◌^◌, min, List, ◌++◌}

-- a count that stops at the greatest u64
abbrev pub capped : ℕ → ℕ
capped n = min n (2 ^ 64 - 1)

-- what a sink holds goes on with these bytes
abbrev pub Appends : {S : Type 0} → (S → List ℕ → Type 0) → S → S → List ℕ → Type 0
Appends Holds old new bytes = (front : List ℕ) → Holds old front → Holds new (front ++ bytes)
