-- What is outside: the bytes that come and go, and the faults.
use Rattle.std.specs.Prelude.{◌≡◌, ℕ, ◌-◌, ◌^◌, ◌<◌, ◌≤◌, ◌⊎◌, List, [], length, take}

-- a count of faults has risen; one that stands at its end counts as risen
abbrev pub Rose : ℕ → ℕ → Type 0
Rose old new = (old < new) ⊎ (new ≡ 2 ^ 64 - 1)

-- The next n bytes of what is left stand at the front of the buffer. None come into a buffer that isn't empty just where
-- nothing is left.
pub record Takes (left : List ℕ) (n : ℕ) (buf : List ℕ) : Type 0 where
  pub within : n ≤ length left
  pub bytes : take n buf ≡ take n left
  pub end : n ≡ 0 → 0 < length buf → left ≡ []
