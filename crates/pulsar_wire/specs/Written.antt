-- Serves the code's contracts alone: where a length is at its end, and where there is no value.
use Rattle.std.specs.Prelude.{◌≡◌, ℕ, ◌-◌, ◌^◌, ◌≤◌, length, List, Option, Some, None, refl}
use Rattle.std.specs.Option.{option_map}
use Rattle.std.specs.Global.{Vec}
use Rattle.std.proofs.Common.{arith, ap}
use Rattle.pulsar_wire.specs.Sink.{capped}

-- no list in memory is as long
pub vec_never_full : (v : Vec ℕ) (xs ys : List ℕ) → v.items ≡ xs → 2 ^ 64 - 1 ≤ length xs → 2 ^ 64 - 1 ≤ length ys → v.items ≡ ys
vec_never_full v xs ys e long longer = absurd (let same = ap length e in omega (arith, v.ok))

-- a count that stands at its end does not tell lengths apart
pub capped_alike : (n : ℕ) (xs ys : List ℕ) → n ≡ capped (length xs) → 2 ^ 64 - 1 ≤ length xs → 2 ^ 64 - 1 ≤ length ys → n ≡ capped (length ys)
capped_alike n xs ys e long longer = omega arith

-- a value that may be absent is what it holds
pub held_alike : {X : Type 0} (o : Option X) → o ≡ option_map (λ x. x) o
held_alike None = refl
held_alike (Some x) = refl
