-- The front of a list, an element longer.
use Rattle.std.proofs.Common.{◌≡◌, ◌∙◌, sym, ap, ℕ, suc, ◌+◌, ◌<◌, ◌++◌, ◌∷◌, [], List, arith, length, take, get_or}
use Rattle.std.proofs.Math.Seq.{take-suc}

one-up : (k : ℕ) → k + 1 ≡ suc k
one-up k = omega arith

-- an element more of the front
pub take_more : {A : Type 0} (xs : List A) (k : ℕ) (d : A) → k < length xs → take k xs ++ get_or xs k d ∷ [] ≡ take (k + 1) xs
take_more xs k d lt = sym (ap (λ n. take n xs) (one-up k) ∙ take-suc xs k d lt)
