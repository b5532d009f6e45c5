-- Bytes of which one at a time is taken.
use Rattle.std.proofs.Common.{rules, ◌≤◌, ℕ, List, length, take, subst, Option}
use Rattle.std.specs.Prelude.{Result, Ok, Err, IfOk}
use Rattle.std.proofs.lemmas.List.{take-take, length-take}
use Rattle.pulsar_pumps.specs.Outside.{Grows}

-- what was taken of a front was taken of all
pub grows-front : {E : Type 0} (r : Result ℕ E) (k : ℕ) (bytes : List ℕ) (old new : Option (List ℕ)) → IfOk r (λ n. n ≤ length (take k bytes))
    → IfOk r (λ n. Grows old new (take n (take k bytes))) → IfOk r (λ n. Grows old new (take n bytes))
grows-front (Ok n) k bytes old new within grows = subst (Grows old new) (take-take n k bytes (search (rules, length-take))) grows
grows-front (Err e) k bytes old new within grows = grows
