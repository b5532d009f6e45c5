-- Numbers, one after the other.
use Rattle.std.proofs.Common.{◌≡◌, ℕ, zero, suc, ◌+◌, ◌-◌, ◌≤◌, ◌∙◌, ap, [], ◌∷◌, ◌++◌, arith}
use Rattle.pulsar_calls.specs.Content.{numbers_from}

pub places_end : (first n : ℕ) → numbers_from first (suc n) ≡ numbers_from first n ++ (first + n) ∷ []
places_end first zero = ap (λ k. k ∷ []) (omega arith)
places_end first (suc n) =
    ap (λ ps. first ∷ ps) (places_end (suc first) n) ∙ ap (λ k. first ∷ (numbers_from (suc first) n ++ k ∷ [])) (omega arith)

-- one place more
pub next_number : (first i : ℕ) → first ≤ i → numbers_from first (i + 1 - first) ≡ numbers_from first (i - first) ++ i ∷ []
next_number first i le =
    let more : i + 1 - first ≡ suc (i - first) = omega arith in
    let at : first + (i - first) ≡ i = omega arith in
    ap (numbers_from first) more ∙ places_end first (i - first) ∙ ap (λ k. numbers_from first (i - first) ++ k ∷ []) at
