-- Letters are drawn one after the other.
use Rattle.std.proofs.Common.{◌≡◌, ◌∙◌, sym, ap, ℕ, suc, ◌+◌, ◌-◌, ◌<◌, List, [], ◌∷◌, ◌++◌, arith}
use Rattle.std.proofs.lemmas.List.{append-nil, append_assoc}
use Rattle.rand_pcg.specs.Lcg.{Lcg}
use Rattle.rand_pcg.specs.Pcg.{pcg32}
use Rattle.pulsar_incoming.specs.Naming.{letter, letters}

-- one more letter, where not all of eight are drawn
pub drawn_more : (name : List ℕ) (n : ℕ) (g : Lcg) → n < 8 → (name ++ letter (pcg32 g).0 ∷ []) ++ letters (8 - (n + 1)) (pcg32 g).1 ≡ name ++ letters (8 - n) g
unfolding letters
drawn_more name n g lt =
    let e : 8 - n ≡ suc (8 - (n + 1)) = omega arith in
    append_assoc name (letter (pcg32 g).0 ∷ []) (letters (8 - (n + 1)) (pcg32 g).1) ∙ ap (λ m. name ++ letters m g) (sym e)

-- and none once all are drawn
pub drawn_all : (name : List ℕ) (g : Lcg) → name ++ letters (8 - 8) g ≡ name
unfolding letters
drawn_all name g = append-nil name

-- a letter that was drawn stands behind those before it
pub drawn_next : (old new before : List ℕ) (n word : ℕ) (g h : Lcg) → n < 8 → (word, h) ≡ pcg32 g → new ≡ old ++ letter word ∷ [] → old ++ letters (8 - n) g ≡ before →
    new ++ letters (8 - (n + 1)) h ≡ before
drawn_next old new before n word g h lt is_drawn is_new was =
    ap (λ x. x ++ letters (8 - (n + 1)) h) is_new
    ∙ ap (λ p. (old ++ letter p.0 ∷ []) ++ letters (8 - (n + 1)) p.1) is_drawn
    ∙ drawn_more old n g lt ∙ was
