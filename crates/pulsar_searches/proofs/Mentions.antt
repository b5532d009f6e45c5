-- A text mentions a part just where the part's bytes stand in it.
use Rattle.std.proofs.Common.{◌≡◌, ap, refl, ℕ, Bool, true, false, List, [], ◌∷◌, ◌++◌, length, drop, ◌==◌, ◌||◌}
use Rattle.std.specs.List.{starts_with}
use Rattle.std.specs.Str.Iter.{HasSubslice}
use Rattle.std.proofs.lemmas.Bool.Decides.{Decides-eqb}
use Rattle.std.proofs.lemmas.Slice.Eq.{starts_is}
use Rattle.pulsar_searches.specs.Plans.{mentions}

in_front : (n s : List ℕ) → starts_with (λ x y. x == y) s n ≡ true → HasSubslice s n
in_front n s e = ([], drop (length n) s, (starts_is Decides-eqb s n _ refl).0 e)

more : (n : List ℕ) (x : ℕ) (s : List ℕ) → HasSubslice s n → HasSubslice (x ∷ s) n
more n x s h = (x ∷ h.0, h.1, ap (λ l. x ∷ l) h.2)

either : (n : List ℕ) (x : ℕ) (s : List ℕ) (b m : Bool) → starts_with (λ x y. x == y) (x ∷ s) n ≡ b → (m ≡ true → HasSubslice s n) → (b || m) ≡ true → HasSubslice (x ∷ s) n
either n x s true m e rest h = in_front n (x ∷ s) e
either n x s false m e rest h = more n x s (rest h)

pub found : (n s : List ℕ) → mentions n s ≡ true → HasSubslice s n
unfolding mentions
found n [] h = in_front n [] h
found n (x ∷ s) h = either n x s _ (mentions n s) refl (found n s) h

or-left : (a b : Bool) → a ≡ true → (a || b) ≡ true
or-left true b e = refl
or-left false b e = cc

or-right : (a b : Bool) → b ≡ true → (a || b) ≡ true
or-right true b e = refl
or-right false b e = e

pub finds : (n s a b : List ℕ) → s ≡ a ++ (n ++ b) → mentions n s ≡ true
unfolding mentions
finds n [] [] b e = (starts_is Decides-eqb [] n _ refl).1 b e
finds n [] (y ∷ a) b e = absurd (cc)
finds n (x ∷ s) [] b e = or-left _ _ ((starts_is Decides-eqb (x ∷ s) n _ refl).1 b e)
finds n (x ∷ s) (y ∷ a) b e = or-right _ _ (finds n s a b (cc))
