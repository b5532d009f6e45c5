-- The items of a copied list.
use Rattle.std.proofs.Common.{◌≡◌, List, [], ◌∷◌, map, refl}
use Rattle.std.specs.List.{AllZip}

-- items that are copied one by one show the same
pub map_copied : {A B : Type 0} (view : A → B) (xs ys : List A) → AllZip (λ x y. view y ≡ view x) xs ys → map view ys ≡ map view xs
map_copied view [] [] h = refl
map_copied view [] (y ∷ ys) h = absurd h
map_copied view (x ∷ xs) [] h = absurd h
map_copied view (x ∷ xs) (y ∷ ys) h = rw (h.0, map_copied view xs ys h.1) refl
