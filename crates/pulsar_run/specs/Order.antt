-- Lists that are kept in an order, which a test `below` says.
use Rattle.std.specs.Prelude.{◌≡◌, Bool, false, if◌then◌else◌, List, [], ◌∷◌}
use Rattle.std.specs.List.Sorted.{IsPermutation, IsStableBy}

-- x is put before the first that it ranks below
abbrev pub put : {A : Type 0} → (A → A → Bool) → A → List A → List A
put below x [] = x ∷ []
put below x (y ∷ ys) = if below x y then x ∷ y ∷ ys else y ∷ put below x ys

-- each of the first list is put, one after the other
abbrev pub put_all : {A : Type 0} → (A → A → Bool) → List A → List A → List A
put_all below [] ys = ys
put_all below (x ∷ xs) ys = put_all below xs (put below x ys)

-- so a list is put in order, from none on
abbrev pub arranged : {A : Type 0} → (A → A → Bool) → List A → List A
arranged below xs = put_all below xs []

-- none of a list ranks below this one
abbrev pub NoneBelow : {A : Type 0} → (A → A → Bool) → A → List A → Type 0
NoneBelow below x [] = Unit {0}
NoneBelow below x (y ∷ ys) = (below y x ≡ false) × NoneBelow below x ys

-- none of a list ranks below an earlier one
abbrev pub InOrder : {A : Type 0} → (A → A → Bool) → List A → Type 0
InOrder below [] = Unit {0}
InOrder below (x ∷ xs) = NoneBelow below x xs × InOrder below xs

-- each list is so
abbrev pub AllInOrder : {A : Type 0} → (A → A → Bool) → List (List A) → Type 0
AllInOrder below [] = Unit {0}
AllInOrder below (xs ∷ xss) = InOrder below xs × AllInOrder below xss

-- The second list has the elements of the first, each once, in order. Those of equal rank stand as they did.
pub record Arranges {A : Type 0} (below : A → A → Bool) (xs ys : List A) : Type 0 where
  pub in_order : InOrder below ys
  pub same : IsPermutation xs ys
  pub stable : IsStableBy below xs ys
