-- Plain facts on lists.
use Rattle.std.proofs.Common.{◌≡◌, ◌∙◌, ap, List, [], ◌∷◌, ◌++◌, refl, map, Bool, true, false, ◌||◌, Option, Some, None}
use Rattle.std.proofs.lemmas.List.Elements.{filter_map-append}
use Rattle.std.specs.List.{cons_option, filter_map, flat_map, list_any}
use Rattle.std.specs.Option.{option_to_list}

one_option : {B : Type 0} (r : Option B) → cons_option r [] ≡ option_to_list r
one_option None = refl
one_option (Some y) = refl

pub filter_map_end : {A B : Type 0} (f : A → Option B) (xs : List A) (x : A) → filter_map f (xs ++ x ∷ []) ≡ filter_map f xs ++ option_to_list (f x)
filter_map_end f xs x = filter_map-append f xs (x ∷ []) ∙ ap (λ ys. filter_map f xs ++ ys) (one_option (f x))

pub any_map : {A B : Type 0} (f : A → B) (test : B → Bool) (xs : List A) → list_any test (map f xs) ≡ list_any (λ x. test (f x)) xs
any_map f test [] = refl
any_map f test (x ∷ xs) = ap (λ b. test (f x) || b) (any_map f test xs)

any_one : (a b : Bool) → (a || (b || false)) ≡ (a || b)
any_one true b = refl
any_one false true = refl
any_one false false = refl

pub any_end : {A : Type 0} (test : A → Bool) (xs : List A) (x : A) → list_any test (xs ++ x ∷ []) ≡ (list_any test xs || test x)
any_end test [] x = any_one false (test x)
any_end test (y ∷ xs) x = ap (λ b. test y || b) (any_end test xs x) ∙ any_assoc (test y) (list_any test xs) (test x)
  where
    any_assoc : (a b c : Bool) → (a || (b || c)) ≡ ((a || b) || c)
    any_assoc true b c = refl
    any_assoc false b c = refl

pub map_map : {A B C : Type 0} (f : B → C) (g : A → B) (xs : List A) → map f (map g xs) ≡ map (λ x. f (g x)) xs
map_map f g [] = refl
map_map f g (x ∷ xs) = ap (λ ys. f (g x) ∷ ys) (map_map f g xs)

pub flat_map_of : {A B C : Type 0} (f : B → List C) (g : A → B) (xs : List A) → flat_map f (map g xs) ≡ flat_map (λ x. f (g x)) xs
flat_map_of f g [] = refl
flat_map_of f g (x ∷ xs) = ap (λ ys. f (g x) ++ ys) (flat_map_of f g xs)
