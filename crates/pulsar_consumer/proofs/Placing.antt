-- Items are placed one by one.
use Rattle.std.proofs.Common.{◌≡◌, ◌∙◌, ap, sym, ℕ, suc, ◌-◌, ◌<◌, List, [], ◌∷◌, ◌++◌, length, take, drop, Option, arith}
use Rattle.std.proofs.lemmas.List.{append_assoc, length-append}
use Rattle.pulsar_consumer.specs.Items.{Item}
use Rattle.pulsar_consumer.specs.Redelivery.{Kept, keep_all, keep_item}

-- with one more placed there is room for one less
less_room : {A : Type 0} (q : ℕ) (u : List A) (x : A) → length u < q → q - length u ≡ suc (q - length (u ++ x ∷ []))
less_room q u x lt = let more = length-append u (x ∷ []) in omega (arith, lt, more)

pub placed_more : {A : Type 0} (q : ℕ) (u r : List A) (x : A) → length u < q →
    (u ++ x ∷ []) ++ take (q - length (u ++ x ∷ [])) r ≡ u ++ take (q - length u) (x ∷ r)
placed_more q u r x lt =
    append_assoc u (x ∷ []) (take (q - length (u ++ x ∷ [])) r) ∙ ap (λ n. u ++ take n (x ∷ r)) (sym (less_room q u x lt))

pub left_more : {A : Type 0} (q : ℕ) (u r : List A) (x : A) → length u < q → drop (q - length (u ++ x ∷ [])) r ≡ drop (q - length u) (x ∷ r)
left_more q u r x lt = ap (λ n. drop n (x ∷ r)) (sym (less_room q u x lt))

-- what is placed is kept one by one
pub kept_more : (due : Option ℕ) (q : ℕ) (u r : List Item) (x : Item) (kept : Kept) → length u < q →
    keep_all due (take (q - length (u ++ x ∷ [])) r) (keep_item due x kept) ≡ keep_all due (take (q - length u) (x ∷ r)) kept
kept_more due q u r x kept lt = ap (λ n. keep_all due (take n (x ∷ r)) kept) (sym (less_room q u x lt))
