-- Places, one after the other.
use Rattle.std.proofs.Common.{◌≡◌, ℕ, zero, suc, ◌+◌, ◌-◌, ◌≤◌, ◌<◌, ◌==◌, ◌∙◌, sym, ap, subst, List, [], ◌∷◌, ◌++◌, refl, arith, ◌||◌, Option, true, false, inl, inr}
use Rattle.std.proofs.lemmas.Bool.{cases_Bool, eq-eqb, or_right}
use Rattle.std.proofs.lemmas.Bool.Decides.{nat_tests}
use Rattle.std.proofs.lemmas.Grind.{common_steps}
use Rattle.std.proofs.lemmas.Map.Keys.{sorted_head, sorted_tail}
use Rattle.std.specs.BTreeMap.{is_at}
use Rattle.std.specs.List.{AllByRecursion, filter_map, flat_map, list_any}
use Rattle.std.specs.List.Sorted.{IsStrictlySortedBy}
use Rattle.std.specs.Option.{option_to_list}
use Rattle.std.specs.Ordering.{nat_cmp}
use Rattle.std.specs.declared.cmp.Ordering.TheVariants.{Less}
use Rattle.pulsar_requests.proofs.Awaiting.{is_at-eqb}
use Rattle.pulsar_calls.specs.Content.{numbers_from}
use Rattle.pulsar_calls.specs.Places.{is_listed}
use Rattle.pulsar_calls.proofs.Counted.{next_number}
use Rattle.pulsar_calls.proofs.Lists.{filter_map_end}

pub next_place : {A : Type 0} (f : ℕ → Option A) (first i : ℕ) → first ≤ i →
    filter_map f (numbers_from first (i + 1 - first)) ≡ filter_map f (numbers_from first (i - first)) ++ option_to_list (f i)
next_place f first i le = ap (filter_map f) (next_number first i le) ∙ filter_map_end f (numbers_from first (i - first)) i

-- WHAT IS GIVEN BY SOME OF THE NUMBERS

-- a list ascends, from one on, and each of it is below another
abbrev pub Ascends : ℕ → List ℕ → Type 0
Ascends first [] = Unit {0}
Ascends first (k ∷ ks) = (first ≤ k) × Ascends (suc k) ks

abbrev pub AllBelow : ℕ → List ℕ → Type 0
AllBelow n [] = Unit {0}
AllBelow n (k ∷ ks) = (k < n) × AllBelow n ks

none_before : (first l : ℕ) (ks : List ℕ) → Ascends first ks → l < first → is_listed l ks ≡ false
none_before first l [] a lt = refl
none_before first l (k ∷ ks) a lt =
    let from : first ≤ k = a.0 in
    let apart : (k == l) ≡ false = grind (arith, nat_tests) in
    rw apart (none_before (suc k) l ks a.1 (omega arith))

module _ {A : Type 0} (g : ℕ → List A) where
  -- where all others give nothing, all numbers give what these do
  pub over_keys : (first n : ℕ) (ks : List ℕ) → Ascends first ks → AllBelow (first + n) ks →
      ((l : ℕ) → first ≤ l → is_listed l ks ≡ false → g l ≡ []) → flat_map g (numbers_from first n) ≡ flat_map g ks
  over_keys first zero [] a b none = refl
  over_keys first zero (k ∷ ks) a b none = absurd (omega (arith, a.0, b.0))
  over_keys first (suc n) [] a b none =
      ap (λ xs. xs ++ flat_map g (numbers_from (suc first) n)) (none first (omega arith) refl)
      ∙ over_keys (suc first) n [] tt tt (λ l le h. none l (omega arith) h)
  over_keys first (suc n) (k ∷ ks) a b none =
      let from : first ≤ k = a.0 in
      let below : AllBelow (suc first + n) (k ∷ ks) = subst (λ m. AllBelow m (k ∷ ks)) (omega arith) b in
      elim (cases_Bool (k == first)) [
        | inl here ↦ (
            let same : k ≡ first = grind (arith, nat_tests) in
            ap (λ j. g j ++ flat_map g (numbers_from (suc first) n)) (sym same)
            ∙ ap (λ xs. g k ++ xs) (over_keys (suc first) n ks (subst (λ j. Ascends (suc j) ks) same a.1) below.1
            (λ l le h. none l (omega arith) (let apart : (k == l) ≡ false = grind (arith, nat_tests) in rw apart h))))
        | inr there ↦ (
            let more : suc first ≤ k = grind (arith, nat_tests) in
            ap (λ xs. xs ++ flat_map g (numbers_from (suc first) n))
            (none first (omega arith) (rw there (none_before (suc k) first ks a.1 (omega arith))))
            ∙ over_keys (suc first) n (k ∷ ks) (more, a.1) below (λ l le h. none l (omega arith) h))
      ]

-- THE SAME BY KEYS IN ORDER

pub swapped : (a b : ℕ) → (a == b) ≡ (b == a)
swapped a b = grind (arith, nat_tests)

pub listed_is : (l : ℕ) (ks : List ℕ) → list_any (is_at (nat_cmp l)) ks ≡ is_listed l ks
listed_is l [] = refl
listed_is l (k ∷ ks) = ap (λ b. b || list_any (is_at (nat_cmp l)) ks) (is_at-eqb l k ∙ swapped l k) ∙ ap (λ b. (k == l) || b) (listed_is l ks)

above : (k : ℕ) (ks : List ℕ) → AllByRecursion (λ y. nat_cmp k y ≡ Less) ks → AllByRecursion (λ y. suc k ≤ y) ks
above k [] h = tt
above k (y ∷ ks) h =
    let first : nat_cmp k y ≡ Less = h.0 in
    (grind (arith, nat_tests, common_steps), above k ks h.1)

ascends : (first : ℕ) (ks : List ℕ) → AllByRecursion (λ y. first ≤ y) ks → IsStrictlySortedBy nat_cmp ks → Ascends first ks
ascends first [] h s = tt
ascends first (k ∷ ks) h s = (h.0, ascends (suc k) ks (above k ks (sorted_head nat_cmp k ks s)) (sorted_tail nat_cmp k ks s))

from_zero : (ks : List ℕ) → AllByRecursion (λ y. 0 ≤ y) ks
from_zero [] = tt
from_zero (k ∷ ks) = (omega arith, from_zero ks)

all_below : (n : ℕ) (ks : List ℕ) → ((l : ℕ) → is_listed l ks ≡ true → l < n) → AllBelow n ks
all_below n [] h = tt
all_below n (k ∷ ks) h =
    let same : (k == k) ≡ true = eq-eqb k k refl in
    (h k (rw same refl), all_below n ks (λ l more. h l (or_right (k == l) (is_listed l ks) more)))

-- where all other numbers give nothing, all give what those in order do
pub by_keys : {A : Type 0} (g : ℕ → List A) (n : ℕ) (ks : List ℕ) → IsStrictlySortedBy nat_cmp ks →
    ((l : ℕ) → list_any (is_at (nat_cmp l)) ks ≡ true → l < n) → ((l : ℕ) → list_any (is_at (nat_cmp l)) ks ≡ false → g l ≡ []) →
    flat_map g ks ≡ flat_map g (numbers_from 0 n)
by_keys g n ks sorted under none = sym (over_keys g 0 n ks (ascends 0 ks (from_zero ks) sorted)
    (subst (λ m. AllBelow m ks) (omega arith) (all_below n ks (λ l h. under l (listed_is l ks ∙ h))))
    (λ l le h. none l (listed_is l ks ∙ h)))
