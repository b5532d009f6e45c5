-- Several consumers are changed, one after the other, by their tickets in order: each is changed once.
use Rattle.std.proofs.Common.{◌≡◌, ◌∙◌, ℕ, zero, suc, ◌==◌, ◌||◌, ◌<◌, sym, ap, subst, refl, arith, Bool, true, false, cond, List, [], ◌∷◌, ◌++◌, append-nil, length, take, drop, get_or, Option}
use Rattle.std.proofs.lemmas.Bool.{eqb-true}
use Rattle.std.proofs.lemmas.Bool.Decides.{nat_tests}
use Rattle.std.proofs.lemmas.Grind.{common_steps, flat_map-append}
use Rattle.std.proofs.lemmas.List.Folds.{list_any-append}
use Rattle.std.specs.List.{AllByRecursion, flat_map}
use Rattle.std.specs.List.Sorted.{IsStrictlySortedBy}
use Rattle.std.specs.Option.{option_map, option_to_list}
use Rattle.std.specs.Ordering.{nat_cmp}
use Rattle.std.specs.declared.cmp.Ordering.TheVariants.{Less}
use Rattle.pulsar_consumer_table.specs.Consumers.{Member, at_row}
use Rattle.pulsar_consumer_table.specs.KeptConsumers.{one_changed, some_changed}
use Rattle.pulsar_calls.specs.Places.{is_listed}

all_at : (P : ℕ → Type 0) (ys rest : List ℕ) (x : ℕ) → AllByRecursion P (ys ++ x ∷ rest) → P x
all_at P [] rest x h = h.0
all_at P (y ∷ ys) rest x h = all_at P ys rest x h.1

-- a ticket isn't among those before it
pub unlisted : (ys rest : List ℕ) (x : ℕ) → IsStrictlySortedBy nat_cmp (ys ++ x ∷ rest) → is_listed x ys ≡ false
unfolding IsStrictlySortedBy
unlisted [] rest x h = refl
unlisted (y ∷ ys) rest x h =
    let below : nat_cmp y x ≡ Less = all_at _ ys rest x h.0 in
    let apart : (y == x) ≡ false = grind (arith, nat_tests, common_steps) in
    rw apart (unlisted ys rest x h.1)

or_none : (b : Bool) → (b || false) ≡ b
or_none true = refl
or_none false = refl

or_true : (b : Bool) → (b || true) ≡ true
or_true true = refl
or_true false = refl

listed_more : (ys : List ℕ) (x t : ℕ) (b : Bool) → (x == t) ≡ b → is_listed t (ys ++ x ∷ []) ≡ (is_listed t ys || b)
listed_more ys x t true h = list_any-append (λ k. k == t) ys (x ∷ []) ∙ rw h refl
listed_more ys x t false h = list_any-append (λ k. k == t) ys (x ∷ []) ∙ rw h refl

swapped : (a b : ℕ) (t : Bool) → (a == b) ≡ t → (b == a) ≡ t
swapped a b true h = grind (arith, nat_tests)
swapped a b false h = grind (arith, nat_tests)

module _ (ts : List ℕ) (x : ℕ) (f : Member → Member) (rows kept new : ℕ → Option Member) (apart : is_listed x ts ≡ false)
    (was : (t : ℕ) → kept t ≡ some_changed ts f rows t) (is : (t : ℕ) → new t ≡ one_changed x f kept t) where
  -- one that was not changed is as it was
  pub as_before : kept x ≡ rows x
  as_before = was x ∙ ap (λ b. cond b (option_map f (rows x)) (rows x)) apart

  more_by : (t : ℕ) (b : Bool) → (t == x) ≡ b → new t ≡ some_changed (ts ++ x ∷ []) f rows t
  more_by t true h =
      let same : t ≡ x = eqb-true t x h in
      let listed : is_listed t (ts ++ x ∷ []) ≡ true = listed_more ts x t true (swapped t x true h) ∙ or_true (is_listed t ts) in
      is t
      ∙ ap (λ b. cond b (option_map f (kept t)) (kept t)) h
      ∙ ap (option_map f) (ap kept same ∙ as_before ∙ ap rows (sym same))
      ∙ sym (ap (λ b. cond b (option_map f (rows t)) (rows t)) listed)
  more_by t false h =
      let listed : is_listed t (ts ++ x ∷ []) ≡ is_listed t ts = listed_more ts x t false (swapped t x false h) ∙ or_none (is_listed t ts) in
      is t
      ∙ ap (λ b. cond b (option_map f (kept t)) (kept t)) h
      ∙ was t
      ∙ sym (ap (λ b. cond b (option_map f (rows t)) (rows t)) listed)

  pub more_changed : (t : ℕ) → new t ≡ some_changed (ts ++ x ∷ []) f rows t
  more_changed t = more_by t (t == x) refl

  -- and gives what it gave before
  pub more_given : {A : Type 0} (g : ℕ → Member → List A) → flat_map (at_row g rows) (ts ++ x ∷ []) ≡ flat_map (at_row g rows) ts ++ at_row g kept x
  more_given g =
      flat_map-append (at_row g rows) ts (x ∷ [])
      ∙ ap (λ ys. flat_map (at_row g rows) ts ++ ys) (append-nil (at_row g rows x) ∙ sym (ap (λ row. flat_map (g x) (option_to_list row)) as_before))

-- A LIST OF TICKETS IN ORDER, its front, and at a place

all_front : (P : ℕ → Type 0) (ys zs : List ℕ) → AllByRecursion P (ys ++ zs) → AllByRecursion P ys
all_front P [] zs h = tt
all_front P (y ∷ ys) zs h = (h.0, all_front P ys zs h.1)

pub sorted_front : (ys zs : List ℕ) → IsStrictlySortedBy nat_cmp (ys ++ zs) → IsStrictlySortedBy nat_cmp ys
unfolding IsStrictlySortedBy
sorted_front [] zs h = tt
sorted_front (y ∷ ys) zs h = (all_front _ ys zs h.0, sorted_front ys zs h.1)

pub split_at : (xs : List ℕ) (i : ℕ) → i < length xs → xs ≡ take i xs ++ get_or xs i 0 ∷ drop (suc i) xs
split_at [] i h = absurd (omega (arith, h))
split_at (x ∷ xs) zero h = refl
split_at (x ∷ xs) (suc i) h = ap (λ ys. x ∷ ys) (split_at xs i (omega (arith, h)))

pub apart_at : (xs : List ℕ) (i : ℕ) → i < length xs → IsStrictlySortedBy nat_cmp xs → is_listed (get_or xs i 0) (take i xs) ≡ false
apart_at xs i h sorted = unlisted (take i xs) (drop (suc i) xs) (get_or xs i 0) (subst (IsStrictlySortedBy nat_cmp) (split_at xs i h) sorted)
