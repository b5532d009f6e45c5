-- What is put by rank stands in order, each once, and those of equal rank as they came.
use Rattle.std.proofs.Common.{◌≡◌, ◌⊎◌, ℕ, suc, ◌+◌, ◌<◌, ◌∙◌, sym, ap, subst, List, [], ◌∷◌, ◌++◌, refl, arith, length, map, Bool, true, false, cond, ◌&&◌, not, inl, inr, append-nil, append_assoc, get_or}
use Rattle.std.proofs.lemmas.Bool.{cases_Bool}
use Rattle.std.specs.Cmp.{IsStrictWeakOrder}
use Rattle.std.specs.List.{filter}
use Rattle.std.specs.List.Sorted.{IsPermutation, IsSortedBy, IsStableBy, ties}
use Rattle.std.proofs.lemmas.List.Sorted.{IsPermutation-append_right, IsPermutation-cons, IsPermutation-middle, IsPermutation-refl, IsPermutation-sym, IsPermutation-trans, sorted_far}
use Rattle.pulsar_run.specs.Order.{Arranges, InOrder, NoneBelow, arranged, put, put_all}
use Rattle.pulsar_run.specs.Laws.{KindsInOrder}

-- this one ranks below each of a list, or below none
abbrev BelowAll : {A : Type 0} → (A → A → Bool) → A → List A → Type 0
BelowAll below x [] = Unit {0}
BelowAll below x (y ∷ ys) = (below x y ≡ true) × BelowAll below x ys

abbrev BelowNone : {A : Type 0} → (A → A → Bool) → A → List A → Type 0
BelowNone below x [] = Unit {0}
BelowNone below x (y ∷ ys) = (below x y ≡ false) × BelowNone below x ys

not_both : {X : Type 0} {b : Bool} → b ≡ true → b ≡ false → X
not_both p q = let h : true ≡ false = sym p ∙ q in absurd cc

module _ {A : Type 0} (below : A → A → Bool) (o : IsStrictWeakOrder below) where
  itself : (x : A) → below x x ≡ false
  itself x = elim (cases_Bool (below x x)) [ inl e ↦ o.one_way x x e | inr e ↦ e ]

  -- what is above y is above all that is below y
  further : (x y z : A) → below x y ≡ true → below z y ≡ false → below x z ≡ true
  further x y z p q = elim (cases_Bool (below x z)) [ inl e ↦ e | inr e ↦ not_both p (o.chain x z y e q) ]

  none_further : (x y : A) (zs : List A) → below x y ≡ true → NoneBelow below y zs → BelowAll below x zs
  none_further x y [] p k = tt
  none_further x y (z ∷ zs) p k = (further x y z p k.0, none_further x y zs p k.1)

  none_of_all : (x : A) (zs : List A) → BelowAll below x zs → NoneBelow below x zs
  none_of_all x [] k = tt
  none_of_all x (z ∷ zs) k = (o.one_way x z k.0, none_of_all x zs k.1)

  none_put : (y x : A) (zs : List A) → below x y ≡ false → NoneBelow below y zs → NoneBelow below y (put below x zs)
  none_put y x [] e k = (e, tt)
  none_put y x (z ∷ zs) e k =
      elim (below x z) as (λ b. NoneBelow below y (cond b (x ∷ z ∷ zs) (z ∷ put below x zs)))
      [ true ↦ (e, k) | false ↦ (k.0, none_put y x zs e k.1) ]

  put_order : (x : A) (ys : List A) → InOrder below ys → InOrder below (put below x ys)
  put_order x [] k = (tt, tt)
  put_order x (y ∷ ys) k = elim (cases_Bool (below x y)) [
    | inl e ↦ rw e ((o.one_way x y e, none_of_all x ys (none_further x y ys e k.0)), k)
    | inr e ↦ rw e (none_put y x ys e k.0, put_order x ys k.1)
  ]

  pub put_all_order : (xs ys : List A) → InOrder below ys → InOrder below (put_all below xs ys)
  put_all_order [] ys k = k
  put_all_order (x ∷ xs) ys k = put_all_order xs (put below x ys) (put_order x ys k)

  -- WHAT PASSES A TEST

  none_left : (test : A → Bool) (x : A) (zs : List A) → BelowAll below x zs → BelowNone below x (filter test zs) → filter test zs ≡ []
  none_left test x [] p q = refl
  none_left test x (z ∷ zs) p q = elim (cases_Bool (test z)) [
    | inl e ↦ (let k : BelowNone below x (z ∷ filter test zs) = rw e at q in not_both p.0 k.0)
    | inr e ↦ (let k : BelowNone below x (filter test zs) = rw e at q in rw e (none_left test x zs p.1 k))
  ]

  one_of : (test : A → Bool) (x : A) → List A
  one_of test x = cond (test x) (x ∷ []) []

  filter_put : (test : A → Bool) (x : A) (ys : List A) → InOrder below ys → (test x ≡ true → BelowNone below x (filter test ys)) →
      filter test (put below x ys) ≡ filter test ys ++ filter test (x ∷ [])
  filter_put test x [] k f = refl
  filter_put test x (y ∷ ys) k f = elim (cases_Bool (below x y)) [
    | inl e ↦ rw e (in_front (cases_Bool (test x)) e)
    | inr e ↦ rw e (behind (filter_put test x ys k.1 later))
  ]
    where
      in_front : (test x ≡ true) ⊎ (test x ≡ false) → below x y ≡ true → filter test (x ∷ y ∷ ys) ≡ filter test (y ∷ ys) ++ filter test (x ∷ [])
      in_front (inl t) e =
          let none : filter test (y ∷ ys) ≡ [] = none_left test x (y ∷ ys) (e, none_further x y ys e k.0) (f t) in
          ap (λ zs. cond (test x) (x ∷ zs) zs) none ∙ sym (ap (λ zs. zs ++ filter test (x ∷ [])) none)
      in_front (inr t) e = rw t (sym (append-nil (filter test (y ∷ ys))))

      later : test x ≡ true → BelowNone below x (filter test ys)
      later t = drop_head (test y) (f t)
        where
          drop_head : (b : Bool) → BelowNone below x (cond b (y ∷ filter test ys) (filter test ys)) → BelowNone below x (filter test ys)
          drop_head true h = h.1
          drop_head false h = h

      behind : filter test (put below x ys) ≡ filter test ys ++ filter test (x ∷ []) → filter test (y ∷ put below x ys) ≡ filter test (y ∷ ys) ++ filter test (x ∷ [])
      behind more = elim (test y) as (λ b. cond b (y ∷ filter test (put below x ys)) (filter test (put below x ys)) ≡ cond b (y ∷ filter test ys) (filter test ys) ++ filter test (x ∷ []))
          [ true ↦ ap (λ zs. y ∷ zs) more | false ↦ more ]

  none_last : (x : A) (ys zs : List A) → InOrder below (ys ++ x ∷ zs) → BelowNone below x ys
  none_last x [] zs k = tt
  none_last x (y ∷ ys) zs k = (at_last ys k.0, none_last x ys zs k.1)
    where
      at_last : (ys : List A) → NoneBelow below y (ys ++ x ∷ zs) → below x y ≡ false
      at_last [] k = k.0
      at_last (z ∷ ys) k = at_last ys k.1

  filter_put_all : (test : A → Bool) (xs ys : List A) → InOrder below ys → InOrder below (filter test ys ++ filter test xs) →
      filter test (put_all below xs ys) ≡ filter test ys ++ filter test xs
  filter_put_all test [] ys k p = sym (append-nil (filter test ys))
  filter_put_all test (x ∷ xs) ys k p =
      filter_put_all test xs (put below x ys) (put_order x ys k) (subst (InOrder below) (sym split) p) ∙ split
    where
      passes : test x ≡ true → BelowNone below x (filter test ys)
      passes t = none_last x (filter test ys) (filter test xs) (rw t at p)

      joined : filter test (x ∷ []) ++ filter test xs ≡ filter test (x ∷ xs)
      joined = elim (test x) as (λ b. cond b (x ∷ []) [] ++ filter test xs ≡ cond b (x ∷ filter test xs) (filter test xs)) [ true ↦ refl | false ↦ refl ]

      split : filter test (put below x ys) ++ filter test xs ≡ filter test ys ++ filter test (x ∷ xs)
      split =
          ap (λ zs. zs ++ filter test xs) (filter_put test x ys k passes)
          ∙ append_assoc (filter test ys) (filter test (x ∷ [])) (filter test xs)
          ∙ ap (λ zs. filter test ys ++ zs) joined

  pub arranged_filter : (test : A → Bool) (xs : List A) → InOrder below (filter test xs) → filter test (arranged below xs) ≡ filter test xs
  arranged_filter test xs k = filter_put_all test xs [] tt k

  -- THOSE OF EQUAL RANK

  tied : (x y : A) → ties below x y ≡ true → (below x y ≡ false) × (below y x ≡ false)
  tied x y h = split (below x y) (below y x) h
    where
      split : (a b : Bool) → (not a && not b) ≡ true → (a ≡ false) × (b ≡ false)
      split false false h = (refl, refl)
      split false true h = absurd cc
      split true b h = absurd cc

  ties_none : (x y : A) (zs : List A) → ties below x y ≡ true → NoneBelow below y (filter (ties below x) zs)
  ties_none x y [] h = tt
  ties_none x y (z ∷ zs) h = elim (cases_Bool (ties below x z)) [
    | inl e ↦ rw e (o.chain z x y (tied x z e).1 (tied x y h).0, ties_none x y zs h)
    | inr e ↦ rw e (ties_none x y zs h)
  ]

  ties_order : (x : A) (zs : List A) → InOrder below (filter (ties below x) zs)
  ties_order x [] = tt
  ties_order x (z ∷ zs) = elim (cases_Bool (ties below x z)) [
    | inl e ↦ rw e (ties_none x z zs e, ties_order x zs)
    | inr e ↦ rw e (ties_order x zs)
  ]

  arranged_stable : (xs : List A) → IsStableBy below xs (arranged below xs)
  arranged_stable xs = λ x. arranged_filter (ties below x) xs (ties_order x xs)

  -- EACH ONCE

  put_same : (x : A) (ys : List A) → IsPermutation (x ∷ ys) (put below x ys)
  put_same x [] = IsPermutation-refl (x ∷ [])
  put_same x (y ∷ ys) =
      elim (below x y) as (λ b. IsPermutation (x ∷ y ∷ ys) (cond b (x ∷ y ∷ ys) (y ∷ put below x ys))) [
        | true ↦ IsPermutation-refl (x ∷ y ∷ ys)
        | false ↦
            IsPermutation-trans (x ∷ y ∷ ys) (y ∷ x ∷ ys) (y ∷ put below x ys)
            (IsPermutation-sym (y ∷ x ∷ ys) (x ∷ y ∷ ys) (IsPermutation-middle (y ∷ []) x ys))
            (IsPermutation-cons y (x ∷ ys) (put below x ys) (put_same x ys))
      ]

  put_all_same : (xs ys : List A) → IsPermutation (xs ++ ys) (put_all below xs ys)
  put_all_same [] ys = IsPermutation-refl ys
  put_all_same (x ∷ xs) ys =
      IsPermutation-trans (x ∷ (xs ++ ys)) (xs ++ x ∷ ys) (put_all below xs (put below x ys))
      (IsPermutation-sym (xs ++ x ∷ ys) (x ∷ (xs ++ ys)) (IsPermutation-middle xs x ys))
      (IsPermutation-trans (xs ++ x ∷ ys) (xs ++ put below x ys) (put_all below xs (put below x ys))
      (IsPermutation-append_right xs (x ∷ ys) (put below x ys) (put_same x ys))
      (put_all_same xs (put below x ys)))

  pub arranges : (xs : List A) → Arranges below xs (arranged below xs)
  arranges xs = record {
    in_order = put_all_order xs [] tt;
    same = subst (λ ys. IsPermutation ys (arranged below xs)) (append-nil xs) (put_all_same xs []);
    stable = arranged_stable xs;
  }

  -- ONE ORDER ALONE

  apart : (x y : A) → below y x ≡ true → ties below x y ≡ false
  apart x y h = rw h (falls (not (below x y)))
    where
      falls : (b : Bool) → (b && false) ≡ false
      falls true = refl
      falls false = refl

  none_tie : (y z : A) (zs : List A) → below z y ≡ true → BelowAll below z zs → filter (ties below z) zs ≡ []
  none_tie y z [] p k = refl
  none_tie y z (w ∷ zs) p k =
      let e : ties below z w ≡ false = rw k.0 refl in rw e (none_tie y z zs p k.1)

  ties_itself : (x : A) → ties below x x ≡ true
  ties_itself x = let e = itself x in rw e refl

  abbrev SameTies : List A → List A → Type 0
  SameTies ys zs = (x : A) → filter (ties below x) ys ≡ filter (ties below x) zs

  head_not_below : (y z : A) (ys zs : List A) → InOrder below (y ∷ ys) → SameTies (y ∷ ys) (z ∷ zs) → below z y ≡ false
  head_not_below y z ys zs k same = elim (cases_Bool (below z y)) [
    | inr e ↦ e
    | inl e ↦
        (let none : filter (ties below z) (y ∷ ys) ≡ [] = none_tie y z (y ∷ ys) e (e, none_further z y ys e k.0) in
        let t : ties below z z ≡ true = ties_itself z in
        let some : filter (ties below z) (z ∷ zs) ≡ z ∷ filter (ties below z) zs = rw t refl in
        let h : [] ≡ z ∷ filter (ties below z) zs = sym none ∙ same z ∙ some in
        absurd cc)
  ]

  same_order : (ys zs : List A) → InOrder below ys → InOrder below zs → SameTies ys zs → ys ≡ zs
  same_order [] [] p q same = refl
  same_order [] (z ∷ zs) p q same =
      let t : ties below z z ≡ true = ties_itself z in
      let h : [] ≡ z ∷ filter (ties below z) zs = rw t at (same z) in absurd cc
  same_order (y ∷ ys) [] p q same =
      let t : ties below y y ≡ true = ties_itself y in
      let h : y ∷ filter (ties below y) ys ≡ [] = rw t at (same y) in absurd cc
  same_order (y ∷ ys) (z ∷ zs) p q same =
      let a : below z y ≡ false = head_not_below y z ys zs p same in
      let b : below y z ≡ false = head_not_below z y zs ys q (λ x. sym (same x)) in
      let t : ties below y y ≡ true = ties_itself y in
      let u : ties below y z ≡ true = (let m = a in let n = b in rw (m, n) refl) in
      let h : y ∷ filter (ties below y) ys ≡ z ∷ filter (ties below y) zs = rw (t, u) at (same y) in
      let head : y ≡ z = cc in
      let tails : SameTies ys zs = λ x. tail (ties below x y) (filter (ties below x) ys) (filter (ties below x) zs) (same x ∙ ap (λ w. cond (ties below x w) (w ∷ filter (ties below x) zs) (filter (ties below x) zs)) (sym head)) in
      ap (λ w. w ∷ ys) head ∙ ap (λ ws. z ∷ ws) (same_order ys zs p.1 q.1 tails)
    where
      tail : (b : Bool) (us vs : List A) → cond b (y ∷ us) us ≡ cond b (y ∷ vs) vs → us ≡ vs
      tail true us vs h = let e : y ∷ us ≡ y ∷ vs = h in cc
      tail false us vs h = h

  -- what std's sorts ensure
  order_from_sort : (ys : List A) → IsSortedBy below ys → InOrder below ys
  order_from_sort [] s = tt
  order_from_sort (y ∷ ys) s = (
    none_from ys (λ j d h. sorted_far below o (y ∷ ys) s 0 (suc j) d (omega arith) (omega (arith, h))),
    order_from_sort ys (λ k d low high. next k d (s (suc k) d (omega arith) (omega (arith, high)))),
  )
    where
      next : (k : ℕ) (d : A) → below (get_or (y ∷ ys) (suc k + 1) d) (get_or ys k d) ≡ false → below (get_or ys (k + 1) d) (get_or ys k d) ≡ false
      next k d h = let e : suc k + 1 ≡ suc (k + 1) = omega arith in rw e at h

      none_from : (zs : List A) → ((j : ℕ) (d : A) → j < length zs → below (get_or zs j d) y ≡ false) → NoneBelow below y zs
      none_from [] f = tt
      none_from (z ∷ zs) f = (f 0 z (omega arith), none_from zs (λ j d h. f (suc j) d (omega (arith, h))))

  -- a list that is sorted, with those of equal rank as they were, is what stands in order
  pub arranged_from_sort : (xs ys : List A) → IsSortedBy below ys → IsStableBy below xs ys → ys ≡ arranged below xs
  arranged_from_sort xs ys s f = same_order ys (arranged below xs) (order_from_sort ys s) (put_all_order xs [] tt) (λ x. f x ∙ sym (arranged_stable xs x))

pub kinds_in_order_lem : (E : Type 0) → KindsInOrder E
kinds_in_order_lem E below test xs o k = arranged_filter below o test xs k

-- a list is in the order of what its elements are seen as
module _ {A B : Type 0} (f : A → B) (below : B → B → Bool) where
  put_map : (x : A) (ys : List A) → map f (put (λ a b. below (f a) (f b)) x ys) ≡ put below (f x) (map f ys)
  put_map x [] = refl
  put_map x (y ∷ ys) =
      elim (below (f x) (f y)) as (λ b. map f (cond b (x ∷ y ∷ ys) (y ∷ put (λ a b. below (f a) (f b)) x ys)) ≡ cond b (f x ∷ f y ∷ map f ys) (f y ∷ put below (f x) (map f ys)))
      [ true ↦ refl | false ↦ ap (λ zs. f y ∷ zs) (put_map x ys) ]

  put_all_map : (xs ys : List A) → map f (put_all (λ a b. below (f a) (f b)) xs ys) ≡ put_all below (map f xs) (map f ys)
  put_all_map [] ys = refl
  put_all_map (x ∷ xs) ys = put_all_map xs (put (λ a b. below (f a) (f b)) x ys) ∙ ap (put_all below (map f xs)) (put_map x ys)

  pub arranged_map : (xs : List A) → map f (arranged (λ a b. below (f a) (f b)) xs) ≡ arranged below (map f xs)
  arranged_map xs = put_all_map xs []
