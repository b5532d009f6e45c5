-- A call with parts ends with what became of each: what its plan makes of what it is told.
use Rattle.std.proofs.Common.{◌≡◌, ◌⊎◌, inl, inr, ◌∙◌, sym, ap, subst, ℕ, zero, suc, ◌+◌, ◌-◌, ◌<◌, ◌≤◌, ◌==◌, arith, length, List, [], ◌∷◌, ◌++◌, refl, Bool, true, false, cond, nat_lt, Option, Some, None}
use Rattle.std.proofs.lemmas.Bool.{cases_Bool, eqb-true}
use Rattle.std.proofs.lemmas.Bool.Decides.{nat_tests}
use Rattle.std.specs.BTreeMap.{insert_entry, is_at}
use Rattle.std.specs.Map.{lookup}
use Rattle.std.specs.Ordering.{match_ordering, nat_cmp, is_eq}
use Rattle.std.specs.declared.cmp.Ordering.TheVariants.{Less, Equal, Greater}
use Rattle.pulsar_laws.proofs.ActWords.{Nothing, Outcome, Said}
use Rattle.pulsar_laws.proofs.PlanWords.{fails, verdict}
use Rattle.pulsar_laws.proofs.RunWords.{Answered, Each, In}
use Rattle.pulsar_laws.proofs.LinkWords.{Failure, OfConnection}
use Rattle.pulsar_wire.specs.Failures.{Shutdown}
use Rattle.pulsar_calls.specs.declared.act.Outcome.TheVariants as outcome
use Rattle.pulsar_calls.specs.Content.{Failed}
use Rattle.pulsar_laws.proofs.Lists.{in_each, in_left}
use Rattle.pulsar_laws.specs.Laws.{course}
use Rattle.pulsar_calls.specs.Parts.{failed_with, sent_from}
use Rattle.pulsar_plans.specs.Plan.{gathers}
use Rattle.pulsar_laws.proofs.plans.Fitting.{is_said}
use Rattle.pulsar_laws.proofs.producers.Turns.{sum}

abbrev pub IsSaid : Outcome → Type 0
IsSaid u = is_said u ≡ true

-- what is told of the part of a ticket
abbrev pub is_of : (u : ℕ) → Outcome → ℕ
is_of u (outcome.Parted v f) = cond (u == v) 1 0
is_of u _ = 0

-- a part of these tickets, or another outcome
abbrev pub IsAmong : (first count : ℕ) → Outcome → Type 0
IsAmong first count (outcome.Parted u f) = (first ≤ u) × (u < first + count)
IsAmong first count _ = Unit {0}

abbrev pub IsParted : Outcome → Type 0
IsParted (outcome.Parted u f) = Unit {0}
IsParted _ = ⊥

-- what they leave of failures
abbrev pub folded : List (ℕ × Failure) → List Outcome → List (ℕ × Failure)
folded fs [] = fs
folded fs (outcome.Parted u f ∷ os) = folded (failed_with u f fs) os
folded fs (_ ∷ os) = folded fs os

-- THE END

-- it ends behind so many parts
pub record Ends (first count left : ℕ) (fs : List (ℕ × Failure)) (os : List Outcome) (said : Said) : Type 0 where
  pub taken : List Outcome
  pub more : List Outcome
  pub is_all : os ≡ taken ++ more
  pub parts : Each IsParted taken
  pub enough : length taken ≡ left
  pub says : said ≡ sent_from first count (folded fs taken)

none_left : (first count left : ℕ) (fs : List (ℕ × Failure)) (os : List Outcome) (said : Said) → (left == 0) ≡ true →
    In (Answered (verdict Nothing said)) (Answered (verdict Nothing (sent_from first count fs)) ∷ []) → Ends first count left fs os said
none_left first count left fs os said z (inl e) = record {
  taken = [];
  more = os;
  is_all = refl;
  parts = tt;
  enough = sym (eqb-true left 0 z);
  says = (let f : verdict Nothing said ≡ verdict Nothing (sent_from first count fs) = cc in ap (λ v. v.said) f);
}
none_left first count left fs os said z (inr i) = absurd i

one_more : (first count left u : ℕ) (f : Option Failure) (fs : List (ℕ × Failure)) (os : List Outcome) (said : Said) → (left == 0) ≡ false →
    Ends first count (left - 1) (failed_with u f fs) os said → Ends first count left fs (outcome.Parted u f ∷ os) said
one_more first count left u f fs os said z k = record {
  taken = outcome.Parted u f ∷ k.taken;
  more = k.more;
  is_all = ap (λ xs. outcome.Parted u f ∷ xs) k.is_all;
  parts = (tt, k.parts);
  enough = (let e : length k.taken ≡ left - 1 = k.enough in grind (arith, nat_tests));
  says = k.says;
}

-- or it was stopped before
abbrev pub IsStopped : List Outcome → Said → Type 0
IsStopped os said = In outcome.Stopped os × (said ≡ Failed (OfConnection Shutdown))

stops_so : (said : Said) → In (Answered (verdict Nothing said)) (Answered (fails Shutdown) ∷ []) → said ≡ Failed (OfConnection Shutdown)
stops_so said (inl e) = let f : verdict Nothing said ≡ fails Shutdown = cc in ap (λ v. v.said) f
stops_so said (inr i) = absurd i

pub course_ends : (first count left : ℕ) (fs : List (ℕ × Failure)) (os : List Outcome) (said : Said) → Each IsSaid os →
    In (Answered (verdict Nothing said)) (course (gathers first count left fs) os) → IsStopped os said ⊎ Ends first count left fs os said
course_ends first count left fs [] said k i = elim (cases_Bool (left == 0)) [
  | inl z ↦ inr (none_left first count left fs [] said z (rw z at i))
  | inr z ↦ (let j : In (Answered (verdict Nothing said)) [] = rw z at i in absurd j)
]
course_ends first count left fs (outcome.Parted u f ∷ os) said k i = elim (cases_Bool (left == 0)) [
  | inl z ↦ inr (none_left first count left fs (outcome.Parted u f ∷ os) said z (rw z at i))
  | inr z ↦ elim (course_ends first count (left - 1) (failed_with u f fs) os said k.1 (rw z at i)) [
    | inl s ↦ inl (inr s.0, s.1)
    | inr e ↦ inr (one_more first count left u f fs os said z e)
  ]
]
course_ends first count left fs (outcome.Stopped ∷ os) said k i = elim (cases_Bool (left == 0)) [
  | inl z ↦ inr (none_left first count left fs (outcome.Stopped ∷ os) said z (rw z at i))
  | inr z ↦ inl (inl refl, stops_so said (rw z at i))
]
course_ends first count left fs (o ∷ os) said k i = absurd (not_said k.0)
  where
    not_said : is_said o ≡ true → ⊥
    not_said h = absurd cc

-- EACH OF THEM

-- how many tell of parts of these tickets
abbrev held : (first n : ℕ) → List Outcome → ℕ
held first zero os = 0
held first (suc n) os = held first n os + sum (is_of (first + n)) os

held_cons : (first n : ℕ) (x : Outcome) (os : List Outcome) → held first n (x ∷ os) ≡ held first n (x ∷ []) + held first n os
held_cons first zero x os = refl
held_cons first (suc n) x os = let e : held first n (x ∷ os) ≡ held first n (x ∷ []) + held first n os = held_cons first n x os in omega (arith, e)

held_nil : (first n : ℕ) → held first n [] ≡ 0
held_nil first zero = refl
held_nil first (suc n) = let e : held first n [] ≡ 0 = held_nil first n in omega (arith, e)

is_none : (a u : ℕ) → (a ≡ u → ⊥) → ◌≡◌ {A = ℕ} (cond (a == u) 1 0) 0
is_none a u e = elim (cases_Bool (a == u)) [ inl f ↦ absurd (e (eqb-true a u f)) | inr f ↦ ap (λ b. cond b 1 0) f ]

held_above : (first n u : ℕ) (f : Option Failure) → first + n ≤ u → held first n (outcome.Parted u f ∷ []) ≡ 0
held_above first zero u f h = refl
held_above first (suc n) u f h =
    let a : held first n (outcome.Parted u f ∷ []) ≡ 0 = held_above first n u f (omega (arith, h)) in
    let b : ◌≡◌ {A = ℕ} (cond ((first + n) == u) 1 0) 0 = is_none (first + n) u (λ e. (let g : ⊥ = omega (arith, h, e) in g)) in
    omega (arith, a, b)

held_one : (first n u : ℕ) (f : Option Failure) → first ≤ u → u < first + n → held first n (outcome.Parted u f ∷ []) ≡ 1
held_one first zero u f h k = absurd (let g : ⊥ = omega (arith, h, k) in g)
held_one first (suc n) u f h k = elim (cases_Bool ((first + n) == u)) [
  | inl e ↦
      (let same : first + n ≡ u = eqb-true (first + n) u e in
      let a : held first n (outcome.Parted u f ∷ []) ≡ 0 = held_above first n u f (omega (arith, same)) in
      let b : ◌≡◌ {A = ℕ} (cond ((first + n) == u) 1 0) 1 = ap (λ x. cond x 1 0) e in
      omega (arith, a, b))
  | inr e ↦
      (let lt : u < first + n = grind (arith, nat_tests) in
      let a : held first n (outcome.Parted u f ∷ []) ≡ 1 = held_one first n u f h lt in
      let b : ◌≡◌ {A = ℕ} (cond ((first + n) == u) 1 0) 0 = ap (λ x. cond x 1 0) e in
      omega (arith, a, b))
]

held_all : (first n : ℕ) (os : List Outcome) → Each IsParted os → Each (IsAmong first n) os → held first n os ≡ length os
held_all first n [] p k = held_nil first n
held_all first n (outcome.Parted u f ∷ os) p k =
    let a : held first n (outcome.Parted u f ∷ os) ≡ held first n (outcome.Parted u f ∷ []) + held first n os = held_cons first n (outcome.Parted u f) os in
    let b : held first n (outcome.Parted u f ∷ []) ≡ 1 = held_one first n u f k.0.0 k.0.1 in
    let c : held first n os ≡ length os = held_all first n os p.1 k.1 in
    omega (arith, a, b, c)
held_all first n (o ∷ os) p k = absurd p.0

abbrev pub AtMostOnce : List Outcome → Type 0
AtMostOnce os = (u : ℕ) → sum (is_of u) os ≤ 1

held_most : (first n : ℕ) (os : List Outcome) → AtMostOnce os → held first n os ≤ n
held_most first zero os k = omega arith
held_most first (suc n) os k =
    let a : held first n os ≤ n = held_most first n os k in let b : sum (is_of (first + n)) os ≤ 1 = k (first + n) in omega (arith, a, b)

held_each : (first n : ℕ) (os : List Outcome) → AtMostOnce os → held first n os ≡ n → (u : ℕ) → first ≤ u → u < first + n → sum (is_of u) os ≡ 1
held_each first zero os k full u low high = absurd (let g : ⊥ = omega (arith, low, high) in g)
held_each first (suc n) os k full u low high =
    let a : held first n os ≤ n = held_most first n os k in
    let b : sum (is_of (first + n)) os ≤ 1 = k (first + n) in
    elim (cases_Bool ((first + n) == u)) [
      | inl e ↦
          (let same : first + n ≡ u = eqb-true (first + n) u e in
          let c : sum (is_of (first + n)) os ≡ 1 = omega (arith, a, b, full) in
          subst (λ x. sum (is_of x) os ≡ 1) same c)
      | inr e ↦
          (let lt : u < first + n = grind (arith, nat_tests) in
          held_each first n os k (omega (arith, a, b, full)) u low lt)
    ]

-- WHAT BECAME OF IT

abbrev at : ℕ → List (ℕ × Failure) → Option Failure
at u fs = lookup (is_at (nat_cmp u)) fs

at_is : (u k : ℕ) → is_at (nat_cmp u) k ≡ (u == k)
at_is u k = elim (cases_Bool (nat_lt u k)) [
  | inl lt ↦ (let e : (u == k) ≡ false = grind (arith, nat_tests) in rw (lt, e) refl)
  | inr ge ↦ rw ge (elim (u == k) as (λ b. is_eq (cond b Equal Greater) ≡ b) [ true ↦ refl | false ↦ refl ])
]

insert_other : (u v : ℕ) (x : Failure) (fs : List (ℕ × Failure)) → (u == v) ≡ false → at u (insert_entry nat_cmp fs v x) ≡ at u fs
insert_other u v x [] h = ap (λ b. cond b (Some x) None) (at_is u v ∙ h)
insert_other u v x (e ∷ fs) h = by (insert_other u v x fs h) (nat_lt v e.0) refl (v == e.0) refl
  where
    by : at u (insert_entry nat_cmp fs v x) ≡ at u fs → (a : Bool) → nat_lt v e.0 ≡ a → (b : Bool) → (v == e.0) ≡ b →
        at u (match_ordering (cond (nat_lt v e.0) Less (cond (v == e.0) Equal Greater)) ((v, x) ∷ e ∷ fs) ((e.0, x) ∷ fs) (e ∷ insert_entry nat_cmp fs v x))
        ≡ at u (e ∷ fs)
    by more true d b f = rw d (ap (λ c. cond c (Some x) (at u (e ∷ fs))) (at_is u v ∙ h))
    by more false d true f =
        let same : v ≡ e.0 = eqb-true v e.0 f in
        let other : is_at (nat_cmp u) e.0 ≡ false = at_is u e.0 ∙ ap (λ z. u == z) (sym same) ∙ h in
        rw (d, f) (ap (λ c. cond c (Some x) (at u fs)) other ∙ sym (ap (λ c. cond c (Some e.1) (at u fs)) other))
    by more false d false f = rw (d, f) (ap (λ r. cond (is_at (nat_cmp u) e.0) (Some e.1) r) more)

insert_here : (u : ℕ) (x : Failure) (fs : List (ℕ × Failure)) → at u (insert_entry nat_cmp fs u x) ≡ Some x
insert_here u x [] = ap (λ b. cond b (Some x) None) (at_is u u ∙ (let e : (u == u) ≡ true = grind (arith, nat_tests) in e))
insert_here u x (e ∷ fs) = by (insert_here u x fs) (nat_lt u e.0) refl (u == e.0) refl
  where
    by : at u (insert_entry nat_cmp fs u x) ≡ Some x → (a : Bool) → nat_lt u e.0 ≡ a → (b : Bool) → (u == e.0) ≡ b →
        at u (match_ordering (cond (nat_lt u e.0) Less (cond (u == e.0) Equal Greater)) ((u, x) ∷ e ∷ fs) ((e.0, x) ∷ fs) (e ∷ insert_entry nat_cmp fs u x))
        ≡ Some x
    by more true d b f = rw d (ap (λ c. cond c (Some x) (at u (e ∷ fs))) (at_is u u ∙ (let g : (u == u) ≡ true = grind (arith, nat_tests) in g)))
    by more false d true f = rw (d, f) (ap (λ c. cond c (Some x) (at u fs)) (at_is u e.0 ∙ f))
    by more false d false f = rw (d, f) (ap (λ c. cond c (Some e.1) (at u (insert_entry nat_cmp fs u x))) (at_is u e.0 ∙ f) ∙ more)

failed_other : (u v : ℕ) (f : Option Failure) (fs : List (ℕ × Failure)) → (u == v) ≡ false → at u (failed_with v f fs) ≡ at u fs
failed_other u v None fs h = refl
failed_other u v (Some x) fs h = insert_other u v x fs h

failed_here : (u : ℕ) (f : Option Failure) (fs : List (ℕ × Failure)) → at u fs ≡ None → at u (failed_with u f fs) ≡ f
failed_here u None fs h = h
failed_here u (Some x) fs h = insert_here u x fs

-- none of them tells of this one
folded_other : (u : ℕ) (fs : List (ℕ × Failure)) (os : List Outcome) → sum (is_of u) os ≡ 0 → at u (folded fs os) ≡ at u fs
folded_other u fs [] h = refl
folded_other u fs (outcome.Parted v f ∷ os) h = elim (cases_Bool (u == v)) [
  | inl e ↦ (let a : 1 + sum (is_of u) os ≡ 0 = rw e at h in absurd (let g : ⊥ = omega (arith, a) in g))
  | inr e ↦ (let a : 0 + sum (is_of u) os ≡ 0 = rw e at h in folded_other u (failed_with v f fs) os (omega (arith, a)) ∙ failed_other u v f fs e)
]
folded_other u fs (_ ∷ os) h = let a : 0 + sum (is_of u) os ≡ 0 = h in folded_other u fs os (omega (arith, a))

found : (u : ℕ) (fs : List (ℕ × Failure)) (os : List Outcome) → sum (is_of u) os ≡ 1 → at u fs ≡ None →
    (f : Option Failure) × In (outcome.Parted u f) os × (at u (folded fs os) ≡ f)
found u fs [] h none = absurd (let g : ⊥ = omega (arith, h) in g)
found u fs (outcome.Parted v f ∷ os) h none = elim (cases_Bool (u == v)) [
  | inl e ↦
      (let a : 1 + sum (is_of u) os ≡ 1 = rw e at h in
      let z : sum (is_of u) os ≡ 0 = omega (arith, a) in
      let same : u ≡ v = eqb-true u v e in (
        f,
        inl (ap (λ x. outcome.Parted x f) same),
        folded_other u (failed_with v f fs) os z ∙ ap (λ x. at u (failed_with x f fs)) (sym same) ∙ failed_here u f fs none,
      ))
  | inr e ↦
      (let a : 0 + sum (is_of u) os ≡ 1 = rw e at h in
      let k = found u (failed_with v f fs) os (omega (arith, a)) (failed_other u v f fs e ∙ none) in
      (k.0, inr k.1, k.2))
]
found u fs (_ ∷ os) h none =
    let a : 0 + sum (is_of u) os ≡ 1 = h in let k = found u fs os (omega (arith, a)) none in (k.0, inr k.1, k.2)

-- a failure was told, or was there
insert_in : (x : ℕ × Failure) (v : ℕ) (y : Failure) (fs : List (ℕ × Failure)) → In x (insert_entry nat_cmp fs v y) → In x fs ⊎ ((x.0 ≡ v) × (x.1 ≡ y))
insert_in x v y [] (inl e) = inr (ap (λ z. z.0) e, ap (λ z. z.1) e)
insert_in x v y [] (inr i) = absurd i
insert_in x v y (e ∷ fs) i = by (nat_lt v e.0) (v == e.0) refl (insert_in x v y fs) i
  where
    by : (a b : Bool) → (v == e.0) ≡ b → (In x (insert_entry nat_cmp fs v y) → In x fs ⊎ ((x.0 ≡ v) × (x.1 ≡ y))) →
        In x (match_ordering (cond a Less (cond b Equal Greater)) ((v, y) ∷ e ∷ fs) ((e.0, y) ∷ fs) (e ∷ insert_entry nat_cmp fs v y)) →
        In x (e ∷ fs) ⊎ ((x.0 ≡ v) × (x.1 ≡ y))
    by true b q more (inl d) = inr (ap (λ z. z.0) d, ap (λ z. z.1) d)
    by true b q more (inr j) = inl j
    by false true q more (inl d) = inr (ap (λ z. z.0) d ∙ sym (eqb-true v e.0 q), ap (λ z. z.1) d)
    by false true q more (inr j) = inl (inr j)
    by false false q more (inl d) = inl (inl d)
    by false false q more (inr j) = elim (more j) [ inl k ↦ inl (inr k) | inr k ↦ inr k ]

failed_in : (x : ℕ × Failure) (v : ℕ) (f : Option Failure) (fs : List (ℕ × Failure)) → In x (failed_with v f fs) →
    In x fs ⊎ (outcome.Parted x.0 (Some x.1) ≡ outcome.Parted v f)
failed_in x v None fs i = inl i
failed_in x v (Some y) fs i = elim (insert_in x v y fs i) [ inl j ↦ inl j | inr e ↦ inr (λ i. outcome.Parted (e.0 i) (Some (e.1 i))) ]

folded_in : (x : ℕ × Failure) (fs : List (ℕ × Failure)) (os : List Outcome) → In x (folded fs os) → In x fs ⊎ In (outcome.Parted x.0 (Some x.1)) os
folded_in x fs [] i = inl i
folded_in x fs (outcome.Parted v f ∷ os) i = elim (folded_in x (failed_with v f fs) os i) [
  | inl j ↦ elim (failed_in x v f fs j) [ inl k ↦ inl k | inr e ↦ inr (inl e) ]
  | inr j ↦ inr (inr j)
]
folded_in x fs (_ ∷ os) i = elim (folded_in x fs os i) [ inl j ↦ inl j | inr j ↦ inr (inr j) ]

-- THE WHOLE

each_front : {A : Type 0} (P : A → Type 0) (xs ys : List A) → Each P (xs ++ ys) → Each P xs
each_front P [] ys k = tt
each_front P (x ∷ xs) ys k = (k.0, each_front P xs ys k.1)

sum_front : (u : ℕ) (xs ys : List Outcome) → sum (is_of u) xs ≤ sum (is_of u) (xs ++ ys)
sum_front u [] ys = omega arith
sum_front u (x ∷ xs) ys = let a : sum (is_of u) xs ≤ sum (is_of u) (xs ++ ys) = sum_front u xs ys in omega (arith, a)

abbrev pub IsGathered : (first count : ℕ) → List Outcome → Said → Type 0
IsGathered first count os said =
    (failures : List (ℕ × Failure)) × (said ≡ sent_from first count failures)
    × ((u : ℕ) → first ≤ u → u < first + count → (f : Option Failure) × In (outcome.Parted u f) os × (lookup (is_at (nat_cmp u)) failures ≡ f))
    × ((x : ℕ × Failure) → In x failures → (first ≤ x.0) × (x.0 < first + count) × In (outcome.Parted x.0 (Some x.1)) os)

ended : (first count : ℕ) (os : List Outcome) (said : Said) → AtMostOnce os → Each (IsAmong first count) os → Ends first count count [] os said →
    IsGathered first count os said
ended first count os said once among k =
    let few : AtMostOnce k.taken = λ u. (
    let a : sum (is_of u) k.taken ≤ sum (is_of u) (k.taken ++ k.more) = sum_front u k.taken k.more in
    let b : sum (is_of u) (k.taken ++ k.more) ≤ 1 = subst (λ xs. sum (is_of u) xs ≤ 1) k.is_all (once u) in
    omega (arith, a, b)) in
    let within : Each (IsAmong first count) k.taken = each_front (IsAmong first count) k.taken k.more (subst (Each (IsAmong first count)) k.is_all among) in
    let full : held first count k.taken ≡ count = held_all first count k.taken k.parts within ∙ k.enough in (
      folded [] k.taken,
      k.says,
      λ u low high.
          let f = found u [] k.taken (held_each first count k.taken few full u low high) refl in
          (f.0, subst (In (outcome.Parted u f.0)) (sym k.is_all) (in_left (outcome.Parted u f.0) k.taken k.more f.1), f.2),
      λ x i. elim (folded_in x [] k.taken i) [
        | inl none ↦ absurd none
        | inr j ↦
            (let w = in_each (IsAmong first count) (outcome.Parted x.0 (Some x.1)) k.taken j within in
            (w.0, w.1, subst (In (outcome.Parted x.0 (Some x.1))) (sym k.is_all) (in_left (outcome.Parted x.0 (Some x.1)) k.taken k.more j)))
      ],
    )

pub gathered : (first count : ℕ) (os : List Outcome) (said : Said) → Each IsSaid os → AtMostOnce os → Each (IsAmong first count) os →
    In (Answered (verdict Nothing said)) (course (gathers first count count []) os) → IsStopped os said ⊎ IsGathered first count os said
gathered first count os said is once among i = elim (course_ends first count count [] os said is i) [
  | inl s ↦ inl s
  | inr e ↦ inr (ended first count os said once among e)
]
