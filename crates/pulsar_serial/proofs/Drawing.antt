-- Each step keeps the rule.
use Rattle.std.proofs.Common.{◌≡◌, ◌∙◌, ◌≤◌, ◌<◌, ◌+◌, ◌==◌, ℕ, zero, suc, ap, sym, subst, refl, arith, List, [], ◌∷◌, ◌++◌, Bool, true, false}
use Rattle.std.specs.Prelude.{slice_set, slice_index, MatchBool}
use Rattle.std.proofs.lemmas.Bool.{eqb-true}
use Rattle.std.proofs.lemmas.Bool.Decides.{nat_tests}
use mathlib.Core.Option.{some, some-injective, some-ne-none}
use lib.ListN.{get_elem?}
use prog.Atomic.{either}
use Rattle.atomic_table.specs.Table.{Act, keeps, Allows, Joins, Me, Splits, State, Valid, carried_after, stepped}
use Rattle.pulsar_serial.specs.Numbers.{Above, Apart, Numbered, Once, SeenTo, below, hits, times, total}

abbrev View : Type 0
View = List ℕ × ℕ

-- NUMBERS

pub below_next : (x n : ℕ) → below x (n + 1) ≡ below x n + hits x n
below_next x n = grind (arith, nat_tests)

pub below_pos : (x n : ℕ) → 0 < below x n → x < n
below_pos x n h = grind (arith, nat_tests)

pub below_one : (x n : ℕ) → below x n ≤ 1
below_one x n = grind (arith, nat_tests)

pub times_append : (x : ℕ) (v w : List ℕ) → times x (v ++ w) ≡ times x v + times x w
times_append x [] w = omega arith
times_append x (y ∷ ys) w = let h = times_append x ys w in omega (arith, h)

pub total_set : (x : ℕ) (vs : List View) (id : ℕ) (v w : View) → get_elem? vs id ≡ some v → total x (slice_set vs id w) + times x v.0 ≡ total x vs + times x w.0
total_set x [] id v w e = absurd (some-ne-none v (sym e))
total_set x (u ∷ us) zero v w e = let same : u ≡ v = some-injective _ _ e in omega (arith, ap (λ (y : View). times x y.0) same)
total_set x (u ∷ us) (suc id) v w e = let h = total_set x us id v w e in omega (arith, h)

pub total_of : (x : ℕ) (vs : List View) (id : ℕ) (v : View) → get_elem? vs id ≡ some v → times x v.0 ≤ total x vs
total_of x [] id v e = absurd (some-ne-none v (sym e))
total_of x (u ∷ us) zero v e = let same : u ≡ v = some-injective _ _ e in omega (arith, ap (λ (y : View). times x y.0) same)
total_of x (u ∷ us) (suc id) v e = let h = total_of x us id v e in omega (arith, h)

pub total_snoc : (x : ℕ) (vs : List View) (v : View) → total x (vs ++ v ∷ []) ≡ total x vs + times x v.0
total_snoc x [] v = omega arith
total_snoc x (u ∷ us) v = let h = total_snoc x us v in omega (arith, h)

-- WHAT SEATS HAVE SEEN

seen_set : (n : ℕ) (vs : List View) (id : ℕ) (w : View) → SeenTo n vs → w.1 ≤ n → SeenTo n (slice_set vs id w)
seen_set n [] id w h le = h
seen_set n (u ∷ us) zero w h le = (le, h.1)
seen_set n (u ∷ us) (suc id) w h le = (h.0, seen_set n us id w h.1 le)

seen_more : (n m : ℕ) (vs : List View) → n ≤ m → SeenTo n vs → SeenTo m vs
seen_more n m [] le h = tt
seen_more n m (u ∷ us) le h = (let so = h.0 in omega (arith, so, le), seen_more n m us le h.1)

seen_of : (n : ℕ) (vs : List View) (id : ℕ) (v : View) → SeenTo n vs → get_elem? vs id ≡ some v → v.1 ≤ n
seen_of n [] id v h e = absurd (some-ne-none v (sym e))
seen_of n (u ∷ us) zero v h e = let same : u ≡ v = some-injective _ _ e in subst (λ (y : View). y.1 ≤ n) same h.0
seen_of n (u ∷ us) (suc id) v h e = seen_of n us id v h.1 e

seen_snoc : (n : ℕ) (vs : List View) (v : View) → SeenTo n vs → v.1 ≤ n → SeenTo n (vs ++ v ∷ [])
seen_snoc n [] v h le = (le, tt)
seen_snoc n (u ∷ us) v h le = (h.0, seen_snoc n us v h.1 le)

-- THE STEPS

module _ {S : Type 0} (first : ℕ) where
  abbrev at : ℕ → List (mathlib.Core.Option.Option S) → List View → State S View
  at n hs vs = record { words = n ∷ []; homes = hs; views = vs }

  abbrev Same : Me S View → Me S View → Type 0
  Same x y = x ≡ y

  -- the seat's list stays
  stays : (n id : ℕ) (hs : List (mathlib.Core.Option.Option S)) (vs : List View) (v w : View) → w.0 ≡ v.0 → w.1 ≤ n → Numbered first (at n hs vs) → get_elem? vs id ≡ some v → Numbered first (at n hs (slice_set vs id w))
  stays n id hs vs v w same le h is =
      let here : h.0 ≡ n = sym (ap (λ ws. slice_index ws 0) h.1) in (
        h.0,
        h.1,
        h.2,
        (λ x. (let p = total_set x vs id v w is in let q = h.3 x in let r = ap (times x) same in omega (arith, p, q, r))),
        seen_set h.0 vs id w h.4 (omega (arith, le, here)),
      )

  pub looks : (slots id : ℕ) (me : Me S View) → Allows (Numbered first) slots id me 0 (λ n. n) (λ n after. Same after ((me.0.0, n), me.1) × (me.0.1 ≤ n))
  looks slots id me s h len is lt =
      let P : List ℕ → Type 0 = λ ws. (w : View) × (a : Act S) × Valid s.homes me.1 a × Numbered first (stepped (record { words = ws; homes = s.homes; views = s.views }) 0 (slice_index ws 0) id me.1 w a) × (Same (w, carried_after me.1 a) ((me.0.0, slice_index ws 0), me.1) × (me.0.1 ≤ slice_index ws 0)) in
      let so : me.0.1 ≤ h.0 = seen_of h.0 s.views id me.0 h.4 is in
      subst P (sym h.1) ((me.0.0, h.0), keeps, tt, stays h.0 id s.homes s.views me.0 (me.0.0, h.0) refl (omega arith) (h.0, refl, h.2, h.3, h.4) is, (refl, so))

  pub counts : (slots id : ℕ) (me : Me S View) → Allows (Numbered first) slots id me 0 (λ n. n) (λ n after. Same after me × Once me.0.0)
  counts slots id me s h len is lt =
      let P : List ℕ → Type 0 = λ ws. (w : View) × (a : Act S) × Valid s.homes me.1 a × Numbered first (stepped (record { words = ws; homes = s.homes; views = s.views }) 0 (slice_index ws 0) id me.1 w a) × (Same (w, carried_after me.1 a) me × Once me.0.0) in
      let so : me.0.1 ≤ h.0 = seen_of h.0 s.views id me.0 h.4 is in
      subst P (sym h.1) (me.0, keeps, tt, stays h.0 id s.homes s.views me.0 me.0 refl so (h.0, refl, h.2, h.3, h.4) is, (refl, λ x. (let p = total_of x s.views id me.0 is in let q = h.3 x in let r = below_one x h.0 in omega (arith, p, q, r))))

  draws_at : (id old n : ℕ) (me : Me S View) (hs : List (mathlib.Core.Option.Option S)) (vs : List View) → Numbered first (at n hs vs) → get_elem? vs id ≡ some me.0 →
      (b : Bool) → (n == old) ≡ b →
      (w : View) × (a : Act S) × Valid hs me.1 a × Numbered first (stepped (at n hs vs) 0 (either b (old + 1) n) id me.1 w a)
      × MatchBool b (Same (w, carried_after me.1 a) ((me.0.0 ++ n ∷ [], n + 1), me.1) × Above n me.0.0) (Same (w, carried_after me.1 a) me)
  draws_at id old n me hs vs h is true e =
      let same : n ≡ old = eqb-true n old e in
      let here : h.0 ≡ n = sym (ap (λ ws. slice_index ws 0) h.1) in (
        (me.0.0 ++ n ∷ [], n + 1),
        keeps,
        tt,
        (
          old + 1,
          refl,
          (let le = h.2 in omega (arith, le, here, same)),
          (
              λ x.
              let p = total_set x vs id me.0 (me.0.0 ++ n ∷ [], n + 1) is in
              let q : total x vs + below x first ≡ below x n = h.3 x ∙ ap (below x) here in
              let r = times_append x me.0.0 (n ∷ []) in
              let next = below_next x n in
              let to : below x (n + 1) ≡ below x (old + 1) = ap (λ k. below x (k + 1)) same in
              omega (arith, p, q, r, next, to)
              ),
          seen_set (old + 1) vs id (me.0.0 ++ n ∷ [], n + 1) (seen_more h.0 (old + 1) vs (omega (arith, here, same)) h.4) (omega (arith, same)),
        ),
        (
          refl,
          λ x some_there.
              let p = total_of x vs id me.0 is in
              let q : total x vs + below x first ≡ below x n = h.3 x ∙ ap (below x) here in
              below_pos x n (omega (arith, p, q, some_there)),
        ),
      )
  draws_at id old n me hs vs h is false e =
      let here : h.0 ≡ n = sym (ap (λ ws. slice_index ws 0) h.1) in
      let so : me.0.1 ≤ h.0 = seen_of h.0 vs id me.0 h.4 is in
      (me.0, keeps, tt, stays n id hs vs me.0 me.0 refl (omega (arith, so, here)) h is, refl)

  pub draws : (slots id old : ℕ) (me : Me S View) →
      Allows (Numbered first) slots id me 0 (λ n. either (n == old) (old + 1) n) (λ n after. MatchBool (n == old) (Same after ((me.0.0 ++ n ∷ [], n + 1), me.1) × Above n me.0.0) (Same after me))
  draws slots id old me s h len is lt =
      let P : List ℕ → Type 0 = λ ws. (w : View) × (a : Act S) × Valid s.homes me.1 a × Numbered first (stepped (record { words = ws; homes = s.homes; views = s.views }) 0 (either (slice_index ws 0 == old) (old + 1) (slice_index ws 0)) id me.1 w a)
      × MatchBool (slice_index ws 0 == old) (Same (w, carried_after me.1 a) ((me.0.0 ++ slice_index ws 0 ∷ [], slice_index ws 0 + 1), me.1) × Above (slice_index ws 0) me.0.0) (Same (w, carried_after me.1 a) me) in
      subst P (sym h.1) (draws_at id old h.0 me s.homes s.views (h.0, refl, h.2, h.3, h.4) is (h.0 == old) refl)

  pub splits : (id : ℕ) (v : View) → Splits {S = S} (Numbered first) id v v ([], v.1)
  splits id v s h is = (
    h.0,
    h.1,
    h.2,
    (
        λ x.
        let p = total_set x s.views id v v is in
        let q = h.3 x in
        let r = total_snoc x (slice_set s.views id v) ([], v.1) in
        omega (arith, p, q, r)
        ),
    seen_snoc h.0 (slice_set s.views id v) ([], v.1) (seen_set h.0 s.views id v h.4 (seen_of h.0 s.views id v h.4 is)) (seen_of h.0 s.views id v h.4 is),
  )

  pub joins : (id : ℕ) (v : View) (other : ℕ) (w : View) → Joins {S = S} (Numbered first) id v other w (v.0 ++ w.0, v.1) ([], 0)
  joins id v other w s h is apart there = (
    h.0,
    h.1,
    h.2,
    (
        λ x.
        let p = total_set x s.views id v (v.0 ++ w.0, v.1) is in
        let t = total_set x (slice_set s.views id (v.0 ++ w.0, v.1)) other w ([], 0) there in
        let q = h.3 x in
        let r = times_append x v.0 w.0 in
        omega (arith, p, q, r, t)
        ),
    seen_set h.0 (slice_set s.views id (v.0 ++ w.0, v.1)) other ([], 0) (seen_set h.0 s.views id (v.0 ++ w.0, v.1) h.4 (seen_of h.0 s.views id v h.4 is)) (omega arith),
  )

-- what a seat has of both lists, each once
pub once_apart : (v w both : List ℕ) → both ≡ v ++ w → Once both → Apart v w
once_apart v w both is once = λ x. (let p = once x in let q : times x both ≡ times x (v ++ w) = ap (times x) is in let r = times_append x v w in omega (arith, p, q, r))
