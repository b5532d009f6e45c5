-- Which requests are timed.
use Rattle.std.proofs.Common.{◌≡◌, ℕ, ◌<◌, ◌∙◌, sym, ap, subst, refl, ◌==◌, ◌&&◌, ◌||◌, nat_le, nat_lt, not, Bool, true, false, cond, List, [], ◌∷◌, length, ◌+◌, take, get_or, Option, Some, None, inl, inr, arith}
use Rattle.std.proofs.lemmas.Bool.{cases_Bool, eq-eqb}
use Rattle.std.proofs.lemmas.Bool.Decides.{nat_tests}
use Rattle.std.proofs.lemmas.Cmp.{ranked}
use Rattle.std.proofs.lemmas.List.{take_more}
use Rattle.std.proofs.lemmas.List.Folds.{list_any-append}
use Rattle.std.proofs.lemmas.Map.Keys.{sorted_head, sorted_tail}
use Rattle.std.specs.List.{AllByRecursion, list_any}
use Rattle.std.specs.List.Sorted.{IsStrictlySortedBy}
use Rattle.std.specs.declared.cmp.Ordering.TheVariants.{Less}
use Rattle.std.specs.Ordering.{is_gt}
use Rattle.std.specs.Ordering.{nat_cmp}
use Rattle.std.specs.BTreeMap.{is_at}
use Rattle.std.specs.Map.{keys_of, lookup}
use Rattle.pulsar_wire.specs.declared.awaited.Awaited.{Awaited}
use Rattle.pulsar_wire.specs.declared.awaited.Awaited.TheVariants.{Pong, Reply, Receipt}
use Rattle.pulsar_requests.specs.declared.requests.Waiter.{Waiter}
use Rattle.pulsar_wire.specs.Awaited.{is_same}
use Rattle.pulsar_requests.specs.Kept.{Ascends, all_pending, excuses, is_timed, pending_at, places_of}
use Rattle.pulsar_requests.specs.Waits.{is_due, is_excused, is_listed}
use Rattle.pulsar_requests.proofs.Awaiting.{is_at-eqb}
use Rattle.pulsar_requests.proofs.Pendings.{decides, skips}

-- one is taken out of both
pub taken_out : (here : Bool) (had was : Bool) (now before : Option Waiter) (excused : List ℕ) →
    was ≡ cond here false had → now ≡ cond here None before → had ≡ is_timed excused before → was ≡ is_timed excused now
taken_out true had was now before excused e f h = e ∙ ap (is_timed excused) (sym f)
taken_out false had was now before excused e f h = e ∙ h ∙ ap (is_timed excused) (sym f)

-- one more waits, at a place where none waited
pub put_in : (n place : ℕ) (here : Bool) (had has : Bool) (now before : Option Waiter) (w : Waiter) (excused : List ℕ) →
    (place == n) ≡ here →
    has ≡ (had || ((place == n) && not (is_excused excused w.creates w.awaits))) → now ≡ cond (is_at (nat_cmp place) n) (Some w) before →
    had ≡ is_timed excused before → (here ≡ true → before ≡ None) → has ≡ is_timed excused now
put_in n place true had has now before w excused t e f h none =
    let none_there : had ≡ false = h ∙ ap (is_timed excused) (none refl) in
    let now_is : now ≡ Some w = f ∙ ap (λ b. cond b (Some w) before) (is_at-eqb place n ∙ t) in
    e ∙ ap (λ b. had || (b && not (is_excused excused w.creates w.awaits))) t ∙ ap (λ b. b || not (is_excused excused w.creates w.awaits)) none_there
    ∙ ap (is_timed excused) (sym now_is)
put_in n place false had has now before w excused t e f h none =
    let now_is : now ≡ before = f ∙ ap (λ b. cond b (Some w) before) (is_at-eqb place n ∙ t) in
    e ∙ ap (λ b. had || (b && not (is_excused excused w.creates w.awaits))) t ∙ no_more had ∙ h ∙ ap (is_timed excused) (sym now_is)
  where
    no_more : (b : Bool) → (b || false) ≡ b
    no_more true = refl
    no_more false = refl

-- one that waits for this is listed among them
pub is_placed : (a : Awaited) (n : ℕ) (es : List (ℕ × Waiter)) (w : Waiter) → lookup (is_at (nat_cmp n)) es ≡ Some w → is_same a w.awaits ≡ true →
    list_any (λ p. p == n) (places_of a es) ≡ true
is_placed a n [] w found same = absurd cc
is_placed a n (e ∷ es) w found same = elim (cases_Bool (is_at (nat_cmp n) e.0)) [
  | inl here ↦ (
      let this : e.1 ≡ w = (let x : Some e.1 ≡ Some w = rw here at found in cc) in
      let waits : is_same a e.1.awaits ≡ true = ap (λ x. is_same a x.awaits) this ∙ same in
      let at : (n == e.0) ≡ true = sym (is_at-eqb n e.0) ∙ here in
      let back : (e.0 == n) ≡ true = grind (arith, nat_tests) in
      rw (waits, back) refl)
  | inr there ↦ (
      let more = is_placed a n es w (rw there at found) same in
      elim (cases_Bool (is_same a e.1.awaits)) [
        | inl y ↦ rw y (or_true (e.0 == n) more)
        | inr y ↦ rw y more
      ])
]
  where
    or_true : (b : Bool) {c : Bool} → c ≡ true → (b || c) ≡ true
    or_true true e = refl
    or_true false e = e

-- where nobody waits for this, no one that waits does
pub waits_for_other : (a : Awaited) (n : ℕ) (es : List (ℕ × Waiter)) (w : Waiter) → lookup (is_at (nat_cmp n)) es ≡ Some w → places_of a es ≡ [] →
    is_same a w.awaits ≡ false
waits_for_other a n es w found none = elim (cases_Bool (is_same a w.awaits)) [
  | inl y ↦ absurd (let yes = is_placed a n es w found y in let no : list_any (λ p. p == n) [] ≡ true = sym (ap (list_any (λ p. p == n)) none) ∙ yes in cc)
  | inr y ↦ y
]

-- an answered number is excused no longer: that changes nothing where nobody waits for it
pub timed_still : (before after : List ℕ) (o : Option Waiter) → ((w : Waiter) → o ≡ Some w → is_listed after w.awaits ≡ is_listed before w.awaits) →
    is_timed before o ≡ is_timed after o
timed_still before after None same = refl
timed_still before after (Some w) same = ap (λ b. not (w.creates && b)) (sym (same w refl))

-- one more number is excused
pub excused_more : (number : ℕ) (before after : List ℕ) (o : Option Waiter) (had has placed : Bool) →
    ((m : ℕ) → list_any (is_at (nat_cmp m)) after ≡ cond (is_at (nat_cmp number) m) true (list_any (is_at (nat_cmp m)) before)) →
    has ≡ (had && not (placed && excuses number o)) → had ≡ is_timed before o → (excuses number o ≡ true → placed ≡ true) → has ≡ is_timed after o
excused_more number before after None had has placed more e h there = e ∙ ap (λ b. b && not (placed && false)) h
excused_more number before after (Some w) had has placed more e h there =
    e ∙ ap (λ b. b && not (placed && excuses number (Some w))) h ∙ by w.creates w.awaits (excuses number (Some w)) refl refl refl placed there
  where
    listed_now : (a : Awaited) → is_listed after a ≡ (is_same (Reply number) a || is_listed before a)
    listed_now Pong = refl
    listed_now (Reply m) = more m ∙ either (is_at (nat_cmp number) m) (list_any (is_at (nat_cmp m)) before)
      where
        either : (b c : Bool) → cond b true c ≡ (b || c)
        either true c = refl
        either false c = refl
    listed_now (Receipt p s) = refl

    by : (creates : Bool) (a : Awaited) (x : Bool) → w.creates ≡ creates → w.awaits ≡ a → x ≡ (w.creates && is_same (Reply number) w.awaits) → (placed : Bool) → (x ≡ true → placed ≡ true) →
        (not (w.creates && is_listed before w.awaits) && not (placed && x)) ≡ not (w.creates && is_listed after w.awaits)
    by creates a x c d e placed there = ap (λ y. not (w.creates && is_listed before w.awaits) && not (placed && y)) e
        ∙ on w.creates (is_same (Reply number) w.awaits) (is_listed before w.awaits) placed (λ t. there (e ∙ t))
        ∙ ap (λ y. not (w.creates && y)) (sym (listed_now w.awaits))
      where
        on : (c s l placed : Bool) → ((c && s) ≡ true → placed ≡ true) → (not (c && l) && not (placed && (c && s))) ≡ not (c && (s || l))
        on false s l true there = refl
        on false s l false there = refl
        on true true true placed there = refl
        on true true false true there = refl
        on true true false false there = absurd (let no = there refl in cc)
        on true false true placed there = refl
        on true false false true there = refl
        on true false false false there = refl

-- THE FIRST THAT IS TIMED DECIDES

less-above : (n m : ℕ) → nat_cmp n m ≡ Less → n < m
less-above n m h = ranked n m Less (sym h)

at_itself : (n : ℕ) → is_at (nat_cmp n) n ≡ true
at_itself n = is_at-eqb n n ∙ eq-eqb n n refl

absent_from : (n : ℕ) (es : List (ℕ × Waiter)) → AllByRecursion (λ y. nat_cmp n y ≡ Less) (keys_of es) → lookup (is_at (nat_cmp n)) es ≡ None
absent_from n [] h = refl
absent_from n (e ∷ es) h =
    let lt = less-above n e.0 h.0 in
    let apart : (n == e.0) ≡ false = grind (arith, nat_tests) in
    let other : is_at (nat_cmp n) e.0 ≡ false = is_at-eqb n e.0 ∙ apart in
    rw other (absent_from n es h.1)

found_above : (n k : ℕ) (w : Waiter) (es : List (ℕ × Waiter)) → AllByRecursion (λ y. nat_cmp n y ≡ Less) (keys_of es) → lookup (is_at (nat_cmp k)) es ≡ Some w → n < k
found_above n k w [] h found = absurd cc
found_above n k w (e ∷ es) h found = elim (cases_Bool (is_at (nat_cmp k) e.0)) [
  | inl here ↦ (
      let lt = less-above n e.0 h.0 in
      let at : (k == e.0) ≡ true = sym (is_at-eqb k e.0) ∙ here in
      let same : k ≡ e.0 = grind (arith, nat_tests) in
      omega (arith, lt, same))
  | inr there ↦ found_above n k w es h.1 (rw there at found)
]

not_false : (b : Bool) → not b ≡ false → b ≡ true
not_false true h = refl
not_false false h = absurd cc

module _ (now : ℕ) (excused : List ℕ) (e : ℕ × Waiter) (es : List (ℕ × Waiter)) (sorted : IsStrictlySortedBy nat_cmp (keys_of (e ∷ es))) where
  passed : is_timed excused (lookup (is_at (nat_cmp e.0)) (e ∷ es)) ≡ false → list_any (is_due now excused) (all_pending (e ∷ es)) ≡ list_any (is_due now excused) (all_pending es)
  passed h = skips now excused (pending_at e) (all_pending es) (not_false (is_excused excused e.1.creates e.1.awaits) (rw (at_itself e.0) at h))

  later : (n : ℕ) → is_timed excused (lookup (is_at (nat_cmp n)) (e ∷ es)) ≡ false → is_timed excused (lookup (is_at (nat_cmp n)) es) ≡ false
  later n h = elim (cases_Bool (is_at (nat_cmp n) e.0)) [
    | inl here ↦ (
        let at : (n == e.0) ≡ true = sym (is_at-eqb n e.0) ∙ here in
        let same : e.0 ≡ n = grind (arith, nat_tests) in
        ap (is_timed excused) (subst (λ x. lookup (is_at (nat_cmp x)) es ≡ None) same (absent_from e.0 es (sorted_head nat_cmp e.0 (keys_of es) sorted))))
    | inr there ↦ (rw there at h)
  ]

pub none_decides : (now : ℕ) (excused : List ℕ) (es : List (ℕ × Waiter)) → IsStrictlySortedBy nat_cmp (keys_of es) →
    ((n : ℕ) → is_timed excused (lookup (is_at (nat_cmp n)) es) ≡ false) → list_any (is_due now excused) (all_pending es) ≡ false
none_decides now excused [] sorted none = refl
none_decides now excused (e ∷ es) sorted none =
    passed now excused e es sorted (none e.0) ∙ none_decides now excused es (sorted_tail nat_cmp e.0 (keys_of es) sorted) (λ n. later now excused e es sorted n (none n))

pub first_decides : (now : ℕ) (excused : List ℕ) (k : ℕ) (w : Waiter) (es : List (ℕ × Waiter)) → IsStrictlySortedBy nat_cmp (keys_of es) → Ascends (all_pending es) →
    lookup (is_at (nat_cmp k)) es ≡ Some w → is_excused excused w.creates w.awaits ≡ false →
    ((n : ℕ) → n < k → is_timed excused (lookup (is_at (nat_cmp n)) es) ≡ false) → list_any (is_due now excused) (all_pending es) ≡ nat_le w.deadline now
first_decides now excused k w [] sorted ascends found ready early = absurd cc
first_decides now excused k w (e ∷ es) sorted ascends found ready early = elim (cases_Bool (is_at (nat_cmp k) e.0)) [
  | inl here ↦ (
      let this : e.1 ≡ w = (let x : Some e.1 ≡ Some w = rw here at found in cc) in
      decides now excused (pending_at e) (all_pending es) ascends.0 (ap (λ x. is_excused excused x.creates x.awaits) this ∙ ready) ∙ ap (λ x. nat_le x.deadline now) this)
  | inr there ↦ (
      let found' : lookup (is_at (nat_cmp k)) es ≡ Some w = rw there at found in
      let lt = found_above e.0 k w es (sorted_head nat_cmp e.0 (keys_of es) sorted) found' in
      passed now excused e es sorted (early e.0 lt)
      ∙ first_decides now excused k w es (sorted_tail nat_cmp e.0 (keys_of es) sorted) ascends.1 found' ready (λ n below. later now excused e es sorted n (early n below)))
]

pub none_below : (k n : ℕ) → n < k → is_gt (nat_cmp k n) ≡ false → ⊥
none_below k n lt h =
    let a : nat_lt k n ≡ false = grind (arith, nat_tests) in
    let b : (k == n) ≡ false = grind (arith, nat_tests) in
    let no = rw (a, b) at h in cc

pub none_of_none : (n : ℕ) (ks : List ℕ) → (0 < length ks → false ≡ true) → list_any (is_at (nat_cmp n)) ks ≡ false
none_of_none n [] h = refl
none_of_none n (k ∷ ks) h = absurd (let no = h (omega arith) in cc)

-- ONE MORE IS PASSED

untimed_at : (had here listed x : Bool) → ((had && not (listed && x)) && not (here && x)) ≡ (had && not ((listed || (here || false)) && x))
untimed_at false here listed x = refl
untimed_at true here true true = refl
untimed_at true true true false = refl
untimed_at true false true false = refl
untimed_at true true false true = refl
untimed_at true true false false = refl
untimed_at true false false true = refl
untimed_at true false false false = refl

pub untimed_more : (n i : ℕ) (ns : List ℕ) (had now new x : Bool) → i < length ns →
    now ≡ (had && not (list_any (λ p. p == n) (take i ns) && x)) → new ≡ (now && not ((get_or ns i 0 == n) && x)) →
    new ≡ (had && not (list_any (λ p. p == n) (take (i + 1) ns) && x))
untimed_more n i ns had now new x within e f =
    f ∙ ap (λ b. b && not ((get_or ns i 0 == n) && x)) e ∙ untimed_at had (get_or ns i 0 == n) (list_any (λ p. p == n) (take i ns)) x
    ∙ ap (λ b. had && not (b && x)) (sym (ap (list_any (λ p. p == n)) (take_more ns i 0 within) ∙ list_any-append (λ p. p == n) (take i ns) (get_or ns i 0 ∷ [])))

-- WHO IS EXCUSED

and_right : (b c : Bool) → (b && c) ≡ true → c ≡ true
and_right true c h = h
and_right false c h = absurd cc

pub placed_where : (number n : ℕ) (es : List (ℕ × Waiter)) (ps : List ℕ) → ps ≡ places_of (Reply number) es → excuses number (lookup (is_at (nat_cmp n)) es) ≡ true → list_any (λ p. p == n) ps ≡ true
placed_where number n es ps e h = on (lookup (is_at (nat_cmp n)) es) refl h
  where
    on : (o : Option Waiter) → lookup (is_at (nat_cmp n)) es ≡ o → excuses number o ≡ true → list_any (λ p. p == n) ps ≡ true
    on None found x = absurd cc
    on (Some w) found x = ap (list_any (λ p. p == n)) e ∙ is_placed (Reply number) n es w found (and_right w.creates (is_same (Reply number) w.awaits) x)

pub untouched : (had x : Bool) → had ≡ (had && not (false && x))
untouched true x = refl
untouched false x = refl
