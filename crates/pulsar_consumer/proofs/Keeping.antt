-- Ids that are kept: their order tells two of them apart, where they are listed as one of them is kept anew or forgotten, and those that are due.
use Rattle.std.proofs.Common.{◌≡◌, ◌∙◌, ℕ, ℤ, ◌==◌, ◌&&◌, ◌||◌, nat_lt, not, sym, ap, subst, refl, arith, Bool, true, false, cond, filter, List, [], ◌∷◌, ◌++◌, map, Option, Some, None, Result, Ok, Err, IfOk, inl, inr}
use Rattle.std.proofs.lemmas.Bool.{cases_Bool, eq-eqb, false≢true, or_right}
use Rattle.std.proofs.lemmas.Bool.Decides.{nat_tests}
use Rattle.std.proofs.lemmas.Cmp.{nat_cmp_total}
use Rattle.std.proofs.lemmas.List.Elements.{All-weaker, recursion_from_All}
use Rattle.std.proofs.lemmas.Map.Entries.{lookup-filter-values, option_filter}
use Rattle.std.proofs.lemmas.Map.Keys.{IsDistinct-from_sorted, sorted_head, sorted_tail}
use Rattle.std.proofs.lemmas.Map.Lookups.{CmpEqualImpliesEq, btree_set_from_contains, exact_signed, exact_unsigned}
use Rattle.std.proofs.lemmas.Map.Made.{is_some-lookup}
use Rattle.std.proofs.lemmas.Map.Views.{All-found, tells_apart}
use Rattle.std.specs.BTreeMap.{BTreeMap, IsOrdered, get, is_at}
use Rattle.std.specs.BTreeSet.{BTreeSet, contains}
use Rattle.std.specs.Cmp.{eq_by_cmp_equiv}
use Rattle.std.specs.Cmp.Lexicographic.{slice_cmp}
use Rattle.std.specs.List.{AllByRecursion, list_any}
use Rattle.std.specs.List.Sorted.{IsStrictlySortedBy}
use Rattle.std.specs.Map.{keys_of, lookup, remove_entry}
use Rattle.std.specs.Option.{is_some, option_cmp}
use Rattle.std.specs.Ordering.{int_cmp, nat_cmp, ordering_then}
use Rattle.std.specs.declared.cmp.Ordering.{Ordering}
use Rattle.std.specs.declared.cmp.Ordering.TheVariants.{Less, Equal, Greater}
use Rattle.pulsar_wire.specs.Orders.{id_order}
use Rattle.pulsar_consumer.specs.IdOrder.{id_total}
use Rattle.pulsar_consumer.specs.KeptIds.{is_moment, moment_of}
use Rattle.pulsar_consumer.specs.Redelivery.{Id, Kept, due_before, is_due_before, is_early, is_same_id}

-- TWO IDS ARE ONE WHERE NO FIELD TELLS THEM APART

both_equal : (a b : Ordering) → ordering_then a b ≡ Equal → (a ≡ Equal) × (b ≡ Equal)
both_equal Less b h = absurd cc
both_equal Equal b h = (refl, h)
both_equal Greater b h = absurd cc

exact_option : (a b : Option ℤ) → option_cmp int_cmp a b ≡ Equal → a ≡ b
exact_option None None h = refl
exact_option None (Some y) h = absurd cc
exact_option (Some x) None h = absurd cc
exact_option (Some x) (Some y) h = ap Some (exact_signed x y h)

exact_list : (xs ys : List ℤ) → slice_cmp int_cmp xs ys ≡ Equal → xs ≡ ys
exact_list [] [] h = refl
exact_list [] (y ∷ ys) h = absurd cc
exact_list (x ∷ xs) [] h = absurd cc
exact_list (x ∷ xs) (y ∷ ys) h =
    let two = both_equal (int_cmp x y) (slice_cmp int_cmp xs ys) h in
    λ i. exact_signed x y two.0 i ∷ exact_list xs ys two.1 i

pub exact_id : CmpEqualImpliesEq id_order
exact_id (a, (b, (c, (d, (e, (f, u)))))) (a', (b', (c', (d', (e', (f', u')))))) h =
    let p5 = both_equal _ _ h in
    let p4 = both_equal _ _ p5.0 in
    let p3 = both_equal _ _ p4.0 in
    let p2 = both_equal _ _ p3.0 in
    let p1 = both_equal _ _ p2.0 in
    λ i. (
      exact_unsigned a a' p1.0 i,
      (exact_unsigned b b' p1.1 i, (exact_option c c' p2.1 i, (exact_option d d' p3.1 i, (exact_list e e' p4.1 i, (exact_option f f' p5.1 i, tt))))),
    )

pub is_this : (a b : Id) → is_same_id a b ≡ true → a ≡ b
is_this a b h = tells_apart exact_id a b h

-- WHERE AN ID IS LISTED

pub unlisted : (m : ℕ) (here was is : Bool) (before old : Option ℕ) → is ≡ cond (is_moment m before && here) false was →
    was ≡ is_moment m old → (here ≡ true → old ≡ before) → is ≡ is_moment m (cond here None old)
unlisted m here was is before old e w h = by (is_moment m before) refl here e h
  where
    by : (same : Bool) → is_moment m before ≡ same → (b : Bool) → is ≡ cond (is_moment m before && b) false was → (b ≡ true → old ≡ before) →
        is ≡ is_moment m (cond b None old)
    by true s true e h = e ∙ ap (λ t. cond (t && true) false was) s
    by true s false e h = e ∙ ap (λ t. cond (t && false) false was) s ∙ w
    by false s true e h = e ∙ ap (λ t. cond (t && true) false was) s ∙ w ∙ ap (is_moment m) (h refl) ∙ s
    by false s false e h = e ∙ ap (λ t. cond (t && false) false was) s ∙ w

pub listed : (moment m : ℕ) (here was is : Bool) (old now : Option ℕ) → is ≡ cond ((moment == m) && here) true was →
    was ≡ is_moment m (cond here None old) → now ≡ cond here (Some moment) old → is ≡ is_moment m now
listed moment m true was is old now e w n = by (moment == m) refl
  where
    by : (same : Bool) → (moment == m) ≡ same → is ≡ is_moment m now
    by true s = e ∙ ap (λ t. cond (t && true) true was) s ∙ sym s ∙ sym (ap (is_moment m) n)
    by false s = e ∙ ap (λ t. cond (t && true) true was) s ∙ w ∙ sym s ∙ sym (ap (is_moment m) n)
listed moment m false was is old now e w n = by (moment == m) refl
  where
    by : (same : Bool) → (moment == m) ≡ same → is ≡ is_moment m now
    by true s = e ∙ ap (λ t. cond (t && false) true was) s ∙ w ∙ sym (ap (is_moment m) n)
    by false s = e ∙ ap (λ t. cond (t && false) true was) s ∙ w ∙ sym (ap (is_moment m) n)

-- THE ENTRIES, IN THEIR ORDER

none_of : {X : Type 0} (a : Id) (es : List (Id × X)) → AllByRecursion (λ b. id_order a b ≡ Less) (keys_of es) →
    filter (λ e. not (is_same_id a e.0)) es ≡ es
none_of a [] h = refl
none_of a (e ∷ es) h = let before = h.0 in rw before (ap (λ xs. e ∷ xs) (none_of a es h.1))

-- what is taken out of entries in order is all of that id
pub removed : {X : Type 0} (a : Id) (es : List (Id × X)) → IsStrictlySortedBy id_order (keys_of es) →
    remove_entry (is_at (id_order a)) es ≡ filter (λ e. not (is_same_id a e.0)) es
removed a [] s = refl
removed a (e ∷ es) s = elim (cases_Bool (is_same_id a e.0)) [
  | inl y ↦ (
      let same : a ≡ e.0 = is_this a e.0 y in
      let others = none_of a es (subst (λ k. AllByRecursion (λ b. id_order k b ≡ Less) (keys_of es)) (sym same) (sorted_head id_order e.0 (keys_of es) s)) in
      rw y (sym others))
  | inr y ↦ rw y (ap (λ xs. e ∷ xs) (removed a es (sorted_tail id_order e.0 (keys_of es) s)))
]

pub any_end : {A : Type 0} (test : A → Bool) (xs : List A) (x : A) → list_any test (xs ++ x ∷ []) ≡ (list_any test xs || test x)
any_end test [] x = one (test x)
  where
    one : (b : Bool) → (b || false) ≡ (false || b)
    one true = refl
    one false = refl
any_end test (y ∷ xs) x = ap (λ b. test y || b) (any_end test xs x) ∙ assoc (test y) (list_any test xs) (test x)
  where
    assoc : (a b c : Bool) → (a || (b || c)) ≡ ((a || b) || c)
    assoc true b c = refl
    assoc false b c = refl

pub any_map : {A B : Type 0} (f : A → B) (test : B → Bool) (xs : List A) → list_any test (map f xs) ≡ list_any (λ x. test (f x)) xs
any_map f test [] = refl
any_map f test (x ∷ xs) = ap (λ b. test (f x) || b) (any_map f test xs)

-- a set is given one more
pub grown : (a id : Id) (was is found : Bool) (seen : List Id) → is ≡ cond (is_same_id id a) true was →
    was ≡ (found || list_any (is_same_id a) seen) → is ≡ (found || list_any (is_same_id a) (seen ++ id ∷ []))
grown a id was is found seen e w =
    e ∙ ap (λ t. cond t true was) ((eq_by_cmp_equiv id_total).symm id a)
    ∙ ap (λ t. cond (is_same_id a id) true t) w
    ∙ by (is_same_id a id) found (list_any (is_same_id a) seen)
    ∙ ap (λ b. found || b) (sym (any_end (is_same_id a) seen id))
  where
    by : (x f s : Bool) → cond x true (f || s) ≡ (f || (s || x))
    by true true s = refl
    by true false true = refl
    by true false false = refl
    by false true s = refl
    by false false true = refl
    by false false false = refl

-- THOSE THAT ARE DUE

all_filter : (P : Id → Type 0) (p : Id × ℕ → Bool) (es : Kept) → AllByRecursion P (keys_of es) → AllByRecursion P (keys_of (filter p es))
all_filter P p [] h = tt
all_filter P p (e ∷ es) h = elim (cases_Bool (p e)) [
  | inl y ↦ rw y (h.0, all_filter P p es h.1)
  | inr y ↦ rw y (all_filter P p es h.1)
]

pub sorted_filter : (p : Id × ℕ → Bool) (es : Kept) → IsStrictlySortedBy id_order (keys_of es) → IsStrictlySortedBy id_order (keys_of (filter p es))
unfolding IsStrictlySortedBy
sorted_filter p [] s = tt
sorted_filter p (e ∷ es) s = elim (cases_Bool (p e)) [
  | inl y ↦ rw y (all_filter (λ b. id_order e.0 b ≡ Less) p es s.0, sorted_filter p es s.1)
  | inr y ↦ rw y (sorted_filter p es s.1)
]

early_of : (clock : ℕ) (o : Option ℕ) → is_some (option_filter (λ m. nat_lt m clock) o) ≡ is_early clock o
early_of clock None = refl
early_of clock (Some m) = elim (cases_Bool (nat_lt m clock)) [
  | inl y ↦ rw y refl
  | inr y ↦ rw y refl
]

module _ (clock : ℕ) (es : Kept) (sorted : IsStrictlySortedBy id_order (keys_of es)) where
  pub due_is : (a : Id) → list_any (is_same_id a) (due_before clock es) ≡ is_early clock (moment_of a es)
  due_is a =
      sym (is_some-lookup (is_same_id a) (filter (is_due_before clock) es))
      ∙ ap is_some (lookup-filter-values (eq_by_cmp_equiv id_total) (λ m. nat_lt m clock) a es (IsDistinct-from_sorted id_order (keys_of es) sorted))
      ∙ early_of clock (moment_of a es)

  -- a set of those that are due has them in their order
  pub due_keys : (found : BTreeSet Id) → IsStrictlySortedBy id_order found.keys →
      ((a : Id) → contains id_order found a ≡ is_early clock (moment_of a es)) → found.keys ≡ due_before clock es
  due_keys found in_order has =
      btree_set_from_contains id_total found (record { keys = due_before clock es }) in_order (sorted_filter (is_due_before clock) es sorted)
      (λ a. has a ∙ sym (due_is a)) exact_id

-- of what is kept by moments, what is inside one of them
module _ {X : Type 0} (inside : Option X → Bool) (nowhere : inside None ≡ false) (test : ℕ → Bool) where
  -- it is found where it is listed at a moment that passes
  one_found : (d : ℕ) (es : List (ℕ × X)) → test d ≡ true → inside (lookup (is_at (nat_cmp d)) es) ≡ true →
      list_any (λ e. inside (Some e.1)) (filter (λ e. test e.0) es) ≡ true
  one_found d [] passes h = absurd (false≢true (sym nowhere ∙ h))
  one_found d (e ∷ es) passes h = elim (cases_Bool (is_at (nat_cmp d) e.0)) [
    | inl here ↦ (
        let same : d ≡ e.0 = exact_at d e.0 here in
        let keeps : test e.0 ≡ true = ap test (sym same) ∙ passes in
        let there : inside (Some e.1) ≡ true = rw here at h in
        rw (keeps, there) refl)
    | inr there ↦ (
        let more = one_found d es passes (rw there at h) in
        elim (cases_Bool (test e.0)) [
          | inl y ↦ rw y (or_right (inside (Some e.1)) _ more)
          | inr y ↦ rw y more
        ])
  ]
    where
      exact_at : (d x : ℕ) → is_at (nat_cmp d) x ≡ true → d ≡ x
      exact_at d x h = tells_apart exact_unsigned d x h

  -- it isn't where it is listed at none that passes
  none_found : (es : List (ℕ × X)) → AllByRecursion (λ e. test e.0 ≡ true → inside (Some e.1) ≡ false) es →
      list_any (λ e. inside (Some e.1)) (filter (λ e. test e.0) es) ≡ false
  none_found [] h = refl
  none_found (e ∷ es) h = elim (cases_Bool (test e.0)) [
    | inl y ↦ (let not_here = h.0 y in rw (y, not_here) (none_found es h.1))
    | inr y ↦ rw y (none_found es h.1)
  ]

module _ {X : Type 0} (inside : Option X → Bool) (nowhere : inside None ≡ false) (clock : ℕ) (test : ℕ → Bool)
    (tests : (q : ℕ) → test q ≡ nat_lt q clock) (kept : BTreeMap ℕ X) (ordered : IsOrdered nat_cmp kept) where
  each : (moment : Option ℕ) → ((m : ℕ) → inside (get nat_cmp kept m) ≡ is_moment m moment) → (Q : ℕ × X → Type 0) →
      ((e : ℕ × X) → inside (Some e.1) ≡ is_moment e.0 moment → Q e) → AllByRecursion Q kept.entries
  each moment says Q then_so =
      recursion_from_All Q kept.entries
      (All-weaker (λ e. get nat_cmp kept e.0 ≡ Some e.1) Q (λ e found. then_so e (sym (ap inside found) ∙ says e.0)) kept.entries
      (All-found nat_cmp_total kept ordered))

  late : (d : ℕ) (e : ℕ × X) → nat_lt d clock ≡ false → inside (Some e.1) ≡ (d == e.0) → test e.0 ≡ true → inside (Some e.1) ≡ false
  late d e not_yet is passes =
      let before : nat_lt e.0 clock ≡ true = sym (tests e.0) ∙ passes in
      let apart : (d == e.0) ≡ false = grind (arith, nat_tests) in
      is ∙ apart

  pub all_early : (moment : Option ℕ) → ((m : ℕ) → inside (get nat_cmp kept m) ≡ is_moment m moment) →
      list_any (λ e. inside (Some e.1)) (filter (λ e. test e.0) kept.entries) ≡ is_early clock moment
  all_early None says =
      none_found inside nowhere test kept.entries (each None says (λ e. test e.0 ≡ true → inside (Some e.1) ≡ false) (λ e no passes. no))
  all_early (Some d) says = elim (cases_Bool (nat_lt d clock)) [
    | inl y ↦ (one_found inside nowhere test d kept.entries (tests d ∙ y) (says d ∙ eq-eqb d d refl) ∙ sym y)
    | inr y ↦ (none_found inside nowhere test kept.entries
        (each (Some d) says (λ e. test e.0 ≡ true → inside (Some e.1) ≡ false) (λ e is passes. late d e y is passes)) ∙ sym y)
  ]

-- of a result two things hold
pub with_both : {T E : Type 0} (r : Result T E) (P Q R : T → Type 0) → ((x : T) → P x → Q x → R x) → IfOk r P → IfOk r Q → IfOk r R
with_both (Ok x) P Q R f p q = f x p q
with_both (Err e) P Q R f p q = tt
