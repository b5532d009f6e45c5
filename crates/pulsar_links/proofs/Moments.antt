-- The moments at which links are due, as one of them is forgotten or noted, and those that have come.
use Rattle.std.proofs.Common.{◌≡◌, ℕ, ◌==◌, ◌&&◌, ◌∙◌, sym, ap, refl, arith, Bool, true, false, cond, nat_le, filter, List, [], ◌∷◌, Option, Some, None, inl, inr}
use Rattle.std.proofs.lemmas.Bool.{cases_Bool, eq-eqb, false≢true, or_right}
use Rattle.std.proofs.lemmas.Bool.Decides.{nat_tests}
use Rattle.std.proofs.lemmas.Cmp.{nat_cmp_total}
use Rattle.std.proofs.lemmas.List.Elements.{All-weaker, recursion_from_All}
use Rattle.std.proofs.lemmas.Map.Views.{All-found}
use Rattle.std.specs.BTreeMap.{BTreeMap, IsOrdered, get, is_at}
use Rattle.std.specs.List.{AllByRecursion, list_any}
use Rattle.std.specs.Map.{lookup}
use Rattle.std.specs.Ordering.{nat_cmp}
use Rattle.pulsar_requests.proofs.Awaiting.{is_at-eqb}
use Rattle.pulsar_requests.specs.Soonest.{has_come}
use Rattle.pulsar_links.specs.Due.{is_moment}

swapped : (a b : ℕ) (t : Bool) → (a == b) ≡ t → (b == a) ≡ t
swapped a b true h = grind (arith, nat_tests)
swapped a b false h = grind (arith, nat_tests)

pub forgot : (moment m : ℕ) (here same was is : Bool) (old now : Option ℕ) → (m == moment) ≡ same → is ≡ cond (same && here) false was →
    was ≡ is_moment m old → (here ≡ true → old ≡ Some moment) → now ≡ cond here None old → is ≡ is_moment m now
forgot moment m true true was is old now t e w h n = e ∙ sym (ap (is_moment m) n)
forgot moment m true false was is old now t e w h n =
    e ∙ w ∙ ap (is_moment m) (h refl) ∙ swapped m moment false t ∙ sym (ap (is_moment m) n)
forgot moment m false true was is old now t e w h n = e ∙ w ∙ sym (ap (is_moment m) n)
forgot moment m false false was is old now t e w h n = e ∙ w ∙ sym (ap (is_moment m) n)

pub noted : (moment m : ℕ) (here same was is : Bool) (old now : Option ℕ) → (m == moment) ≡ same → is ≡ cond (same && here) true was →
    was ≡ is_moment m old → (here ≡ true → old ≡ None) → now ≡ cond here (Some moment) old → is ≡ is_moment m now
noted moment m true true was is old now t e w h n = e ∙ sym (swapped m moment true t) ∙ sym (ap (is_moment m) n)
noted moment m true false was is old now t e w h n =
    e ∙ w ∙ ap (is_moment m) (h refl) ∙ sym (swapped m moment false t) ∙ sym (ap (is_moment m) n)
noted moment m false true was is old now t e w h n = e ∙ w ∙ sym (ap (is_moment m) n)
noted moment m false false was is old now t e w h n = e ∙ w ∙ sym (ap (is_moment m) n)

-- THOSE THAT HAVE COME

-- of what is kept by moments, what is inside one of them
module _ {X : Type 0} (inside : Option X → Bool) (nowhere : inside None ≡ false) (test : ℕ → Bool) where
  -- it is found where it is listed at a moment that passes
  one_found : (d : ℕ) (es : List (ℕ × X)) → test d ≡ true → inside (lookup (is_at (nat_cmp d)) es) ≡ true →
      list_any (λ e. inside (Some e.1)) (filter (λ e. test e.0) es) ≡ true
  one_found d [] passes h = absurd (false≢true (sym nowhere ∙ h))
  one_found d (e ∷ es) passes h = elim (cases_Bool (is_at (nat_cmp d) e.0)) [
    | inl here ↦ (
        let at : (d == e.0) ≡ true = sym (is_at-eqb d e.0) ∙ here in
        let same : d ≡ e.0 = grind (arith, nat_tests) in
        let keeps : test e.0 ≡ true = ap test (sym same) ∙ passes in
        let there : inside (Some e.1) ≡ true = rw here at h in
        rw (keeps, there) refl)
    | inr there ↦ (
        let more = one_found d es passes (rw there at h) in
        elim (cases_Bool (test e.0)) [
          | inl y ↦ rw y (or_right (inside (Some e.1)) _ more)
          | inr y ↦ rw y more
        ])
  ]

  -- it isn't where it is listed at none that passes
  none_found : (es : List (ℕ × X)) → AllByRecursion (λ e. test e.0 ≡ true → inside (Some e.1) ≡ false) es →
      list_any (λ e. inside (Some e.1)) (filter (λ e. test e.0) es) ≡ false
  none_found [] h = refl
  none_found (e ∷ es) h = elim (cases_Bool (test e.0)) [
    | inl y ↦ (let not_here = h.0 y in rw (y, not_here) (none_found es h.1))
    | inr y ↦ rw y (none_found es h.1)
  ]

module _ {X : Type 0} (inside : Option X → Bool) (nowhere : inside None ≡ false) (now : ℕ) (test : ℕ → Bool)
    (tests : (q : ℕ) → test q ≡ nat_le q now) (kept : BTreeMap ℕ X) (ordered : IsOrdered nat_cmp kept) where
  each : (moment : Option ℕ) → ((m : ℕ) → inside (get nat_cmp kept m) ≡ is_moment m moment) → (Q : ℕ × X → Type 0) →
      ((e : ℕ × X) → inside (Some e.1) ≡ is_moment e.0 moment → Q e) → AllByRecursion Q kept.entries
  each moment says Q then_so =
      recursion_from_All Q kept.entries
      (All-weaker (λ e. get nat_cmp kept e.0 ≡ Some e.1) Q (λ e found. then_so e (sym (ap inside found) ∙ says e.0)) kept.entries
      (All-found nat_cmp_total kept ordered))

  late : (d : ℕ) (e : ℕ × X) → nat_le d now ≡ false → inside (Some e.1) ≡ (d == e.0) → test e.0 ≡ true → inside (Some e.1) ≡ false
  late d e not_yet is passes =
      let before : nat_le e.0 now ≡ true = sym (tests e.0) ∙ passes in
      let apart : (d == e.0) ≡ false = grind (arith, nat_tests) in
      is ∙ apart

  pub all_come : (moment : Option ℕ) → ((m : ℕ) → inside (get nat_cmp kept m) ≡ is_moment m moment) →
      list_any (λ e. inside (Some e.1)) (filter (λ e. test e.0) kept.entries) ≡ has_come now moment
  all_come None says =
      none_found inside nowhere test kept.entries (each None says (λ e. test e.0 ≡ true → inside (Some e.1) ≡ false) (λ e no passes. no))
  all_come (Some d) says = elim (cases_Bool (nat_le d now)) [
    | inl y ↦ (one_found inside nowhere test d kept.entries (tests d ∙ y) (says d ∙ eq-eqb d d refl) ∙ sym y)
    | inr y ↦ (none_found inside nowhere test kept.entries
        (each (Some d) says (λ e. test e.0 ≡ true → inside (Some e.1) ≡ false) (λ e is passes. late d e y is passes)) ∙ sym y)
  ]
