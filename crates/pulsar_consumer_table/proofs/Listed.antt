-- A ticket is listed under a number, or no more.
use Rattle.std.proofs.Common.{◌≡◌, ◌∙◌, ℕ, ◌==◌, ◌&&◌, ◌||◌, not, sym, ap, refl, arith, length, List, [], ◌∷◌, Bool, true, false, cond, Option, Some, None, inl, inr}
use Rattle.std.proofs.lemmas.Bool.{cases_Bool, eqb-true}
use Rattle.std.specs.BTreeMap.{is_at}
use Rattle.std.specs.BTreeSet.{BTreeSet, contains}
use Rattle.std.specs.Ordering.{nat_cmp}
use Rattle.pulsar_requests.proofs.Awaiting.{is_at-eqb}
use Rattle.pulsar_consumer_table.specs.KeptConsumers.{tickets_of}
use Rattle.pulsar_calls.specs.Places.{is_listed}
use Rattle.pulsar_calls.proofs.Places.{listed_is, swapped}

at_is : (k q : ℕ) → is_at (nat_cmp k) q ≡ (q == k)
at_is k q = is_at-eqb k q ∙ swapped k q

more : (x y : Bool) → cond x true y ≡ (y || (true && x))
more true true = refl
more true false = refl
more false true = refl
more false false = refl

less : (x y : Bool) → cond x false y ≡ (y && not (true && x))
less true true = refl
less true false = refl
less false true = refl
less false false = refl

or_none : (b x : Bool) → b ≡ (b || (false && x))
or_none true x = refl
or_none false x = refl

and_all : (b x : Bool) → b ≡ (b && not (false && x))
and_all true x = refl
and_all false x = refl

none_left : (x : Bool) → false ≡ (false && not (true && x))
none_left x = refl

module _ (number ticket : ℕ) (old : ℕ → Option (BTreeSet ℕ)) where
  -- the set of another number stays
  other : (after : ℕ → Option (BTreeSet ℕ)) (n t : ℕ) → after n ≡ old n → is_listed t (tickets_of (after n)) ≡ is_listed t (tickets_of (old n))
  other after n t is = ap (λ o. is_listed t (tickets_of o)) is

  -- one more
  pub one_more : (before new : BTreeSet ℕ) (after : ℕ → Option (BTreeSet ℕ)) → before.keys ≡ tickets_of (old number) →
      ((q : ℕ) → contains nat_cmp new q ≡ cond (is_at (nat_cmp ticket) q) true (contains nat_cmp before q)) →
      ((n : ℕ) → after n ≡ cond (is_at (nat_cmp number) n) (Some new) (old n)) →
      (n t : ℕ) → is_listed t (tickets_of (after n)) ≡ (is_listed t (tickets_of (old n)) || ((n == number) && (t == ticket)))
  one_more before new after was has is n t = elim (cases_Bool (n == number)) [
    | inl e ↦
        (let same : n ≡ number = eqb-true n number e in
        let after_is : after n ≡ Some new = is n ∙ ap (λ b. cond b (Some new) (old n)) (at_is number n ∙ e) in
        ap (λ o. is_listed t (tickets_of o)) after_is
        ∙ sym (listed_is t new.keys)
        ∙ has t
        ∙ ap (λ b. cond b true (contains nat_cmp before t)) (at_is ticket t)
        ∙ more (t == ticket) (contains nat_cmp before t)
        ∙ ap (λ b. b || (true && (t == ticket))) (listed_is t before.keys ∙ ap (is_listed t) (was ∙ ap (λ k. tickets_of (old k)) (sym same)))
        ∙ ap (λ b. is_listed t (tickets_of (old n)) || (b && (t == ticket))) (sym e))
    | inr e ↦
        other after n t (is n ∙ ap (λ b. cond b (Some new) (old n)) (at_is number n ∙ e))
        ∙ or_none (is_listed t (tickets_of (old n))) (t == ticket)
        ∙ ap (λ b. is_listed t (tickets_of (old n)) || (b && (t == ticket))) (sym e)
  ]

  -- one less: where a set is left, or none
  module _ (before new : BTreeSet ℕ) (after : ℕ → Option (BTreeSet ℕ)) (was : Some before ≡ old number)
      (has : (q : ℕ) → contains nat_cmp new q ≡ cond (is_at (nat_cmp ticket) q) false (contains nat_cmp before q)) where
    pub one_less : (left : Option (BTreeSet ℕ)) → tickets_of left ≡ new.keys → ((n : ℕ) → after n ≡ cond (is_at (nat_cmp number) n) left (old n)) →
        (n t : ℕ) → is_listed t (tickets_of (after n)) ≡ (is_listed t (tickets_of (old n)) && not ((n == number) && (t == ticket)))
    one_less left keys is n t = elim (cases_Bool (n == number)) [
      | inl e ↦
          (let same : n ≡ number = eqb-true n number e in
          let after_is : after n ≡ left = is n ∙ ap (λ b. cond b left (old n)) (at_is number n ∙ e) in
          ap (λ o. is_listed t (tickets_of o)) after_is
          ∙ ap (is_listed t) keys
          ∙ sym (listed_is t new.keys)
          ∙ has t
          ∙ ap (λ b. cond b false (contains nat_cmp before t)) (at_is ticket t)
          ∙ less (t == ticket) (contains nat_cmp before t)
          ∙ ap (λ b. b && not (true && (t == ticket))) (listed_is t before.keys ∙ ap (λ o. is_listed t (tickets_of o)) (was ∙ ap old (sym same)))
          ∙ ap (λ b. is_listed t (tickets_of (old n)) && not (b && (t == ticket))) (sym e))
      | inr e ↦
          other after n t (is n ∙ ap (λ b. cond b left (old n)) (at_is number n ∙ e))
          ∙ and_all (is_listed t (tickets_of (old n))) (t == ticket)
          ∙ ap (λ b. is_listed t (tickets_of (old n)) && not (b && (t == ticket))) (sym e)
    ]

  -- none was there
  pub none_less : (after : ℕ → Option (BTreeSet ℕ)) → None ≡ old number → ((n : ℕ) → after n ≡ old n) →
      (n t : ℕ) → is_listed t (tickets_of (after n)) ≡ (is_listed t (tickets_of (old n)) && not ((n == number) && (t == ticket)))
  none_less after was is n t = elim (cases_Bool (n == number)) [
    | inl e ↦
        (let same : n ≡ number = eqb-true n number e in
        let none : old n ≡ None = ap old same ∙ sym was in
        ap (λ o. is_listed t (tickets_of o)) (is n ∙ none)
        ∙ sym (ap (λ o. is_listed t (tickets_of o) && not ((n == number) && (t == ticket))) none))
    | inr e ↦
        other after n t (is n)
        ∙ and_all (is_listed t (tickets_of (old n))) (t == ticket)
        ∙ ap (λ b. is_listed t (tickets_of (old n)) && not (b && (t == ticket))) (sym e)
  ]

pub no_keys : (ks : List ℕ) → length ks ≡ 0 → [] ≡ ks
no_keys [] h = refl
no_keys (k ∷ ks) h = absurd (omega (arith, h))

-- written again where it was removed
pub put_back : (number : ℕ) (left : Option (BTreeSet ℕ)) (old removed after : ℕ → Option (BTreeSet ℕ)) →
    ((n : ℕ) → removed n ≡ cond (is_at (nat_cmp number) n) None (old n)) →
    ((n : ℕ) → after n ≡ cond (is_at (nat_cmp number) n) left (removed n)) →
    (n : ℕ) → after n ≡ cond (is_at (nat_cmp number) n) left (old n)
put_back number left old removed after first then n = then n ∙ by (is_at (nat_cmp number) n) (first n)
  where
    by : (b : Bool) → removed n ≡ cond b None (old n) → cond b left (removed n) ≡ cond b left (old n)
    by true h = refl
    by false h = h
