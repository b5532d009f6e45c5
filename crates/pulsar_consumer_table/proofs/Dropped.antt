-- Of some tickets, those that are not kept are listed no more at their place.
use Rattle.std.proofs.Common.{◌≡◌, ◌∙◌, ℕ, ◌==◌, ◌&&◌, ◌||◌, not, sym, ap, refl, Bool, true, false, List, [], ◌∷◌, ◌++◌}
use Rattle.std.proofs.lemmas.Bool.{eqb-true, false≢true}
use Rattle.std.proofs.lemmas.List.Folds.{list_any-append}
use Rattle.std.specs.BTreeMap.{BTreeMap}
use Rattle.std.specs.BTreeSet.{BTreeSet}
use Rattle.pulsar_consumer_table.specs.KeptConsumers.{Drops, listed_at}
use Rattle.pulsar_calls.specs.Places.{is_listed}
use Rattle.pulsar_calls.proofs.Places.{swapped}

stays : (a g k : Bool) → k ≡ true → a ≡ (a && not (true && (g && not k)))
stays a g false e = absurd (false≢true e)
stays true true true e = refl
stays true false true e = refl
stays false g true e = refl

unasked : (a x : Bool) → a ≡ (a && not (false && x))
unasked true x = refl
unasked false x = refl

none_and : (b : Bool) → (b && false) ≡ false
none_and true = refl
none_and false = refl

both_dropped : (a p q g : Bool) → ((a && not (p && g)) && not (q && g)) ≡ (a && not ((p || q) && g))
both_dropped false p q g = refl
both_dropped true false q g = refl
both_dropped true true q true = refl
both_dropped true true true false = refl
both_dropped true true false false = refl

module _ (place : ℕ → ℕ) (is_kept : ℕ → Bool) where
  pub nothing_dropped : (l : BTreeMap ℕ (BTreeSet ℕ)) → Drops [] place is_kept l l
  nothing_dropped l t n = unasked (is_listed t (listed_at l n)) ((n == place t) && not (is_kept t))

  pub kept_one : (ticket : ℕ) (l : BTreeMap ℕ (BTreeSet ℕ)) → is_kept ticket ≡ true → Drops (ticket ∷ []) place is_kept l l
  kept_one ticket l kept t n = by (ticket == t) refl
    where
      by : (b : Bool) → (ticket == t) ≡ b →
          is_listed t (listed_at l n) ≡ (is_listed t (listed_at l n) && not ((b || false) && ((n == place t) && not (is_kept t))))
      by true e = stays (is_listed t (listed_at l n)) (n == place t) (is_kept t) (ap is_kept (sym (eqb-true ticket t e)) ∙ kept)
      by false e = unasked (is_listed t (listed_at l n)) ((n == place t) && not (is_kept t))

  pub dropped_one : (ticket : ℕ) (before after : BTreeMap ℕ (BTreeSet ℕ)) →
      ((n t : ℕ) → is_listed t (listed_at after n) ≡ (is_listed t (listed_at before n) && not ((n == place ticket) && (t == ticket)))) →
      is_kept ticket ≡ false →
      Drops (ticket ∷ []) place is_kept before after
  dropped_one ticket before after less gone t n = less n t ∙ ap (λ b. is_listed t (listed_at before n) && not b) (by (ticket == t) refl)
    where
      by : (b : Bool) → (ticket == t) ≡ b → ((n == place ticket) && (t == ticket)) ≡ ((b || false) && ((n == place t) && not (is_kept t)))
      by true e =
          ap (λ b. (n == place ticket) && b) (swapped t ticket ∙ e)
          ∙ ap (λ b. (n == place ticket) && not b) (sym gone)
          ∙ ap (λ u. (n == place u) && not (is_kept u)) (eqb-true ticket t e)
      by false e = ap (λ b. (n == place ticket) && b) (swapped t ticket ∙ e) ∙ none_and (n == place ticket)

  pub one_more_dropped : (ts : List ℕ) (u : ℕ) (before mid after : BTreeMap ℕ (BTreeSet ℕ)) → Drops ts place is_kept before mid →
      Drops (u ∷ []) place is_kept mid after →
      Drops (ts ++ u ∷ []) place is_kept before after
  one_more_dropped ts u before mid after was is t n =
      let gone = (n == place t) && not (is_kept t) in
      is t n
      ∙ ap (λ b. b && not (is_listed t (u ∷ []) && gone)) (was t n)
      ∙ both_dropped (is_listed t (listed_at before n)) (is_listed t ts) (is_listed t (u ∷ [])) gone
      ∙ ap (λ b. is_listed t (listed_at before n) && not (b && gone)) (sym (list_any-append (λ k. k == t) ts (u ∷ [])))

-- of one ticket, where its place is told otherwise
pub same_place : (place place' : ℕ → ℕ) (is_kept is_kept' : ℕ → Bool) (u : ℕ) → place u ≡ place' u → is_kept u ≡ is_kept' u → (before after : BTreeMap ℕ (BTreeSet ℕ)) →
    Drops (u ∷ []) place is_kept before after →
    Drops (u ∷ []) place' is_kept' before after
same_place place place' is_kept is_kept' u there kept before after drops t n =
    drops t n ∙ ap (λ b. is_listed t (listed_at before n) && not b) (by (u == t) refl)
  where
    by : (b : Bool) → (u == t) ≡ b → ((b || false) && ((n == place t) && not (is_kept t))) ≡ ((b || false) && ((n == place' t) && not (is_kept' t)))
    by true e =
        let same : u ≡ t = eqb-true u t e in
        ap (λ k. (n == k) && not (is_kept t)) (ap place (sym same) ∙ there ∙ ap place' same)
        ∙ ap (λ b. (n == place' t) && not b) (ap is_kept (sym same) ∙ kept ∙ ap is_kept' same)
    by false e = refl
