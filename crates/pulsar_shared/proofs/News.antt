-- Whether entries have news, one entry after the other.
use Rattle.std.proofs.Common.{◌≡◌, ◌∙◌, ◌<◌, ◌+◌, ℕ, suc, ap, sym, refl, arith, List, [], ◌∷◌, ◌++◌, Bool, true, false, length, take, drop, get_or}
use Rattle.std.specs.Prelude.{◌||◌}
use Rattle.std.proofs.Math.Seq.{take-length, take-suc}
use Rattle.std.proofs.lemmas.List.{map-append, take-append-drop}
use Rattle.std.specs.Global.{Vec}
use Rattle.pulsar_calls.specs.declared.event.Event.{Event}
use Rattle.pulsar_calls.specs.declared.effect.Effect.{Effect}
use Rattle.pulsar_calls.specs.Content.{heard}
use Rattle.pulsar_calls.specs.Steps.{Step}
use Rattle.pulsar_pumps.specs.Made.{of_link}
use Rattle.pulsar_shared.specs.Trace.{has_news, is_new, step_of, steps}

or_assoc : (a b c : Bool) → (a || (b || c)) ≡ ((a || b) || c)
or_assoc true b c = refl
or_assoc false b c = refl

or_false : (b : Bool) → (b || false) ≡ b
or_false true = refl
or_false false = refl

or_true : (b : Bool) → (b || true) ≡ true
or_true true = refl
or_true false = refl

news_append : (xs ys : List Step) → has_news (xs ++ ys) ≡ (has_news xs || has_news ys)
news_append [] ys = refl
news_append (x ∷ xs) ys = ap (λ b. is_new (of_link x.event) || b) (news_append xs ys) ∙ or_assoc (is_new (of_link x.event)) (has_news xs) (has_news ys)

one-up : (k : ℕ) → k + 1 ≡ suc k
one-up k = omega arith

module _ (es : List (Event × Vec Effect)) (i : ℕ) (e : Event × Vec Effect) (lt : i < length es) (is : e ≡ get_or es i e) (b : Bool) (so : b ≡ is_new (of_link (heard e.0))) where
  next : has_news (steps (take (i + 1) es)) ≡ (has_news (steps (take i es)) || b)
  next =
      ap (λ n. has_news (steps (take n es))) (one-up i)
      ∙ (ap (λ x. has_news (steps x)) (take-suc es i e lt)
      ∙ (ap (λ x. has_news (steps (take i es ++ x ∷ []))) (sym is)
      ∙ (ap has_news (map-append step_of (take i es) (e ∷ []))
      ∙ (news_append (steps (take i es)) (step_of e ∷ []) ∙ ap (λ z. has_news (steps (take i es)) || z) (or_false (is_new (of_link (heard e.0))) ∙ sym so)))))

  pub none_more : b ≡ false → has_news (steps (take i es)) ≡ false → has_news (steps (take (i + 1) es)) ≡ false
  none_more old none = next ∙ (ap (λ z. z || b) none ∙ old)

  pub some_there : b ≡ true → has_news (steps es) ≡ true
  some_there new =
      let here : has_news (steps (take (i + 1) es)) ≡ true = next ∙ (ap (λ z. has_news (steps (take i es)) || z) new ∙ or_true (has_news (steps (take i es)))) in
      ap (λ x. has_news (steps x)) (sym (take-append-drop (i + 1) es))
      ∙ (ap has_news (map-append step_of (take (i + 1) es) (drop (i + 1) es))
      ∙ (news_append (steps (take (i + 1) es)) (steps (drop (i + 1) es)) ∙ ap (λ z. z || has_news (steps (drop (i + 1) es))) here))

pub none_there : (es : List (Event × Vec Effect)) (k : ℕ) → k ≡ length es → has_news (steps (take k es)) ≡ false → has_news (steps es) ≡ false
none_there es k e none = sym (ap (λ n. has_news (steps (take n es))) e ∙ ap (λ x. has_news (steps x)) (take-length es)) ∙ none
