-- One more entry of a trace.
use Rattle.std.proofs.Common.{◌≡◌, ◌∙◌, ◌+◌, ◌≤◌, ℕ, ap, sym, subst, refl, arith, Bool, true, false, List, [], ◌∷◌, ◌++◌, length, map, reverse}
use Rattle.std.proofs.lemmas.List.{reverse-append, drop-map, length-map}
use Rattle.std.proofs.Math.Logic.{∥∥₁_map}
use Rattle.std.specs.Prelude.{IfOk, OnErr, OnOk, Result, Ok, Err, Some, drop}
use Rattle.std.specs.Global.{Vec}
use Rattle.pulsar_calls.specs.declared.event.Event.{Event}
use Rattle.pulsar_calls.specs.declared.effect.Effect.{Effect}
use Rattle.pulsar_calls.specs.Content.{heard, shown}
use Rattle.pulsar_wire.specs.declared.error.NoMemory.{NoMemory}
use Rattle.pulsar_calls.specs.Steps.{Step}
use Rattle.pulsar_machine.specs.Options.{Options}
use Rattle.pulsar_machine.specs.Machine.{step}
use Rattle.pulsar_pumps.specs.declared.submitter.Receipt.{Receipt}
use Rattle.pulsar_pumps.specs.Made.{made_by}
use Rattle.pulsar_pumps.specs.Outside.{Grows}
use Rattle.pulsar_shared.specs.Trace.{Had, Legal, has_news, history, numbered, step_of, steps}

same_step : (d e : Event) (x y : List Effect) → heard d ≡ heard e → map shown x ≡ map shown y → step d x ≡ step e y
same_step d e x y p q = ap (λ t. record { event = t; effects = map shown x }) p ∙ ap (λ t. record { event = heard e; effects = t }) q

pub steps_more : (xs : List (Event × Vec Effect)) (p : Event × Vec Effect) (e : Event) (x : List Effect) →
    heard p.0 ≡ heard e → map shown p.1.items ≡ map shown x → steps (xs ++ p ∷ []) ≡ steps xs ++ step e x ∷ []
steps_more [] p e x h t = ap (λ s. s ∷ []) (same_step p.0 e p.1.items x h t)
steps_more (y ∷ ys) p e x h t = ap (λ s. step_of y ∷ s) (steps_more ys p e x h t)

-- the trace with one more entry, whose content is that of this event and these effects
pub entry_more : (xs ys zs : List (Event × Vec Effect)) (d : Event) (v : Vec Effect) (x : List Effect) → ys ≡ xs → zs ≡ ys ++ (d, v) ∷ [] → map shown v.items ≡ map shown x →
    steps zs ≡ steps xs ++ step d x ∷ []
entry_more xs ys zs d v x p q t = ap steps (q ∙ ap (λ z. z ++ (d, v) ∷ []) p) ∙ steps_more xs (d, v) d x refl t

-- the same of an event and of effects with that content
pub entry_same : (ss ts : List Step) (d e : Event) (x y : List Effect) → ts ≡ ss ++ step d x ∷ [] → heard d ≡ heard e → y ≡ x → ts ≡ ss ++ step e y ∷ []
entry_same ss ts d e x y is h t = is ∙ ap (λ s. ss ++ s ∷ []) (same_step d e x y h (ap (map shown) (sym t)))

history_more : (xs ys : List (Event × Vec Effect)) (e : Event) (x : List Effect) → steps ys ≡ steps xs ++ step e x ∷ [] → history ys ≡ step e x ∷ history xs
history_more xs ys e x is = ap reverse is ∙ reverse-append (steps xs) (step e x ∷ [])

pub stands_more : {C : Type 0} (S : Options → C → List Step → Type 0) (o p : Options) (c d : C) (xs ys : List (Event × Vec Effect)) (e : Event) (x : List Effect) →
    steps ys ≡ steps xs ++ step e x ∷ [] → p ≡ o → ((q : Options) (h : List Step) → S q c h → S q d (step e x ∷ h)) → ∥ S o c (history xs) ∥₁ → ∥ S p d (history ys) ∥₁
stands_more S o p c d xs ys e x is same goes s =
    let P : Options → Type 0 = λ q. S q d (history ys) in
    let Q : List Step → Type 0 = λ hs. S o d hs in
    ∥∥₁_map s (λ t. subst P (sym same) (subst Q (sym (history_more xs ys e x is)) (goes o (history xs) t)))

-- what a client stands for is legal
pub legal_of : {C : Type 0} (good : Options → List Step → Type 0) (S : Options → C → List Step → Type 0) (legal : (o : Options) (c : C) (h : List Step) → S o c h → good o h) (o : Options) (c : C) (h : List Step) → ∥ S o c h ∥₁ → ∥ good o h ∥₁
legal_of good S legal o c h s = ∥∥₁_map s (λ t. legal o c h t)

-- the trace is legal behind an entry that was tried
pub made_legal : {C : Type 0} (good : Options → List Step → Type 0) (S : Options → C → List Step → Type 0) (legal : (o : Options) (c : C) (h : List Step) → S o c h → good o h) (r : Result Receipt NoMemory) (o p : Options) (c d : C) (xs ys : List (Event × Vec Effect)) (k e : Event) (x : List Effect) →
    heard k ≡ heard e → p ≡ o → ((q : Options) (h : List Step) → S q c h → S q d (step e x ∷ h)) → ∥ S o c (history xs) ∥₁ → ∥ good o (history xs) ∥₁ →
    OnOk r (steps ys ≡ steps xs ++ step k x ∷ []) → OnErr r (ys ≡ xs) → ∥ good p (history ys) ∥₁
made_legal good S legal (Ok r) o p c d xs ys k e x h same goes s was entry unchanged =
    legal_of good S legal p d (history ys) (stands_more S o p c d xs ys e x (entry_same (steps xs) (steps ys) k e x x entry h refl) same goes s)
made_legal good S legal (Err r) o p c d xs ys k e x h same goes s was entry unchanged =
    subst (λ (q : Options). ∥ good q (history ys) ∥₁) (sym same) (subst (λ (zs : List (Event × Vec Effect)). ∥ good o (history zs) ∥₁) (sym unchanged) was)

-- where it is busy nothing is said of its client
pub while_busy : {C : Type 0} (S : Options → C → List Step → Type 0) (o : Options) (c : C) (h : List Step) (failed : Bool) → failed ≡ true → failed ≡ false → ∥ S o c h ∥₁
while_busy S o c h failed busy clear = absurd cc

-- WHAT A DESK HAD

module _ (good : Options → List Step → Type 0) (o p : Options) (opening total amount : ℕ) (xs : List (Event × Vec Effect)) (same : o ≡ p) (was : ∥ good o (history xs) ∥₁) (counted : length xs ≡ opening + total) (bound : amount ≤ total) where
  pub had : Had good p (opening + amount) (steps xs)
  had = record {
    legal = subst (λ (q : Options). ∥ good q (history xs) ∥₁) same was;
    long = omega (arith, counted, bound, length-map xs step_of);
  }

  pub since_had : {E : Type 0} (r : Result (Vec (Event × Vec Effect)) E) (from : ℕ) → IfOk r (λ v. steps v.items ≡ steps (drop from xs)) →
      IfOk r (λ v. (ss : List Step) × Had good p (opening + amount) ss × (steps v.items ≡ drop from ss))
  since_had (Ok v) from is = (steps xs, had, is ∙ sym (drop-map step_of from xs))
  since_had (Err e) from is = tt

  pub ended_had : {E : Type 0} (says : Options → List Step → ℕ → Bool → Type 0) (r : Result Bool E) (link : ℕ) → IfOk r (λ b. says o (history xs) link b) → IfOk r (λ b. (ss : List Step) × Had good p (opening + amount) ss × says p (reverse ss) link b)
  ended_had says (Ok b) link is = (steps xs, had, subst (λ (q : Options). says q (history xs) link b) same is)
  ended_had says (Err e) link is = tt

  pub news_had : (from : ℕ) (b : Bool) → b ≡ has_news (steps (drop from xs)) → b ≡ true → (ss : List Step) × Had good p (opening + amount) ss × (has_news (drop from ss) ≡ true)
  news_had from b is yes_news = (steps xs, had, ap has_news (drop-map step_of from xs) ∙ (sym is ∙ yes_news))

  pub submitted_had : (ys : List (Event × Vec Effect)) (q : Options) (e : Event) (r : Receipt) → q ≡ o → ∥ good q (history ys) ∥₁ → steps ys ≡ steps xs ++ step e r.effects.items ∷ [] → r.index ≡ length xs →
      (ss : List Step) × Had good p (opening + amount) ss × (r.index ≡ length ss) × Legal good p (ss ++ step e r.effects.items ∷ [])
  submitted_had ys q e r new there is index =
      let P : List Step → Type 0 = λ ss. ∥ good p (reverse ss) ∥₁ in
      let at : ∥ good p (history ys) ∥₁ = subst (λ (z : Options). ∥ good z (history ys) ∥₁) (new ∙ same) there in
      (steps xs, had, omega (arith, index, length-map xs step_of), subst P is at)

-- A LIST WITH ITS PLACES

numbered_more : (n : ℕ) (ss : List Step) (s : Step) (k : ℕ) → k ≡ n + length ss → numbered n (ss ++ s ∷ []) ≡ numbered n ss ++ record { index = k; event = s.event; effects = s.effects } ∷ []
numbered_more n [] s k e = ap (λ i. record { index = i; event = s.event; effects = s.effects } ∷ []) (let is : n ≡ k = omega (arith, e) in is)
numbered_more n (x ∷ xs) s k e = ap (λ z. record { index = n; event = x.event; effects = x.effects } ∷ z) (numbered_more (n + 1) xs s k (omega (arith, e)))

-- what a traced client tells
pub told_more : (r : Result Receipt NoMemory) (e : Event) (old new : List (Event × Vec Effect)) → IfOk r (λ x. steps new ≡ steps old ++ step e x.effects.items ∷ []) → IfOk r (λ x. x.index ≡ length old) →
    IfOk r (λ x. Grows (Some (numbered 0 (steps old))) (Some (numbered 0 (steps new))) (made_by e x ∷ []))
told_more (Ok x) e old new entry index = (
  λ xs is. (let same : numbered 0 (steps old) ≡ xs = cc in
      let at : x.index ≡ 0 + length (steps old) = omega (arith, index, length-map old step_of) in
      ap Some (ap (numbered 0) entry ∙ (numbered_more 0 (steps old) (step e x.effects.items) x.index at ∙ ap (λ z. z ++ made_by e x ∷ []) same))),
  λ none. absurd cc,
)
told_more (Err x) e old new entry index = tt
