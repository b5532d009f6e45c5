-- A call that gathers its parts does nothing by itself.
use Rattle.std.proofs.Common.{Bool, ◌≡◌, inl, inr, ◌∙◌, sym, ap, subst, ℕ, ◌+◌, ◌≤◌, arith, List, [], ◌∷◌, refl, true, false, Some}
use Rattle.std.proofs.lemmas.Bool.{cases_Bool}
use Rattle.pulsar_laws.proofs.ActWords.{Act, Action, Call, Does, is_same, Outcome, Procedure, Rest, Starts, Who}
use Rattle.pulsar_laws.proofs.PlanWords.{Plan}
use Rattle.pulsar_laws.proofs.RunWords.{Begins, counted, Entry, IsRun, Options, start_of, started, Then, view}
use Rattle.pulsar_calls.specs.declared.act.Procedure.TheVariants as procedure
use Rattle.pulsar_plans.proofs.Arcs.{Arc, Begun, begins_gather, begun_arc, gathers_on, told_arc}
use Rattle.pulsar_laws.proofs.plans.Standing.{stands_so}
use Rattle.pulsar_laws.proofs.calls.Same.{same_self}
use Rattle.pulsar_laws.proofs.plans.Follow.{same_is}
use Rattle.pulsar_laws.proofs.plans.Granted.{BeginsSo, IsLedSo, does_from}
use Rattle.pulsar_laws.proofs.plans.Natures.{is_gathering}
use Rattle.pulsar_laws.proofs.plans.Spots.{same_self}

-- A CALL THAT GATHERS DOES NOTHING

-- it rests, whenever it does something
abbrev pub MuteBy : ℕ → Act → Type 0
MuteBy t (Does who a) = is_same (Call t) who ≡ true → a ≡ Rest
MuteBy t _ = Unit {0}

abbrev pub Mute : ℕ → List Entry → Type 0
Mute t [] = Unit {0}
Mute t (Begins e ∷ log) = Mute t log
Mute t (Then a ∷ log) = MuteBy t a × Mute t log

pub mute_older : (t : ℕ) (e : Entry) (older : List Entry) → Mute t (e ∷ older) → Mute t older
mute_older t (Begins e) older k = k
mute_older t (Then a) older k = k.1

-- whatever starts by this ticket is this
abbrev pub StartsBy : ℕ → Procedure → Act → Type 0
StartsBy t p (Starts who q) = is_same (Call t) who ≡ true → q ≡ p
StartsBy t p _ = Unit {0}

abbrev pub OnlyStarts : ℕ → Procedure → List Entry → Type 0
OnlyStarts t p [] = Unit {0}
OnlyStarts t p (Begins e ∷ log) = OnlyStarts t p log
OnlyStarts t p (Then a ∷ log) = StartsBy t p a × OnlyStarts t p log

pub not_same : {X : Type 0} (t : ℕ) (who : Who) → is_same (Call t) who ≡ false → is_same (Call t) who ≡ true → X
not_same t who e f = let g : false ≡ true = sym e ∙ f in absurd cc

pub no_start : (t : ℕ) (p : Procedure) (log : List Entry) → counted (start_of t) log ≡ 0 → OnlyStarts t p log
no_start t p [] h = tt
no_start t p (Begins e ∷ log) h = no_start t p log h
no_start t p (Then (Starts who q) ∷ log) h = elim (cases_Bool (is_same (Call t) who)) [
  | inl e ↦ (let n : ℕ = counted (start_of t) log in let f : n + 1 ≡ 0 = rw e at h in absurd (let g : ⊥ = omega (arith, f) in g))
  | inr e ↦ (let n : ℕ = counted (start_of t) log in let f : n + 0 ≡ 0 = rw e at h in (not_same t who e, no_start t p log (omega (arith, f))))
]
no_start t p (Then a ∷ log) h = (tt, no_start t p log (let n : ℕ = counted (start_of t) log in let f : n + 0 ≡ 0 = h in omega (arith, f)))

pub only_start : (t : ℕ) (p : Procedure) (log : List Entry) → started (Call t) log ≡ Some p → counted (start_of t) log ≤ 1 → OnlyStarts t p log
only_start t p [] h k = tt
only_start t p (Begins e ∷ log) h k = only_start t p log h k
only_start t p (Then (Starts who q) ∷ log) h k = elim (cases_Bool (is_same (Call t) who)) [
  | inl e ↦
      (let f : Some q ≡ Some p = rw e at h in
      let is : q ≡ p = cc in
      let n : ℕ = counted (start_of t) log in
      let g : n + 1 ≤ 1 = rw e at k in
      ((λ s. is), no_start t p log (omega (arith, g))))
  | inr e ↦
      (let n : ℕ = counted (start_of t) log in
      let g : n + 0 ≤ 1 = rw e at k in
      (not_same t who e, only_start t p log (rw e at h) (omega (arith, g))))
]
only_start t p (Then a ∷ log) h k = (tt, only_start t p log h (let n : ℕ = counted (start_of t) log in let f : n + 0 ≤ 1 = k in omega (arith, f)))

-- A PLAN THAT GATHERS goes on so, and rests

abbrev is_gather : Procedure → Bool
is_gather (procedure.Gather first count) = true
is_gather _ = false

arc_gathers : {p q : Plan} {u : Outcome} {a : Action} → Arc p u q a → is_gathering p ≡ true → (is_gathering q ≡ true) × (a ≡ Rest)
arc_gathers gathers_on h = (refl, refl)
arc_gathers _ h = absurd cc

begun_gathers : {p : Procedure} {q : Plan} {a : Action} → Begun p q a → is_gather p ≡ true → (is_gathering q ≡ true) × (a ≡ Rest)
begun_gathers begins_gather h = (refl, refl)
begun_gathers _ h = absurd cc

module _ (o : Options) (t first count : ℕ) where
  abbrev it : Procedure
  it = procedure.Gather first count

  is_it : (log : List Entry) (p : Procedure) → OnlyStarts t it (Then (Starts (Call t) p) ∷ log) → is_gather p ≡ true
  is_it log p k = ap is_gather (k.0 (same_self (Call t)))

  older_only : (e : Entry) (log : List Entry) → OnlyStarts t it (e ∷ log) → OnlyStarts t it log
  older_only (Begins e) log k = k
  older_only (Then a) log k = k.1

  gathers_at : (log : List Entry) (q : Plan) → OnlyStarts t it log → (view o log).stand (Call t) ≡ Some q → is_gathering q ≡ true
  gathers_at =
      stands_so o (Call t) (OnlyStarts t it) older_only (λ log q. is_gathering q ≡ true) (λ e log q m r s k. k)
      (λ log p q a r e. (begun_gathers (begun_arc e) (is_it log p r)).0) (λ log b u q a r s k e. (arc_gathers (told_arc e) k).0)

  does_rest : (log : List Entry) (a : Action) → IsRun o (Then (Does (Call t) a) ∷ log) → OnlyStarts t it log → a ≡ Rest
  does_rest log a run k = elim (does_from o log (Call t) a run) [ inl b ↦ begun b | inr l ↦ led l ]
    where
      begun : BeginsSo o log (Call t) a → a ≡ Rest
      begun b = (begun_gathers (begun_arc b.leads) (is_it b.older b.procedure (subst (OnlyStarts t it) b.is_there k))).1

      led : IsLedSo o log (Call t) a → a ≡ Rest
      led l = (arc_gathers (told_arc l.leads) (gathers_at l.older l.before (subst (OnlyStarts t it) l.is_there k).1 l.stood)).1

  mute_by : (log : List Entry) (a : Act) → IsRun o (Then a ∷ log) → OnlyStarts t (procedure.Gather first count) log → MuteBy t a
  mute_by log (Does who a) run k = λ same.
      does_rest log a (subst (λ w. IsRun o (Then (Does w a) ∷ log)) (sym (same_is (Call t) who same)) run) k
  mute_by log _ run k = tt

  pub mute_run : (log : List Entry) → IsRun o log → OnlyStarts t (procedure.Gather first count) log → Mute t log
  mute_run [] run k = tt
  mute_run (Begins e ∷ log) run k = mute_run log run.0 k
  mute_run (Then a ∷ log) run k = (mute_by log a run k.1, mute_run log run.0 k.1)
