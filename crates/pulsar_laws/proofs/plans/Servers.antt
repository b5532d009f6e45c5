-- The plan of a consumer is the one that serves it, and does only what such a plan does.
use Rattle.std.proofs.Common.{inl, inr, subst, List, ◌≡◌, ◌∙◌, sym, ap, subst, ℕ, List, ◌∷◌, refl, Bool, true, false, Some}
use Rattle.pulsar_laws.proofs.ActWords.{Action, Consumer, Does, Nothing, Outcome, Procedure, Starts, Verdict}
use Rattle.pulsar_laws.proofs.PlanWords.{begins, Gives, Plan, told}
use Rattle.pulsar_laws.proofs.RunWords.{Entry, IsRun, Options, Then, view}
use Rattle.pulsar_calls.specs.declared.act.Procedure.TheVariants as procedure
pub use Rattle.pulsar_plans.proofs.Arcs.{is_server}
use Rattle.pulsar_laws.proofs.plans.Granted.{BeginsSo, IsLedSo, does_from}
use Rattle.pulsar_laws.proofs.plans.Consuming.{is_modest}
use Rattle.pulsar_plans.proofs.Arcs.{Begun, begins_serve, begun_arc, told_arc, Arc, End, ends, flowed_takes, over, told_end}
use Rattle.pulsar_laws.proofs.plans.Standing.{run_older, stands_so, starts_so}

abbrev is_serve : Procedure → Bool
is_serve (procedure.Serve ways number) = true
is_serve _ = false

-- PLANS

-- it stays one, and does what such a plan does
abbrev pub IsServer : Plan → Action → Type 0
IsServer plan action = (is_server plan ≡ true) × (is_modest action ≡ true)

arc_server : {p q : Plan} {u : Outcome} {a : Action} → Arc p u q a → is_server p ≡ true → IsServer q a
arc_server flowed_takes h = (refl, refl)
arc_server _ h = (cc, cc)

-- it makes nothing
end_makes : {p : Plan} {u : Outcome} {v : Verdict} → End p u v → is_server p ≡ true → v.makes ≡ Nothing
end_makes over h = refl
end_makes (ends x n) h = refl
end_makes _ h = absurd cc

pub server_gives : (plan : Plan) (u : Outcome) (v : Verdict) → is_server plan ≡ true → told plan u ≡ Gives v → v.makes ≡ Nothing
server_gives plan u v h e = end_makes (told_end e) h

-- ALONG A LOG

begun_server : {p : Procedure} {q : Plan} {a : Action} → Begun p q a → is_serve p ≡ true → IsServer q a
begun_server begins_serve h = (refl, refl)
begun_server _ h = absurd cc

module _ (o : Options) (n t : ℕ) where
  starts_serve : (log : List Entry) (p : Procedure) → IsRun o (Then (Starts (Consumer n t) p) ∷ log) → is_serve p ≡ true
  starts_serve log p run = ap is_serve (starts_so o log (Consumer n t) p run).1

  stands : (log : List Entry) (q : Plan) → IsRun o log → (view o log).stand (Consumer n t) ≡ Some q → is_server q ≡ true
  stands =
      stands_so o (Consumer n t) (IsRun o) (run_older o) (λ log q. is_server q ≡ true) (λ e log q m r s k. k)
      (λ log p q a r e. (begun_server (begun_arc e) (starts_serve log p r)).0) (λ log b u q a r s k e. (arc_server (told_arc e) k).0)

pub server_stands : (o : Options) (log : List Entry) (n t : ℕ) (plan : Plan) → IsRun o log → (view o log).stand (Consumer n t) ≡ Some plan →
    is_server plan ≡ true
server_stands o log n t plan run h = stands o n t log plan run h

pub serve_goes_on : (o : Options) (log : List Entry) (n t : ℕ) (p : Procedure) (v : Verdict) → IsRun o (Then (Starts (Consumer n t) p) ∷ log) →
    begins p ≡ Gives v → ⊥
serve_goes_on o log n t p v run e =
    let k = starts_so o log (Consumer n t) p run in let f : begins (procedure.Serve k.0 n) ≡ Gives v = ap begins (sym k.1) ∙ e in absurd cc

-- whatever it does touches no producer
pub server_does : (o : Options) (log : List Entry) (n t : ℕ) (action : Action) → IsRun o (Then (Does (Consumer n t) action) ∷ log) →
    is_modest action ≡ true
server_does o log n t action run = elim (does_from o log (Consumer n t) action run) [ inl k ↦ begun k | inr k ↦ led k ]
  where
    begun : BeginsSo o log (Consumer n t) action → is_modest action ≡ true
    begun k = (begun_server (begun_arc k.leads) (starts_serve o n t k.older k.procedure (subst (IsRun o) k.is_there run.0))).1

    led : IsLedSo o log (Consumer n t) action → is_modest action ≡ true
    led k = (arc_server (told_arc k.leads) (stands o n t k.older k.before (subst (IsRun o) k.is_there run.0).0 k.stood)).1
