use Rattle.std.proofs.Common.{◌≡◌, ◌∙◌, ◌==◌, ap, subst, sym, true, cond, Option, Some, None, inl, inr}
use Rattle.std.proofs.lemmas.Bool.{and_parts, cases_Bool, eqb-true}
use Rattle.std.proofs.lemmas.Result.{on_ok_weaker}
use Rattle.pulsar_calls.specs.declared.act.Act.TheVariants.{Told}
use Rattle.pulsar_calls.specs.declared.act.Outcome.{Outcome}
use Rattle.pulsar_calls.specs.declared.act.Verdict.{Verdict}
use Rattle.pulsar_calls.specs.declared.act.Who.{Who}
use Rattle.pulsar_calls.specs.declared.act.Who.TheVariants.{Call, Consumer, Producer}
use Rattle.pulsar_plans.specs.declared.plan.Plan.{Plan}
use Rattle.pulsar_plans.specs.Plan.{told}
use Rattle.pulsar_calls.specs.Notices.{notice}
use Rattle.pulsar_acts.specs.Tables.{view_of}
use Rattle.pulsar_plans.specs.Standing.{stand_of}
use Rattle.pulsar_acts.specs.View.{stand_after, stays, stays_some, told_some}
use Rattle.pulsar_calls.specs.Who.{is_same}
use Rattle.pulsar_acts.proofs.tables.Tables.told.Goals as goal
use Rattle.pulsar_plans.specs.Transitions.{PlanTransition}

same : (w who : Who) → is_same w who ≡ true → w ≡ who
same (Call t) (Call u) h = ap (λ n. Call n) (eqb-true t u (and_parts (t == u) (t == u) h).0)
same (Consumer m t) (Consumer n u) h =
    let parts = and_parts (m == n) (t == u) h in λ i. Consumer (eqb-true m n parts.0 i) (eqb-true t u parts.1 i)
same (Producer m) (Producer n) h = ap (λ n. Producer n) (eqb-true m n (and_parts (m == n) true h).0)
same _ _ h = absurd cc

-- the plan that was taken out stands where its turn leaves it
stands : (old taken new : Who → Option Plan) (who : Who) (plan : Plan) (o : Outcome) (turn : PlanTransition) →
    Some plan ≡ old who → turn ≡ told plan o → ((w : Who) → taken w ≡ cond (is_same w who) None (old w)) →
    ((w : Who) → new w ≡ cond (is_same w who) (stays turn) (taken w)) → (w : Who) → new w ≡ stand_after (Told (notice who o)) w (old w)
stands old taken new who plan o turn was is left set w =
    set w
    ∙ elim (cases_Bool (is_same w who)) [
      | inl e ↦
          subst (λ b. cond b (stays turn) (taken w) ≡ cond b (stays_some (told_some (old w) o)) (old w)) (sym e)
          (ap stays is ∙ ap (λ p. stays_some (told_some p o)) (was ∙ sym (ap old (same w who e))))
      | inr e ↦
          subst (λ b. cond b (stays turn) (taken w) ≡ cond b (stays_some (told_some (old w) o)) (old w)) (sym e)
          (left w ∙ ap (λ b. cond b None (old w)) e)
    ]

pub returns-clause-sees : goal.returns-clause-sees
returns-clause-sees c =
    let v = view_of c.args.self.now in
    on_ok_weaker c.follow.result (λ set. λ i. record v {
      stand = λ w. stands v.stand (stand_of c.remove.new.self) (stand_of c.follow.new.plans) c.args.who c.in-Some.plan c.args.outcome c.in_ok-turn.turn
          c.in-Some.ensures.plan c.in_ok-turn.ensures c.in-Some.ensures.left set w i;
    }) c.follow.ensures.stand
