-- What a plan does at what it is told.
use Rattle.pulsar_searches.specs.declared.transition.Transition.{Transition}
use Rattle.pulsar_calls.specs.declared.act.Action.{Action}
use Rattle.pulsar_calls.specs.declared.act.Verdict.{Verdict}
use Rattle.pulsar_plans.specs.declared.plan.Plan.{Plan}

abbrev pub PlanTransition : Type 0
PlanTransition = Transition Plan Action Verdict
