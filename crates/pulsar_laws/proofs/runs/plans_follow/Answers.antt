use Rattle.pulsar_laws.proofs.plans.Follow.{plans_follow_lem}
use Rattle.pulsar_laws.proofs.runs.plans_follow.Goals as goal

pub returns : goal.returns
returns c = λ o log w p r rests h. plans_follow_lem o log w p r rests h
