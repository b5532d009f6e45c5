use Rattle.pulsar_laws.proofs.plans.Led.{deeds_follow_lem}
use Rattle.pulsar_laws.proofs.runs.deeds_follow.Goals as goal

pub returns : goal.returns
returns c = λ o log w d run. deeds_follow_lem o log w d run
