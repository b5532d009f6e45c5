use Rattle.pulsar_run.proofs.Effects.{effects_arranged_lem}
use Rattle.pulsar_run.proofs.laws.effects_arranged.Goals as goal

pub returns : goal.returns
returns g c = λ r o log k. effects_arranged_lem _ _ _ _ _ _ _ r o log k
