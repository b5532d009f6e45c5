use Rattle.pulsar_laws.proofs.Instances.{effects_arranged_lem}
use Rattle.pulsar_laws.proofs.runs.effects_arranged.Goals as goal

pub returns : goal.returns
returns c = λ o log. effects_arranged_lem o log
