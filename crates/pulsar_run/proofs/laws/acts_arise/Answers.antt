use Rattle.pulsar_run.proofs.Arising.{acts_arise_lem}
use Rattle.pulsar_run.proofs.laws.acts_arise.Goals as goal

pub returns : goal.returns
returns g c = λ r o a log run. acts_arise_lem _ _ _ _ _ _ _ r o a log run
