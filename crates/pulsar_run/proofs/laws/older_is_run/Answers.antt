use Rattle.pulsar_run.proofs.Unique.{older_run}
use Rattle.pulsar_run.proofs.laws.older_is_run.Goals as goal

pub returns : goal.returns
returns g c = λ r o newer older p. older_run r o newer older p
