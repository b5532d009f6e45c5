use Rattle.pulsar_run.proofs.Unique.{determined_lem}
use Rattle.pulsar_run.proofs.laws.determined.Goals as goal

pub returns : goal.returns
returns g c = λ r o h h' p q e. determined_lem r o h h' p q e
