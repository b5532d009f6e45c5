use Rattle.pulsar_laws.proofs.Instances.{determined_lem}
use Rattle.pulsar_laws.proofs.runs.determined.Goals as goal

pub returns : goal.returns
returns c = λ o h h' p q e. determined_lem o h h' p q e
