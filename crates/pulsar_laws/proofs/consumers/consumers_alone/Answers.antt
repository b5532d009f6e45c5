use Rattle.pulsar_laws.proofs.consumers.Lone.{consumers_alone_lem}
use Rattle.pulsar_laws.proofs.calls.Once.{ends_once_lem}
use Rattle.pulsar_laws.proofs.consumers.consumers_alone.Goals as goal

pub returns : goal.returns
returns c = λ o log t m run is. consumers_alone_lem ends_once_lem o log t m run is
