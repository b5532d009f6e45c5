use Rattle.pulsar_laws.proofs.calls.Once.{ends_once_lem}
use Rattle.pulsar_laws.proofs.runs.ends_once.Goals as goal

pub returns : goal.returns
returns c = λ o log t run. ends_once_lem o log t run
