use Rattle.pulsar_laws.proofs.calls.Built.{stopped_is_lem}
use Rattle.pulsar_laws.proofs.runs.stopped_is.Goals as goal

pub returns : goal.returns
returns c = λ o log. stopped_is_lem o log
