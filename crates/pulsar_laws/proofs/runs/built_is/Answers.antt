use Rattle.pulsar_laws.proofs.calls.Built.{built_is_lem}
use Rattle.pulsar_laws.proofs.runs.built_is.Goals as goal

pub returns : goal.returns
returns c = λ o log. built_is_lem o log
