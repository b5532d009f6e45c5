use Rattle.pulsar_laws.proofs.links.Newest.{clock_is_lem}
use Rattle.pulsar_laws.proofs.runs.clock_is.Goals as goal

pub returns : goal.returns
returns c = λ o log. clock_is_lem o log
