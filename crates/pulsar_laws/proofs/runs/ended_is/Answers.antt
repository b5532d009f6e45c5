use Rattle.pulsar_laws.proofs.links.Ending.{ended_is_lem}
use Rattle.pulsar_laws.proofs.runs.ended_is.Goals as goal

pub returns : goal.returns
returns c = λ o log l. ended_is_lem o log l
