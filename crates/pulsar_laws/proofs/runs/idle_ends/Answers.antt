use Rattle.pulsar_laws.proofs.links.Deadlines.{idle_ends_lem}
use Rattle.pulsar_laws.proofs.runs.idle_ends.Goals as goal

pub returns : goal.returns
returns c = λ o log l run. idle_ends_lem o log l run
