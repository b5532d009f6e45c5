use Rattle.pulsar_laws.proofs.links.Deadlines.{keep_alive_pings_lem}
use Rattle.pulsar_laws.proofs.runs.keep_alive_pings.Goals as goal

pub returns : goal.returns
returns c = λ o log l run. keep_alive_pings_lem o log l run
