use Rattle.pulsar_laws.proofs.links.Deadlines.{alarms_are_ticked_lem}
use Rattle.pulsar_laws.proofs.runs.alarms_are_ticked.Goals as goal

pub returns : goal.returns
returns c = λ o log a run. alarms_are_ticked_lem o log a run
