use Rattle.pulsar_laws.proofs.calls.Stopping.{none_after_stop_lem}
use Rattle.pulsar_laws.proofs.runs.none_after_stop.Goals as goal

pub returns : goal.returns
returns c = λ o log p starter n run. none_after_stop_lem o log p starter n run
