use Rattle.pulsar_discovery.proofs.Whole.{history_goes_on}
use Rattle.pulsar_discovery.proofs.laws.history_goes_on.Goals as goal

pub returns : goal.returns
returns c = history_goes_on
