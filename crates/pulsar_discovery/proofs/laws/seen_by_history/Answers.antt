use Rattle.pulsar_discovery.proofs.Whole.{seen_by_history}
use Rattle.pulsar_discovery.proofs.laws.seen_by_history.Goals as goal

pub returns : goal.returns
returns c = seen_by_history
