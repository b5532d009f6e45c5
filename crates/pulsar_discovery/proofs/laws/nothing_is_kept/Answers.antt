use Rattle.pulsar_discovery.proofs.Whole.{nothing_is_kept}
use Rattle.pulsar_discovery.proofs.laws.nothing_is_kept.Goals as goal

pub returns : goal.returns
returns c = nothing_is_kept
