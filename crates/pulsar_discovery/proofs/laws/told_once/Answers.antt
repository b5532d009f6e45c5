use Rattle.pulsar_discovery.proofs.Once.{told_once}
use Rattle.pulsar_discovery.proofs.laws.told_once.Goals as goal

pub returns : goal.returns
returns c = told_once
