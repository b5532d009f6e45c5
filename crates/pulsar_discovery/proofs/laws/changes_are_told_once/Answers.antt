use Rattle.pulsar_discovery.proofs.Whole.{changes_are_told_once}
use Rattle.pulsar_discovery.proofs.laws.changes_are_told_once.Goals as goal

pub returns : goal.returns
returns c = changes_are_told_once
