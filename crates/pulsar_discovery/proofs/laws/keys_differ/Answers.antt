use Rattle.pulsar_discovery.proofs.KeyTexts.{keys_differ}
use Rattle.pulsar_discovery.proofs.laws.keys_differ.Goals as goal

pub returns : goal.returns
returns c = keys_differ
