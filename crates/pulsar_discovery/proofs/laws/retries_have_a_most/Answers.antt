use Rattle.pulsar_discovery.proofs.Whole.{retries_have_a_most}
use Rattle.pulsar_discovery.proofs.laws.retries_have_a_most.Goals as goal

pub returns : goal.returns
returns c = retries_have_a_most
