use Rattle.pulsar_discovery.proofs.Retried.{retries_are_waited_for}
use Rattle.pulsar_discovery.proofs.laws.retries_are_waited_for.Goals as goal

pub returns : goal.returns
returns c = retries_are_waited_for
