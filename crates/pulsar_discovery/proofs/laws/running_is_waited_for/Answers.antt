use Rattle.pulsar_discovery.proofs.Whole.{running_is_waited_for}
use Rattle.pulsar_discovery.proofs.laws.running_is_waited_for.Goals as goal

pub returns : goal.returns
returns c = running_is_waited_for
