use Rattle.pulsar_broker.proofs.Leaving.{ends_closed}
use Rattle.pulsar_broker.proofs.laws.ends_as_if_closed.Goals as goal

pub returns : goal.returns
returns c = ends_closed
