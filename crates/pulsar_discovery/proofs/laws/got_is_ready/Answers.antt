use Rattle.pulsar_discovery.proofs.Whole.{got_is_ready}
use Rattle.pulsar_discovery.proofs.laws.got_is_ready.Goals as goal

pub returns : goal.returns
returns c = got_is_ready
