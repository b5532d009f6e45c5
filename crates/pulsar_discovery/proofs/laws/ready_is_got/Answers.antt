use Rattle.pulsar_discovery.proofs.Whole.{ready_is_got}
use Rattle.pulsar_discovery.proofs.laws.ready_is_got.Goals as goal

pub returns : goal.returns
returns c = ready_is_got
