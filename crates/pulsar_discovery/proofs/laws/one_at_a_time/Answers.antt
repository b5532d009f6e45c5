use Rattle.pulsar_discovery.proofs.Whole.{one_at_a_time}
use Rattle.pulsar_discovery.proofs.laws.one_at_a_time.Goals as goal

pub returns : goal.returns
returns c = one_at_a_time
