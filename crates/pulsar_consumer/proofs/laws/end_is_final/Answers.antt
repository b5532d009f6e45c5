use Rattle.pulsar_consumer.proofs.Histories.{end_is_final}
use Rattle.pulsar_consumer.proofs.laws.end_is_final.Goals as goal

pub returns : goal.returns
returns c = end_is_final
