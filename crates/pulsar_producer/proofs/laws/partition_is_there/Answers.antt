use Rattle.pulsar_producer.proofs.Routes.{partition_is_there}
use Rattle.pulsar_producer.proofs.laws.partition_is_there.Goals as goal

pub returns : goal.returns
returns c = partition_is_there
