use Rattle.pulsar_producer.proofs.Numbers.{refused_spends}
use Rattle.pulsar_producer.proofs.laws.refused_spends_its_number.Goals as goal

pub returns : goal.returns
returns c = refused_spends
