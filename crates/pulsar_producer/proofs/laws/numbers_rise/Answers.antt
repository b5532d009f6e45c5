use Rattle.pulsar_producer.proofs.Numbers.{numbers_count, numbers_rise}
use Rattle.pulsar_producer.proofs.laws.numbers_rise.Goals as goal

pub returns-clause-rise : goal.returns-clause-rise
returns-clause-rise c = numbers_rise

pub returns-clause-count : goal.returns-clause-count
returns-clause-count c = numbers_count
