use Rattle.pulsar_consumer.proofs.Counted.{permits_are_counted}
use Rattle.pulsar_consumer.proofs.Granting.{permits_in_bounds, raw_asks_for_nothing}
use Rattle.pulsar_consumer.proofs.laws.permits_in_bounds.Goals as goal

pub returns-clause-bounds : goal.returns-clause-bounds
returns-clause-bounds c = permits_in_bounds

pub returns-clause-raw : goal.returns-clause-raw
returns-clause-raw c = raw_asks_for_nothing

pub returns-clause-counted : goal.returns-clause-counted
returns-clause-counted c = permits_are_counted
