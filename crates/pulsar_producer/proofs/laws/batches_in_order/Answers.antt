use Rattle.pulsar_producer.proofs.Cutting.{batches_in_order, items_in_order}
use Rattle.pulsar_producer.proofs.laws.batches_in_order.Goals as goal

pub returns-clause-batches : goal.returns-clause-batches
returns-clause-batches c = batches_in_order

pub returns-clause-items : goal.returns-clause-items
returns-clause-items c = items_in_order
