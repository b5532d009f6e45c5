use Rattle.pulsar_broker.proofs.Orders.{serves_next}
use Rattle.pulsar_broker.proofs.laws.serves_in_order.Goals as goal

pub returns : goal.returns
returns c = serves_next
