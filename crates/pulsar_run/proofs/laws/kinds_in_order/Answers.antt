use Rattle.pulsar_run.proofs.Orders.{kinds_in_order_lem}
use Rattle.pulsar_run.proofs.laws.kinds_in_order.Goals as goal

pub returns : goal.returns
returns g c = λ below test xs o k. kinds_in_order_lem _ below test xs o k
