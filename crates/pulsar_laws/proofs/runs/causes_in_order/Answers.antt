use Rattle.pulsar_laws.proofs.Instances.{causes_in_order_lem}
use Rattle.pulsar_laws.proofs.runs.causes_in_order.Goals as goal

pub returns : goal.returns
returns c = λ o log. causes_in_order_lem o log
