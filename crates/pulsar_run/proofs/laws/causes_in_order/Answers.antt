use Rattle.pulsar_run.proofs.Effects.{causes_in_order_lem}
use Rattle.pulsar_run.proofs.laws.causes_in_order.Goals as goal

pub returns : goal.returns
returns g c = λ r o log k. causes_in_order_lem _ _ _ _ _ _ _ r o log k
