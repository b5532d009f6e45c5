use Rattle.pulsar_laws.proofs.links.Ticks.{ticks_in_order_lem}
use Rattle.pulsar_laws.proofs.runs.ticks_in_order.Goals as goal

pub returns : goal.returns
returns c = λ o log now. ticks_in_order_lem o log now
