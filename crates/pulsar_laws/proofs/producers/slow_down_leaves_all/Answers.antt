use Rattle.pulsar_laws.proofs.calls.Slow.{slow_down_lem}
use Rattle.pulsar_laws.proofs.producers.slow_down_leaves_all.Goals as goal

pub returns : goal.returns
returns c = λ o log who l request h. slow_down_lem o log who l request h
