use Rattle.pulsar_laws.proofs.producers.BatchRun.{batches_one_by_one_lem}
use Rattle.pulsar_laws.proofs.batches.batches_one_by_one.Goals as goal

pub returns : goal.returns
returns c = λ o log n m run. batches_one_by_one_lem o log n m run
