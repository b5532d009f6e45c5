use Rattle.pulsar_laws.proofs.producers.Flushing.{flushes_wait_lem}
use Rattle.pulsar_laws.proofs.batches.flushes_wait.Goals as goal

pub returns : goal.returns
returns c = λ o log n t ns items run way i. flushes_wait_lem o log n t ns items run way i
