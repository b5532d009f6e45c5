use Rattle.pulsar_laws.proofs.calls.Settled.{stored_ends_lem}
use Rattle.pulsar_laws.proofs.batches.stored_ends_by_its_batch.Goals as goal

pub returns : goal.returns
returns c = λ o log t n share x v run s. stored_ends_lem o log t n share x v run s
