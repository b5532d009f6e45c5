use Rattle.pulsar_laws.proofs.producers.Since.{receipts_of_batches_lem}
use Rattle.pulsar_laws.proofs.batches.receipts_of_batches.Goals as goal

pub returns : goal.returns
returns c = λ o log n r run body. receipts_of_batches_lem o log n r run body
