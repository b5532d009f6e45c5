use Rattle.pulsar_frame.proofs.Batches.{batch-again}
use Rattle.pulsar_frame.proofs.batch.laws.batches_read_back.Goals as goal

pub returns : goal.returns
returns c = batch-again
