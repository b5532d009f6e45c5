use Rattle.pulsar_laws.proofs.producers.BatchFrames.{frames_of_batches_lem}
use Rattle.pulsar_laws.proofs.batches.frames_of_batches.Goals as goal

pub returns : goal.returns
returns c = λ o log n l k s name m block run. frames_of_batches_lem o log n l k s name m block run
