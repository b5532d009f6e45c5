use Rattle.pulsar_laws.proofs.producers.Rise.{numbers_of_all_frames_rise_lem}
use Rattle.pulsar_laws.proofs.batches.numbers_of_batches_rise.Goals as goal

pub returns : goal.returns
returns c = λ o newer older x y n r s run first second. numbers_of_all_frames_rise_lem o newer older x y n r s run first second
