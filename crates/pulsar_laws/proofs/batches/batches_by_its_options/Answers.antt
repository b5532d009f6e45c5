use Rattle.pulsar_laws.proofs.producers.Limits.{batches_by_its_options_lem}
use Rattle.pulsar_laws.proofs.batches.batches_by_its_options.Goals as goal

pub returns : goal.returns
returns c = λ o log n row run h. batches_by_its_options_lem o log n row run h
