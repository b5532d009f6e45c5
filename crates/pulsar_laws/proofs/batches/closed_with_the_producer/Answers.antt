use Rattle.pulsar_laws.proofs.producers.Closed.{closed_with_the_producer_lem}
use Rattle.pulsar_laws.proofs.batches.closed_with_the_producer.Goals as goal

pub returns : goal.returns
returns c = λ o newer older who t n ticket run rests acts h. closed_with_the_producer_lem o newer older who t n ticket run rests acts h
