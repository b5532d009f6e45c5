use Rattle.pulsar_laws.proofs.producers.EachOnce.{each_sent_once_lem}
use Rattle.pulsar_laws.proofs.batches.each_sent_once.Goals as goal

pub returns : goal.returns
returns c = λ o log t run. each_sent_once_lem o log t run
