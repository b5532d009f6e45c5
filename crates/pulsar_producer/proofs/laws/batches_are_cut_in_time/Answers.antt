use Rattle.pulsar_producer.proofs.Cutting.{cut_in_time, flush_is_last}
use Rattle.pulsar_producer.proofs.laws.batches_are_cut_in_time.Goals as goal

pub returns-clause-cut : goal.returns-clause-cut
returns-clause-cut c = cut_in_time

pub returns-clause-flush : goal.returns-clause-flush
returns-clause-flush c = flush_is_last
