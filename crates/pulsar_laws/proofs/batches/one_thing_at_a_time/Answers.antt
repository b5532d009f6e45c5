use Rattle.pulsar_laws.proofs.producers.OneAtATime.{one_thing_at_a_time_lem}
use Rattle.pulsar_laws.proofs.batches.one_thing_at_a_time.Goals as goal

pub returns : goal.returns
returns c = λ o log n a run asks. one_thing_at_a_time_lem o log n a run asks
