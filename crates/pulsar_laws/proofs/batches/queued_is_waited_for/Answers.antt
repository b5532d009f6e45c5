use Rattle.pulsar_laws.proofs.producers.BatchQueued.{queued_is_waited_for_lem}
use Rattle.pulsar_laws.proofs.batches.queued_is_waited_for.Goals as goal

pub returns : goal.returns
returns c = λ o log n ns u older run there some. queued_is_waited_for_lem o log n ns u older run there some
