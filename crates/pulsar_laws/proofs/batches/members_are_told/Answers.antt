use Rattle.pulsar_laws.proofs.producers.BatchTold.{members_are_told_lem}
use Rattle.pulsar_laws.proofs.batches.members_are_told.Goals as goal

pub returns : goal.returns
returns c = λ o log n ns run. members_are_told_lem o log n ns run
