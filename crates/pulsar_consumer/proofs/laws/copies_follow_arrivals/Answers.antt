use Rattle.pulsar_consumer.proofs.Trying.{copies_follow_arrivals}
use Rattle.pulsar_consumer.proofs.laws.copies_follow_arrivals.Goals as goal

pub returns : goal.returns
returns c = copies_follow_arrivals
