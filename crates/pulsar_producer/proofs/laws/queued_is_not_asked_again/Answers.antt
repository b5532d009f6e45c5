use Rattle.pulsar_producer.proofs.Sends.{queued_is_not_asked_again}
use Rattle.pulsar_producer.proofs.laws.queued_is_not_asked_again.Goals as goal

pub returns : goal.returns
returns c = queued_is_not_asked_again
