use Rattle.pulsar_broker.proofs.Leaving.{end_keeps_topics}
use Rattle.pulsar_broker.proofs.Orders.{keeps_sent}
use Rattle.pulsar_broker.proofs.laws.keeps_what_was_sent.Goals as goal

pub returns-clause-sent : goal.returns-clause-sent
returns-clause-sent c = keeps_sent

pub returns-clause-ended : goal.returns-clause-ended
returns-clause-ended c = end_keeps_topics
