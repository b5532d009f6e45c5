use Rattle.pulsar_producer.proofs.MultiTopics.{there_until_removed, topics_ascend}
use Rattle.pulsar_producer.proofs.multi_topic.laws.topics_in_order.Goals as goal

pub returns-clause-order : goal.returns-clause-order
returns-clause-order c = topics_ascend

pub returns-clause-there : goal.returns-clause-there
returns-clause-there c = there_until_removed
