use Rattle.pulsar_producer.proofs.MultiTurns.{first_come_first_served, multi_nobody_waits, multi_one_at_a_time}
use Rattle.pulsar_producer.proofs.multi_topic.laws.first_come_first_served.Goals as goal

pub returns-clause-order : goal.returns-clause-order
returns-clause-order c = first_come_first_served

pub returns-clause-one : goal.returns-clause-one
returns-clause-one c = multi_one_at_a_time

pub returns-clause-free : goal.returns-clause-free
returns-clause-free c = multi_nobody_waits
