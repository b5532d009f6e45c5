use Rattle.pulsar_consumer.proofs.Histories.{polls_give_arrivals, polls_give_the_next}
use Rattle.pulsar_consumer.proofs.Plain.{plain_gives_all}
use Rattle.pulsar_consumer.proofs.laws.polls_give_arrivals.Goals as goal

pub returns-clause-all : goal.returns-clause-all
returns-clause-all c = polls_give_arrivals

pub returns-clause-next : goal.returns-clause-next
returns-clause-next c = polls_give_the_next

pub returns-clause-plain : goal.returns-clause-plain
returns-clause-plain c = plain_gives_all
