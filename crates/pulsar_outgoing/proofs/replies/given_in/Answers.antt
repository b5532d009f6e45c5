use Rattle.pulsar_outgoing.proofs.replies.given_in.Goals as goal

pub returns-in-ProducerSuccess : goal.returns-in-ProducerSuccess
returns-in-ProducerSuccess c = rw c.in-ProducerSuccess.is c.given_of.ensures
