use Rattle.pulsar_client.proofs.pulsar.Pulsar.forget.Goals as goal

pub returns-in-Ended-clause-stands : goal.returns-in-Ended-clause-stands
returns-in-Ended-clause-stands g c = λ o h s. (_, c.take_answer.ensures.stands o h s.0 s.1)
