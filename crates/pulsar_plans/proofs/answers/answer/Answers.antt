use Rattle.pulsar_plans.proofs.answers.answer.Goals as goal

pub returns-in-Names : goal.returns-in-Names
returns-in-Names c = rw (c.in-GetTopicsOfNamespaceResponse.is, c.in-Names.is) c.names.ensures
