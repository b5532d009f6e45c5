use Rattle.pulsar_laws.proofs.producers.MadeLast.{as_made_last_lem}
use Rattle.pulsar_laws.proofs.producers.Topics.{topics_alone_lem}
use Rattle.pulsar_laws.proofs.producers.topics_alone.Goals as goal

pub returns-clause-acts : goal.returns-clause-acts
returns-clause-acts c = λ o log n t run h. topics_alone_lem o log n t run h

pub returns-clause-made : goal.returns-clause-made
returns-clause-made c = λ o log n t h. as_made_last_lem o log n t h
