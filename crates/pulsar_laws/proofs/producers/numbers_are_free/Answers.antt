use Rattle.pulsar_laws.proofs.producers.Free.{numbers_are_free_lem}
use Rattle.pulsar_laws.proofs.producers.numbers_are_free.Goals as goal

pub returns : goal.returns
returns c = λ o log n run h. numbers_are_free_lem o log n run h
