use Rattle.pulsar_laws.proofs.links.Receipts.{receipts_are_own_lem}
use Rattle.pulsar_laws.proofs.producers.Rise.{numbers_of_frames_rise_lem}
use Rattle.pulsar_laws.proofs.producers.receipts_are_own.Goals as goal

pub returns-clause-own : goal.returns-clause-own
returns-clause-own c = λ o log t r w e share m run h body. receipts_are_own_lem o log t r w e share m run h body

pub returns-clause-rise : goal.returns-clause-rise
returns-clause-rise c = λ o newer older t u l k n s r name alias m other block waits w v e f share part given told run h g.
    numbers_of_frames_rise_lem o newer older t u l k n s r name alias m other block waits w v e f share part given told run h g
