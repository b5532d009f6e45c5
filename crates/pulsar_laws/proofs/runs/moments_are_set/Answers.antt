use Rattle.pulsar_laws.proofs.links.Moments.{moments_are_set_lem}
use Rattle.pulsar_laws.proofs.plans.Waiting.{plans_wait_lem, ways_are_chosen_lem}
use Rattle.pulsar_laws.proofs.runs.moments_are_set.Goals as goal

pub returns-clause-set : goal.returns-clause-set
returns-clause-set c = λ o log a. moments_are_set_lem o log a

pub returns-clause-waits : goal.returns-clause-waits
returns-clause-waits c = λ o log who delay run. plans_wait_lem o log who delay run

pub returns-clause-ways : goal.returns-clause-ways
returns-clause-ways c = λ o log who p w run is h. ways_are_chosen_lem o log who p w run is h
