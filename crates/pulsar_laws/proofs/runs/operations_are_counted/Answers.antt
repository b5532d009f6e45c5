use Rattle.pulsar_laws.proofs.plans.Remade.{given_up_at_once_lem, made_again_in_time_lem, made_again_or_given_up_lem}
use Rattle.pulsar_laws.proofs.plans.Retries.{again_while_allowed_lem}
use Rattle.pulsar_laws.proofs.runs.operations_are_counted.Goals as goal

pub returns-clause-again : goal.returns-clause-again
returns-clause-again c = λ o log who x before run rests is. again_while_allowed_lem o log who x before run rests is

pub returns-clause-fails : goal.returns-clause-fails
returns-clause-fails c = λ o log who x p s u run is at asks may. made_again_or_given_up_lem o log who x p s u run is at asks may

pub returns-clause-once : goal.returns-clause-once
returns-clause-once c = λ p c m u f at asks v r. given_up_at_once_lem p c m u f at asks v r

pub returns-clause-in_time : goal.returns-clause-in_time
returns-clause-in_time c = λ p x h. made_again_in_time_lem p x h
