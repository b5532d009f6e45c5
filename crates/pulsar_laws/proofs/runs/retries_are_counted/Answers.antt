use Rattle.pulsar_laws.proofs.links.Attempts.{attempts_follow_lem}
use Rattle.pulsar_laws.proofs.links.Spending.{attempts_are_spent_lem, retries_are_counted_lem}
use Rattle.pulsar_laws.proofs.runs.retries_are_counted.Goals as goal

pub returns-clause-counted : goal.returns-clause-counted
returns-clause-counted c = λ o log p starter n run. retries_are_counted_lem attempts_follow_lem o log p starter n run

pub returns-clause-spent : goal.returns-clause-spent
returns-clause-spent c = attempts_are_spent_lem attempts_follow_lem
