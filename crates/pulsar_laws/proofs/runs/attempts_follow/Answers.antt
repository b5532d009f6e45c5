use Rattle.pulsar_laws.proofs.links.Attempts.{attempts_follow_lem}
use Rattle.pulsar_laws.proofs.runs.attempts_follow.Goals as goal

pub returns : goal.returns
returns c = λ o log p starter n run. attempts_follow_lem o log p starter n run
