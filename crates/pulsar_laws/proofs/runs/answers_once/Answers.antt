use Rattle.pulsar_laws.proofs.plans.Follow.{answers_once_lem}
use Rattle.pulsar_laws.proofs.runs.answers_once.Goals as goal

pub returns : goal.returns
returns c = λ turn os. answers_once_lem turn os
