use Rattle.pulsar_laws.proofs.calls.Made.{calls_are_made_lem}
use Rattle.pulsar_laws.proofs.runs.calls_are_made.Goals as goal

pub returns : goal.returns
returns c = λ o log t p run. calls_are_made_lem o log t p run
