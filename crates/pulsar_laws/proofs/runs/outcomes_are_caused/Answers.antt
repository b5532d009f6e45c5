use Rattle.pulsar_laws.proofs.calls.Tellers.{causes_told_lem}
use Rattle.pulsar_laws.proofs.runs.outcomes_are_caused.Goals as goal

pub returns : goal.returns
returns c = λ o log who u r. causes_told_lem o log who u r
