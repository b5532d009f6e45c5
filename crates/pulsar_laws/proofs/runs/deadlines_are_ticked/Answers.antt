use Rattle.pulsar_laws.proofs.links.Deadlines.{deadlines_are_ticked_lem}
use Rattle.pulsar_laws.proofs.runs.deadlines_are_ticked.Goals as goal

pub returns : goal.returns
returns c = λ o log l queued r. deadlines_are_ticked_lem o log l queued r
