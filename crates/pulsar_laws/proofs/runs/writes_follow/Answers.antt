use Rattle.pulsar_laws.proofs.links.Written.{writes_follow_lem}
use Rattle.pulsar_laws.proofs.runs.writes_follow.Goals as goal

pub returns : goal.returns
returns c = λ o h l good. writes_follow_lem o h l good
