use Rattle.pulsar_laws.proofs.links.Newest.{series_is_newest_lem}
use Rattle.pulsar_laws.proofs.runs.series_is_newest.Goals as goal

pub returns : goal.returns
returns c = λ o log key. series_is_newest_lem o log key
