use Rattle.pulsar_laws.proofs.links.Alone.{links_alone_lem}
use Rattle.pulsar_laws.proofs.runs.links_alone.Goals as goal

pub returns : goal.returns
returns c = λ o log l seat h. links_alone_lem o log l seat h
