use Rattle.pulsar_frame.proofs.Changes.{shows_a_change}
use Rattle.pulsar_frame.proofs.checksum.laws.shows_a_change.Goals as goal

pub returns : goal.returns
returns c = shows_a_change
