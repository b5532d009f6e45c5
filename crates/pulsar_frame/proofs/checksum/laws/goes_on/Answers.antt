use Rattle.pulsar_frame.proofs.Changes.{after-append}
use Rattle.pulsar_frame.proofs.checksum.laws.goes_on.Goals as goal

pub returns : goal.returns
returns c = after-append
