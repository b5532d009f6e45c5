use Rattle.pulsar_frame.proofs.Streams.{cut-bad, left-bad, bad-bad}
use Rattle.pulsar_frame.proofs.laws.stays_bad.Goals as goal

pub returns : goal.returns
returns c = λ s t r e. (cut-bad s t r e, left-bad s t r e, bad-bad s t r e)
