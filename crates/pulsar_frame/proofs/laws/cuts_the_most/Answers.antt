use Rattle.pulsar_frame.proofs.Streams.{cut-stand, stand-cut}
use Rattle.pulsar_frame.proofs.laws.cuts_the_most.Goals as goal

pub returns : goal.returns
returns c = λ s. (cut-stand s, λ ms rest stand. stand-cut ms s rest stand)
