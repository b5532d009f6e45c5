use Rattle.pulsar_frame.proofs.Streams.{cut-append, left-append, bad-append}
use Rattle.pulsar_frame.proofs.laws.cuts_pieces_as_one.Goals as goal

pub returns : goal.returns
returns c = λ s t. (cut-append s t, left-append s t, bad-append s t)
