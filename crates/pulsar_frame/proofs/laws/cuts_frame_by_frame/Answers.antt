use Rattle.pulsar_frame.proofs.Streams.{cut-whole, left-whole, bad-whole, cut-short, left-short, bad-short, cut-refused, left-refused, bad-refused}
use Rattle.pulsar_frame.proofs.laws.cuts_frame_by_frame.Goals as goal

pub returns : goal.returns
returns c =
    λ s. (
      λ m rest e. (cut-whole s m rest e, left-whole s m rest e, bad-whole s m rest e),
      λ e. (cut-short s e, left-short s e, bad-short s e),
      λ r e. (cut-refused s r e, left-refused s r e, bad-refused s r e),
    )
