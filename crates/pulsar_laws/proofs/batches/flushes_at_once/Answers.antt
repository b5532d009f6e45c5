use Rattle.pulsar_laws.proofs.batches.Cut.{flushes_at_once_lem}
use Rattle.pulsar_laws.proofs.batches.flushes_at_once.Goals as goal

pub returns : goal.returns
returns c = λ o log n row run h settled. flushes_at_once_lem o log n row run h settled
