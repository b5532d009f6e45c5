use Rattle.pulsar_laws.proofs.plans.Stores.{stored_at_once_lem}
use Rattle.pulsar_laws.proofs.batches.stored_at_once.Goals as goal

pub returns : goal.returns
returns c = λ o log t n x run. stored_at_once_lem o log t n x run
