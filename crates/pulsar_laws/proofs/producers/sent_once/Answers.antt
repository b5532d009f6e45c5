use Rattle.pulsar_laws.proofs.producers.OnceSent.{sent_once_lem}
use Rattle.pulsar_laws.proofs.producers.sent_once.Goals as goal

pub returns : goal.returns
returns c = λ o log t run. sent_once_lem o log t run
