use Rattle.pulsar_session.proofs.Named.{named_is_not_due}
use Rattle.pulsar_session.proofs.laws.named_is_not_due.Goals as goal

pub returns : goal.returns
returns c = named_is_not_due
