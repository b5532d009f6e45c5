use Rattle.pulsar_session.proofs.Refusals.{refused_exactly}
use Rattle.pulsar_session.proofs.laws.refused_exactly.Goals as goal

pub returns : goal.returns
returns c = refused_exactly
