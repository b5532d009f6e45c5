use Rattle.pulsar_session.proofs.Pieces.{bad_stays}
use Rattle.pulsar_session.proofs.laws.bad_stays.Goals as goal

pub returns : goal.returns
returns c = bad_stays
