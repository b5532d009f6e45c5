use Rattle.pulsar_session.proofs.Ends.{cause_at_end, ended_stays}
use Rattle.pulsar_session.proofs.laws.ended_stays.Goals as goal

pub returns-clause-stays : goal.returns-clause-stays
returns-clause-stays c = ended_stays

pub returns-clause-cause : goal.returns-clause-cause
returns-clause-cause c = cause_at_end
