use Rattle.pulsar_session.proofs.Claims.{claimed_once}
use Rattle.pulsar_session.proofs.Others.{unclaimed_settles_nothing}
use Rattle.pulsar_session.proofs.Spent.{spent_stays_spent}
use Rattle.pulsar_session.proofs.laws.spent_stays_spent.Goals as goal

pub returns-clause-claimed : goal.returns-clause-claimed
returns-clause-claimed c = claimed_once

pub returns-clause-stays : goal.returns-clause-stays
returns-clause-stays c = spent_stays_spent

pub returns-clause-settles : goal.returns-clause-settles
returns-clause-settles c = unclaimed_settles_nothing
