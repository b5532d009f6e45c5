use Rattle.pulsar_session.proofs.Told.{nobody_is_told, told_once}
use Rattle.pulsar_session.proofs.laws.told_once.Goals as goal

pub returns-clause-once : goal.returns-clause-once
returns-clause-once c = told_once

pub returns-clause-nobody : goal.returns-clause-nobody
returns-clause-nobody c = nobody_is_told
