use Rattle.pulsar_laws.proofs.links.Ending.{due_links_end_lem}
use Rattle.pulsar_laws.proofs.links.Settling.{settled_as_told_lem, settled_once_lem}
use Rattle.pulsar_laws.proofs.runs.settled_as_told.Goals as goal

pub returns-clause-told : goal.returns-clause-told
returns-clause-told c = λ o log l place. settled_as_told_lem o log l place

pub returns-clause-once : goal.returns-clause-once
returns-clause-once c = λ o log l place. settled_once_lem o log l place

pub returns-clause-due : goal.returns-clause-due
returns-clause-due c = λ o newer older now l seat run rests acts le h d. due_links_end_lem o newer older now l seat run rests acts le h d
