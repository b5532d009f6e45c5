use Rattle.pulsar_laws.proofs.consumers.Ended.{consumers_end_lem, consumers_remain_lem}
use Rattle.pulsar_laws.proofs.calls.Once.{ends_once_lem}
use Rattle.pulsar_laws.proofs.consumers.consumers_end.Goals as goal

pub returns-clause-ends : goal.returns-clause-ends
returns-clause-ends c = λ o log t m run is. consumers_end_lem ends_once_lem o log t m run is

pub returns-clause-remain : goal.returns-clause-remain
returns-clause-remain c = λ o later older t m run is. consumers_remain_lem ends_once_lem o later older t m run is
