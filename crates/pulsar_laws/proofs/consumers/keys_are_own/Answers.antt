use Rattle.pulsar_laws.proofs.consumers.Keys.{keys_are_own_lem}
use Rattle.pulsar_laws.proofs.calls.Once.{ends_once_lem}
use Rattle.pulsar_laws.proofs.consumers.keys_are_own.Goals as goal

pub returns : goal.returns
returns c = λ o later older t u m n run is is2 one same. keys_are_own_lem ends_once_lem o later older t u m n run is is2 one same
