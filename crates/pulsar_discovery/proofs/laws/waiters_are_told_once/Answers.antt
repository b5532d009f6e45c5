use Rattle.pulsar_discovery.proofs.Waiting.{waiters_are_told_once}
use Rattle.pulsar_discovery.proofs.laws.waiters_are_told_once.Goals as goal

pub returns : goal.returns
returns c = waiters_are_told_once
