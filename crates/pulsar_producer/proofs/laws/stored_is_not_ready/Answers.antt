use Rattle.pulsar_producer.proofs.Storages.{never_ready, stored_is_not_ready}
use Rattle.pulsar_producer.proofs.laws.stored_is_not_ready.Goals as goal

pub returns-clause-some : goal.returns-clause-some
returns-clause-some c = stored_is_not_ready

pub returns-clause-none : goal.returns-clause-none
returns-clause-none c = never_ready
