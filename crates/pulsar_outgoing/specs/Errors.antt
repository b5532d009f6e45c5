-- Errors of producers.
use Rattle.std.specs.Prelude.{◌≡◌, codes}
use Rattle.pulsar_wire.specs.Failures.{Fault, NoMemory, Failure, OfConnection, OfProducer, ProducerConnection, ProducerCustom}

abbrev pub IsNoMemory : Failure → Type 0
IsNoMemory f = f ≡ OfConnection NoMemory

-- a policy, or the partition that it names, is not there
abbrev pub no_such_index : Failure
no_such_index = OfProducer (ProducerCustom (codes "routing index out of range"))

-- what is asked for a producer fails as that of its connection does
abbrev pub in_producer : Fault → Failure
in_producer f = OfProducer (ProducerConnection f)
