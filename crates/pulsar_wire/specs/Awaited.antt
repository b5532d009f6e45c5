-- What a request waits for, and the order by which it is kept.  (Pulsar binary protocol, Simple commands)
use Rattle.std.specs.Prelude.{Bool, false, Option, Some, None}
use Rattle.std.specs.declared.cmp.Ordering.{Ordering}
use Rattle.std.specs.BTreeMap.{is_at}
use Rattle.pulsar_wire.specs.contracts.awaited.AwaitedOrd.TheImpl.{cmp-value}
use Rattle.pulsar_wire.specs.declared.awaited.Awaited.{Awaited}

abbrev pub awaited_cmp : Awaited → Awaited → Ordering
awaited_cmp = cmp-value.it

abbrev pub is_same : Awaited → Awaited → Bool
is_same a b = is_at (awaited_cmp a) b

abbrev pub is_one : Option Awaited → Awaited → Bool
is_one None b = false
is_one (Some a) b = is_same a b
