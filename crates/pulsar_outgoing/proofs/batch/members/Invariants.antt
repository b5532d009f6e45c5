use Rattle.std.proofs.Common.{◌≡◌, map, take}
use Rattle.pulsar_outgoing.specs.Batch.{member_of}
use Rattle.pulsar_outgoing.specs.Storage.{item_of}
use Rattle.pulsar_outgoing.proofs.batch.members.Given as goal

abbrev pub invariant-loop-item : goal.invariant-loop-item
invariant-loop-item l = l.all.items ≡ map member_of (map item_of (take l.item-index l.items))
