use Rattle.std.proofs.Common.{◌≡◌, ◌≤◌, map, length, take}
use Rattle.pulsar_outgoing.specs.Batch.{entries_in}
use Rattle.pulsar_outgoing.specs.Storage.{item_of}
use Rattle.pulsar_outgoing.proofs.batch.count.Given as goal

abbrev pub invariant-loop-item : goal.invariant-loop-item
invariant-loop-item l = (l.count ≤ l.item-index) × (l.count ≡ length (entries_in (map item_of (take l.item-index l.items))))
