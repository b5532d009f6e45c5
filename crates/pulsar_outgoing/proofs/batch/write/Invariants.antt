use Rattle.std.proofs.Common.{◌≡◌, ◌++◌, map, take}
use Rattle.std.specs.Prelude.{None}
use Rattle.pulsar_frame.specs.Batch.{batch_bytes}
use Rattle.pulsar_outgoing.specs.Batch.{entries_in, first_refusal}
use Rattle.pulsar_outgoing.specs.Storage.{item_of}
use Rattle.pulsar_outgoing.proofs.batch.write.Given as goal

abbrev pub invariant-loop-item : goal.invariant-loop-item
invariant-loop-item l =
    (first_refusal (entries_in (map item_of (take l.item-index l.items))) ≡ None)
    × (l.payload.items ≡ l.fn.payload.items ++ batch_bytes (entries_in (map item_of (take l.item-index l.items))))
