use Rattle.std.proofs.Common.{◌≡◌, ◌+◌, ◌++◌, length, map}
use Rattle.std.specs.Vec.Iter.{into_iter_items, into_iter_len}
use Rattle.pulsar_wire.specs.Views.{message_id_values, message_metadata_values}
use Rattle.pulsar_frame.specs.Batch.{entry_values, item_values, items_from}
use Rattle.pulsar_frame.proofs.batch.iterator.make_items.Given as goal

abbrev pub invariant-loop-entry : goal.invariant-loop-entry
invariant-loop-entry l =
    (map item_values l.items.items ++ items_from (length l.items.items) (message_id_values l.message_id) (message_metadata_values l.metadata) (map entry_values (into_iter_items l.entry-iterator))
    ≡ items_from 0 (message_id_values l.message_id) (message_metadata_values l.metadata) (map entry_values l.fn.entries.items))
    × (length l.items.items + length (into_iter_items l.entry-iterator) ≡ length l.fn.entries.items)
    × (into_iter_len l.entry-iterator ≡ length (into_iter_items l.entry-iterator))
