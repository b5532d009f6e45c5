use Rattle.std.proofs.Common.{◌≡◌, ◌-◌, map}
use Rattle.pulsar_frame.specs.Batch.{entries, entry_values}
use Rattle.pulsar_frame.proofs.Batches.{with_done}
use Rattle.pulsar_frame.proofs.batch.read_entries.Given as goal

abbrev pub invariant-loop : goal.invariant-loop
invariant-loop l = with_done (map entry_values l.entries.items) (entries (l.count - l.counter) l.rest) ≡ entries l.fn.count l.fn.payload
