use Rattle.std.proofs.Common.{◌≡◌, take}
use Rattle.pulsar_shared.specs.Trace.{steps}
use Rattle.pulsar_shared.proofs.copies.copy_entries.Given as goal

abbrev pub invariant-loop-entry : goal.invariant-loop-entry
invariant-loop-entry l = steps l.all.items ≡ steps (take l.entry-index l.entries)
