use Rattle.std.proofs.Common.{◌≡◌, ◌++◌, length}
use Rattle.pulsar_consumer.specs.DeadLetters.{faults, letters}
use Rattle.pulsar_consumer.proofs.frame.dead_frame.Given as goal

abbrev pub invariant-loop-item : goal.invariant-loop-item
invariant-loop-item l = record {
  faults : l.faults.items ++ faults l.items.items ≡ faults l.fn.items.items;
  letters : l.letters.items ++ letters l.items.items ≡ letters l.fn.items.items;
}

abbrev pub decreases-loop-item : goal.decreases-loop-item
decreases-loop-item l = length l.items.items
