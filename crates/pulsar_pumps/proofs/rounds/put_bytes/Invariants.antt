use Rattle.std.proofs.Common.{◌≡◌, ◌≤◌, ◌-◌, length, take}
use Rattle.pulsar_pumps.specs.Outside.{Grows}
use Rattle.pulsar_pumps.proofs.rounds.put_bytes.Given as goal

abbrev pub invariant-loop-at : goal.invariant-loop-at
invariant-loop-at g l = record {
  within : l.at ≤ length l.bytes;
  grows : Grows (g.O.Output.taken l.fn.output) (g.O.Output.taken l.output) (take l.at l.bytes);
  faults : g.O.Output.faults l.fn.output ≤ g.O.Output.faults l.output;
  stays : g.O.Output.is_shut l.output ≡ g.O.Output.is_shut l.fn.output;
}

abbrev pub decreases-loop-at : goal.decreases-loop-at
decreases-loop-at g l = length l.bytes - l.at
