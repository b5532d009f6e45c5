use Rattle.std.proofs.Common.{◌≤◌, ◌-◌, length, take}
use Rattle.pulsar_job.specs.Outside.{Adds}
use Rattle.pulsar_job.proofs.putting.put_all.Given as goal

abbrev pub invariant-loop-done : goal.invariant-loop-done
invariant-loop-done g l = record {
  within : l.done ≤ length l.bytes;
  adds : Adds (g.K.Sink.holds l.fn.sink) (g.K.Sink.holds l.sink) (take l.done l.bytes);
  grows : g.K.Sink.faults l.fn.sink ≤ g.K.Sink.faults l.sink;
}

abbrev pub decreases-loop-done : goal.decreases-loop-done
decreases-loop-done g l = length l.bytes - l.done
