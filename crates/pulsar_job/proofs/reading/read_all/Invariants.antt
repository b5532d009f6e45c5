use Rattle.std.proofs.Common.{◌≡◌, ◌≤◌, ◌<◌, ◌+◌, length}
use Rattle.pulsar_job.specs.Outside.{Gave, limit}
use Rattle.pulsar_job.proofs.reading.read_all.Given as goal

abbrev pub invariant-loop : goal.invariant-loop
invariant-loop g l = record {
  gave : Gave (g.S.Source.left l.fn.source) (g.S.Source.left l.source) l.bytes.items;
  count : length l.bytes.items + l.left ≡ limit;
  size : 0 < length l.piece.items;
  faults : g.S.Source.faults l.fn.source ≤ g.S.Source.faults l.source;
}
