use Rattle.std.proofs.Common.{◌≡◌, ◌-◌, List, length}
use Rattle.pulsar_calls.specs.Content.{Asked, Shown}
use Rattle.pulsar_work.specs.Progress.{Knows}
use Rattle.pulsar_work.proofs.progress.Progress.count.Given as goal

abbrev pub decreases-loop-self : goal.decreases-loop-self
decreases-loop-self l = length l.self.ended.items - l.self.first_open

abbrev pub invariant-loop-self : goal.invariant-loop-self
invariant-loop-self l = record {
  knows : (es : List Shown) (acked : List Asked) → Knows l.fn.self es acked → Knows l.self es acked;
  ended : l.self.ended ≡ l.fn.self.ended;
  dials : l.self.dials ≡ l.fn.self.dials;
  stopped : l.self.stopped ≡ l.fn.self.stopped;
  before : l.self.failed_before ≡ l.fn.self.failed_before;
}
