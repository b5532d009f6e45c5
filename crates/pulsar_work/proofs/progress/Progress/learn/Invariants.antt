use Rattle.std.proofs.Common.{◌≡◌, ◌++◌, List, length, map, take}
use Rattle.pulsar_calls.specs.Content.{Asked, Shown, shown}
use Rattle.pulsar_work.specs.Progress.{Knows, links_of, wanted_in}
use Rattle.pulsar_work.proofs.progress.Progress.learn.Given as goal

abbrev pub invariant-loop-effect : goal.invariant-loop-effect
invariant-loop-effect l = record {
  knows : (es : List Shown) (acked : List Asked) → Knows l.fn.self es acked → Knows l.self (es ++ map shown (take l.effect-index l.effects)) acked;
  dials : links_of l.self.dials.items ≡ links_of l.fn.self.dials.items ++ wanted_in (map shown (take l.effect-index l.effects));
  ended : length l.self.ended.items ≡ length l.fn.self.ended.items;
  stopped : l.self.stopped ≡ l.fn.self.stopped;
  before : l.self.failed_before ≡ l.fn.self.failed_before;
}
