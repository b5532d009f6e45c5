use Rattle.std.proofs.Common.{◌≡◌, false, take}
use Rattle.pulsar_shared.specs.Trace.{has_news, steps}
use Rattle.pulsar_shared.proofs.copies.any_news.Given as goal

abbrev pub invariant-loop-entry : goal.invariant-loop-entry
invariant-loop-entry l = has_news (steps (take l.entry-index l.entries)) ≡ false
