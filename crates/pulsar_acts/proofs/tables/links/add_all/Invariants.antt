use Rattle.std.proofs.Common.{◌≡◌, ◌++◌}
use Rattle.pulsar_acts.proofs.tables.links.add_all.Given as goal

abbrev pub invariant-loop-notice : goal.invariant-loop-notice
invariant-loop-notice l = l.notices.items ≡ l.fn.notices.items ++ l.yielded
