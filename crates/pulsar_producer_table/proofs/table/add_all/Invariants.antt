use Rattle.std.proofs.Common.{◌≡◌, ◌++◌}
use Rattle.pulsar_producer_table.proofs.table.add_all.Given as goal

abbrev pub invariant-loop-ticket : goal.invariant-loop-ticket
invariant-loop-ticket l = l.all.items ≡ l.fn.all.items ++ l.yielded
