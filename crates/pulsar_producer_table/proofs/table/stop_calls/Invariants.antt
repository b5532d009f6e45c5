use Rattle.std.proofs.Common.{◌≡◌, ◌++◌, map}
use Rattle.pulsar_producer_table.specs.Notices.{stopped_call}
use Rattle.pulsar_producer_table.proofs.table.stop_calls.Given as goal

abbrev pub invariant-loop-ticket : goal.invariant-loop-ticket
invariant-loop-ticket l = l.notices.items ≡ l.fn.notices.items ++ map stopped_call l.yielded
