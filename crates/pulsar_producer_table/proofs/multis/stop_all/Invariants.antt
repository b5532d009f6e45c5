use Rattle.std.proofs.Common.{◌≡◌, ◌++◌, map}
use Rattle.pulsar_calls.specs.Notices.{stopped_one}
use Rattle.pulsar_producer_table.specs.Takers.{who_of}
use Rattle.pulsar_producer_table.proofs.multis.stop_all.Given as goal

abbrev pub invariant-loop-taker : goal.invariant-loop-taker
invariant-loop-taker l = l.notices.items ≡ l.fn.notices.items ++ map stopped_one (map who_of (map (λ k. k.now) l.yielded))
