use Rattle.std.proofs.Common.{◌≡◌, ◌++◌, map}
use Rattle.pulsar_calls.specs.Notices.{stopped_one}
use Rattle.pulsar_producer_table.specs.Takers.{who_at}
use Rattle.pulsar_producer_table.proofs.table.stop_all.Given as goal

abbrev pub invariant-loop-taker : goal.invariant-loop-taker
invariant-loop-taker l = l.notices.items ≡ l.fn.notices.items ++ map stopped_one (map (who_at l.number) (map (λ k. k.now) l.yielded))
