use Rattle.std.proofs.Common.{◌≡◌, ◌++◌, map, take}
use Rattle.std.specs.BTreeMap.{get}
use Rattle.std.specs.List.{flat_map}
use Rattle.std.specs.Ordering.{nat_cmp}
use Rattle.pulsar_producer_table.specs.Producers.{waiting_at}
use Rattle.pulsar_calls.specs.Notices.{stopped_one}
use Rattle.pulsar_producer_table.proofs.table.Producers.stop_waiting.Given as goal

abbrev pub invariant-loop-number : goal.invariant-loop-number
invariant-loop-number l =
    l.notices.items ≡ l.fn.notices.items ++ map stopped_one (flat_map (λ n. waiting_at n (get nat_cmp l.self.topics n)) (take l.number-index l.self.numbers.items))
