use Rattle.std.proofs.Common.{◌≡◌, ◌++◌, map}
use Rattle.std.specs.List.{flat_map}
use Rattle.std.specs.Map.Iter.{deref_pair}
use Rattle.pulsar_calls.specs.Notices.{stopped_one}
use Rattle.pulsar_producer_table.specs.Takers.{who_of}
use Rattle.pulsar_producer_table.proofs.multis.stop_made.Given as goal

abbrev pub invariant-loop-one : goal.invariant-loop-one
invariant-loop-one l = l.notices.items ≡ l.fn.notices.items ++ map stopped_one (map who_of (flat_map (λ e. e.1.waiting) (map deref_pair l.yielded)))
