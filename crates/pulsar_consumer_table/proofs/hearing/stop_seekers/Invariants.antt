use Rattle.std.proofs.Common.{◌≡◌, ◌++◌, map}
use Rattle.std.specs.List.{flat_map}
use Rattle.std.specs.Map.Iter.{deref_pair}
use Rattle.pulsar_consumer_table.specs.KeptConsumers.{member_in}
use Rattle.pulsar_consumer_table.specs.Notices.{stopped_seekers}
use Rattle.pulsar_consumer_table.proofs.hearing.stop_seekers.Given as goal

abbrev pub invariant-loop-row : goal.invariant-loop-row
invariant-loop-row l = l.notices.items ≡ l.fn.notices.items ++ flat_map (λ e. stopped_seekers e.0 (member_in e.1)) (map deref_pair l.yielded)
