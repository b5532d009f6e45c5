use Rattle.std.proofs.Common.{◌≡◌}
use Rattle.std.specs.BTreeMap.{btree_map_len}
use Rattle.pulsar_broker.specs.Kept.{IsKept, IsNamed, state_in}
use Rattle.pulsar_broker.specs.State.{without}
use Rattle.pulsar_broker.proofs.tables.Tables.close_all.Given as goal

abbrev pub invariant-loop-number : goal.invariant-loop-number
invariant-loop-number l = record {
  named : IsNamed (state_in l.fn.self) → IsNamed (state_in l.self);
  same : IsNamed (state_in l.fn.self) → without l.link (state_in l.self) ≡ without l.link (state_in l.fn.self);
  producers : (state_in l.self).producers ≡ (state_in l.fn.self).producers;
  kept : IsKept l.fn.self → IsKept l.self;
}

abbrev pub decreases-loop-number : goal.decreases-loop-number
decreases-loop-number l = btree_map_len l.self.seat_of
