use Rattle.std.proofs.Common.{◌≡◌, ℕ}
use Rattle.std.specs.BTreeMap.{btree_map_len}
use Rattle.pulsar_broker.specs.Kept.{producers_in}
use Rattle.pulsar_broker.specs.State.{without_link}
use Rattle.pulsar_broker.proofs.keys.drop_producers.Given as goal

abbrev pub invariant-loop-number : goal.invariant-loop-number
invariant-loop-number l = record {
  others : (k n : ℕ) → without_link l.link (producers_in l.producers) k n ≡ without_link l.link (producers_in l.fn.producers) k n;
}

abbrev pub decreases-loop-number : goal.decreases-loop-number
decreases-loop-number l = btree_map_len l.producers
