use Rattle.std.proofs.Common.{◌≡◌, List, ℕ, drop}
use Rattle.pulsar_broker.specs.Kept.{lists, owed_on, state_in}
use Rattle.pulsar_broker.specs.State.{serve_all}
use Rattle.pulsar_broker.proofs.Turns.{AreServing}
use Rattle.pulsar_broker.proofs.tables.Tables.serve_each.Given as goal

abbrev pub invariant-loop-seat : goal.invariant-loop-seat
invariant-loop-seat l = record {
  serving : AreServing (drop l.seat-index l.seats) (state_in l.self) (owed_on l.out) (serve_all l.fn.seats (state_in l.fn.self)) (owed_on l.fn.out);
  listed : (name : List ℕ) (k : ℕ) → lists l.self.topics name k ≡ lists l.fn.self.topics name k;
}
