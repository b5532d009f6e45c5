use Rattle.std.proofs.Common.{◌≡◌, ℕ, List, drop}
use Rattle.std.specs.BTreeMap.{IsOrdered}
use Rattle.std.specs.Ordering.{nat_cmp}
use Rattle.pulsar_wire.specs.declared.awaited.Awaited.{Awaited}
use Rattle.pulsar_requests.specs.Kept.{AreTimed, Taken, places_of}
use Rattle.pulsar_requests.proofs.requests.take_all.Given as goal

abbrev pub invariant-loop-place : goal.invariant-loop-place
invariant-loop-place l = record {
  taken : (a : Awaited) → places_of a l.fn.waiters.entries ≡ l.places.items → Taken a l.fn.waiters.entries l.waiters.entries (drop l.place-index l.places.items);
  ordered : IsOrdered nat_cmp l.fn.waiters → IsOrdered nat_cmp l.waiters;
  timed : (excused : List ℕ) → AreTimed excused l.fn.timed l.fn.waiters → AreTimed excused l.timed l.waiters;
}
