use Rattle.std.proofs.Common.{◌≡◌, ◌==◌, ◌&&◌, not, ℕ, take}
use Rattle.std.specs.BTreeMap.{get}
use Rattle.std.specs.BTreeSet.{contains}
use Rattle.std.specs.List.{list_any}
use Rattle.std.specs.Ordering.{nat_cmp}
use Rattle.pulsar_requests.specs.Kept.{excuses}
use Rattle.pulsar_requests.proofs.requests.untime.Given as goal

abbrev pub invariant-loop-place : goal.invariant-loop-place
invariant-loop-place l = (n : ℕ) → contains nat_cmp l.timed n
    ≡ (contains nat_cmp l.fn.timed n && not (list_any (λ p. p == n) (take l.place-index l.places.items) && excuses l.number (get nat_cmp l.waiters n)))
