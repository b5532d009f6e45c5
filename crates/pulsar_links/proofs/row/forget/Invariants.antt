use Rattle.std.proofs.Common.{◌≡◌, ℕ, ◌==◌, cond, None}
use Rattle.std.specs.BTreeMap.{get}
use Rattle.std.specs.List.{list_any}
use Rattle.std.specs.Ordering.{nat_cmp}
use Rattle.pulsar_links.proofs.row.forget.Given as goal

abbrev pub invariant-loop-place : goal.invariant-loop-place
invariant-loop-place l = (place : ℕ) → get nat_cmp l.askers place ≡ cond (list_any (λ p. p == place) l.yielded) None (get nat_cmp l.fn.askers place)
