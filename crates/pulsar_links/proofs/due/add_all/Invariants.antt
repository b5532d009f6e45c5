use Rattle.std.proofs.Common.{◌≡◌, ◌||◌, ◌==◌, ℕ, map}
use Rattle.std.specs.BTreeSet.{contains}
use Rattle.std.specs.List.{list_any}
use Rattle.std.specs.Ordering.{nat_cmp}
use Rattle.pulsar_links.proofs.due.add_all.Given as goal

abbrev pub invariant-loop-link : goal.invariant-loop-link
invariant-loop-link l =
    (k : ℕ) → contains nat_cmp l.found k ≡ (contains nat_cmp l.fn.found k || list_any (λ j. j == k) (map (λ x. x.now) l.yielded))
