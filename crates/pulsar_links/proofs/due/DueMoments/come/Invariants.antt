use Rattle.std.proofs.Common.{◌≡◌, ℕ}
use Rattle.std.specs.BTreeSet.{contains}
use Rattle.std.specs.List.{list_any}
use Rattle.std.specs.Ordering.{nat_cmp}
use Rattle.pulsar_links.proofs.due.DueMoments.come.Given as goal

abbrev pub invariant-loop-links : goal.invariant-loop-links
invariant-loop-links l = (k : ℕ) → contains nat_cmp l.found k ≡ list_any (λ e. contains nat_cmp e.1.now k) l.yielded
