-- What is waited for: the order tells two things apart.
use Rattle.std.proofs.Common.{◌≡◌, ℕ, ap, refl, arith, true, ◌==◌}
use Rattle.std.proofs.lemmas.Bool.Decides.{nat_tests}
use Rattle.std.proofs.lemmas.Cmp.{nat_cmp_total, on_total, then_total, eq_by_cmp_equiv}
use Rattle.std.proofs.lemmas.Grind.{common_steps}
use Rattle.std.proofs.lemmas.Map.Lookups.{CmpEqualImpliesEq, exact_pairs, exact_unsigned}
use Rattle.std.proofs.lemmas.Map.Views.{tells_apart}
use Rattle.std.specs.Cmp.{IsTotalOrder}
use Rattle.std.specs.Ordering.{nat_cmp, ordering_then}
use Rattle.std.specs.declared.cmp.Ordering.{Ordering}
use Rattle.std.specs.BTreeMap.{is_at}
use Rattle.pulsar_wire.specs.declared.awaited.Awaited.{Awaited}
use Rattle.pulsar_wire.specs.declared.awaited.Awaited.TheVariants.{Pong, Reply, Receipt}
use Rattle.pulsar_wire.specs.Awaited.{awaited_cmp, is_same}

abbrev pair_cmp : ℕ × ℕ → ℕ × ℕ → Ordering
pair_cmp x y = ordering_then (nat_cmp x.0 y.0) (nat_cmp x.1 y.1)

pair_total : IsTotalOrder pair_cmp
pair_total = then_total (on_total (λ a. a.0) nat_cmp_total) (on_total (λ a. a.1) nat_cmp_total)

exact_awaited : CmpEqualImpliesEq awaited_cmp
exact_awaited Pong Pong h = refl
exact_awaited Pong (Reply n) h = absurd cc
exact_awaited Pong (Receipt p s) h = absurd cc
exact_awaited (Reply m) Pong h = absurd cc
exact_awaited (Reply m) (Reply n) h = ap Reply (exact_unsigned m n h)
exact_awaited (Reply m) (Receipt p s) h = absurd cc
exact_awaited (Receipt p s) Pong h = absurd cc
exact_awaited (Receipt p s) (Reply n) h = absurd cc
exact_awaited (Receipt p s) (Receipt q t) h =
    ap (λ (x : ℕ × ℕ). Receipt x.0 x.1) (exact_pairs nat_cmp nat_cmp exact_unsigned exact_unsigned (p, s) (q, t) h)

pub same_is : (a b : Awaited) → is_same a b ≡ true → a ≡ b
same_is a b h = tells_apart exact_awaited a b h

pub same_refl : (a : Awaited) → is_same a a ≡ true
same_refl Pong = refl
same_refl (Reply n) = (eq_by_cmp_equiv nat_cmp_total).refl n
same_refl (Receipt p s) = (eq_by_cmp_equiv pair_total).refl (p, s)

pub same_symm : (a b : Awaited) → is_same a b ≡ is_same b a
same_symm Pong Pong = refl
same_symm Pong (Reply n) = refl
same_symm Pong (Receipt p s) = refl
same_symm (Reply m) Pong = refl
same_symm (Reply m) (Reply n) = (eq_by_cmp_equiv nat_cmp_total).symm m n
same_symm (Reply m) (Receipt p s) = refl
same_symm (Receipt p s) Pong = refl
same_symm (Receipt p s) (Reply n) = refl
same_symm (Receipt p s) (Receipt q t) = (eq_by_cmp_equiv pair_total).symm (p, s) (q, t)

pub is_at-eqb : (k x : ℕ) → is_at (nat_cmp k) x ≡ (k == x)
is_at-eqb k x = grind (arith, nat_tests, common_steps)
