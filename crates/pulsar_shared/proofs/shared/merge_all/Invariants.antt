use Rattle.std.proofs.Common.{◌≡◌, ◌+◌, vec_len}
use Rattle.std.specs.Prelude.{sum_by}
use Rattle.pulsar_shared.proofs.shared.merge_all.Given as goal

abbrev pub invariant-loop-pass : goal.invariant-loop-pass
invariant-loop-pass g l = record {
  parts : l.all.parts + sum_by (λ p. p.parts) l.passes.items ≡ sum_by (λ p. p.parts) l.fn.passes.items;
  amount : l.all.amount + sum_by (λ p. p.share.amount) l.passes.items ≡ sum_by (λ p. p.share.amount) l.fn.passes.items;
}

abbrev pub decreases-loop-pass : goal.decreases-loop-pass
decreases-loop-pass g l = vec_len l.passes
