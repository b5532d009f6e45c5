-- The next number that is free, from one on.
use Rattle.std.proofs.Common.{◌≡◌, ◌∙◌, ◌+◌, ◌-◌, ◌<◌, ℕ, suc, ap, arith, Bool, true, false, cond}
use Rattle.pulsar_consumer_table.specs.Consumers.{free_from}

module _ (passed : ℕ → Bool) (most n : ℕ) where
  pub free_more : n < most → passed n ≡ true → free_from (most - n) passed n ≡ free_from (most - (n + 1)) passed (n + 1)
  free_more lt h =
      let left : most - n ≡ suc (most - (n + 1)) = omega (arith, lt) in
      let next : suc n ≡ n + 1 = omega (arith) in
      ap (λ k. free_from k passed n) left
      ∙ ap (λ b. cond b (free_from (most - (n + 1)) passed (suc n)) n) h
      ∙ ap (free_from (most - (n + 1)) passed) next

  pub free_here : n < most → passed n ≡ false → free_from (most - n) passed n ≡ n
  free_here lt h =
      let left : most - n ≡ suc (most - (n + 1)) = omega (arith, lt) in
      ap (λ k. free_from k passed n) left ∙ ap (λ b. cond b (free_from (most - (n + 1)) passed (suc n)) n) h

  pub free_last : most - n ≡ 0 → free_from (most - n) passed n ≡ n
  free_last none = ap (λ k. free_from k passed n) none
