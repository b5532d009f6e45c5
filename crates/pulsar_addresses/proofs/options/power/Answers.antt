use Rattle.std.proofs.Common.{◌≡◌, ◌≤◌, ℕ, ◌^◌, min, ◌-◌, arith}
use Rattle.std.proofs.Math.Pow.{pow_mono}
use Rattle.pulsar_addresses.proofs.options.power.Goals as goal

large : (n p : ℕ) → 2 ^ 32 ≤ p → n ≡ 2 ^ 32 - 1 → n ≡ min p (2 ^ 32 - 1)
large n p h e = omega arith

pub returns-else-retries-lt32 : goal.returns-else-retries-lt32
returns-else-retries-lt32 c = large _ _ (pow_mono c.if-retries-lt32.false) c.from.ensures
