-- Tallies that count the same.
use Rattle.std.proofs.Common.{◌≡◌, ℕ, ap, ◌∙◌}
use Rattle.pulsar_speed.specs.declared.tally.Tally.{Tally}

abbrev tally : ℕ → ℕ → ℕ → Tally
tally count bytes sum = record { count = count; bytes = bytes; sum = sum }

pub same_tally : (t u : Tally) → t.count ≡ u.count → t.bytes ≡ u.bytes → t.sum ≡ u.sum → t ≡ u
same_tally t u count bytes sum = ap (λ n. tally n t.bytes t.sum) count ∙ ap (λ n. tally u.count n t.sum) bytes ∙ ap (λ n. tally u.count u.bytes n) sum
