use Rattle.std.proofs.Common.{◌≡◌, ◌++◌, ℕ, List, map}
use Rattle.pulsar_producer_table.specs.Producers.{free_from}
use Rattle.pulsar_producer_table.proofs.table.free_from.Given as goal

abbrev pub invariant-loop-taken : goal.invariant-loop-taken
invariant-loop-taken l = (rest : List ℕ) → free_from (map (λ k. k.now) l.yielded ++ rest) l.from ≡ free_from rest l.number
