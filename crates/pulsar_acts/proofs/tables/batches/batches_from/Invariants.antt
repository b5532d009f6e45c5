use Rattle.std.proofs.Common.{◌≡◌, map}
use Rattle.pulsar_acts.specs.Rules.{batches_by}
use Rattle.pulsar_acts.proofs.tables.batches.batches_from.Given as goal

abbrev pub invariant-loop-built : goal.invariant-loop-built
invariant-loop-built l = l.acts.items ≡ map (batches_by l.ways l.building.settings.block_queue_if_full) (map (λ b. b.now) l.yielded)
