use Rattle.std.proofs.Common.{◌≡◌, filter, map}
use Rattle.pulsar_consumer_table.specs.Consumers.{lives_with}
use Rattle.pulsar_consumer_table.specs.KeptConsumers.{rows_in}
use Rattle.pulsar_consumer_table.proofs.hearing.living.Given as goal

abbrev pub invariant-loop-ticket : goal.invariant-loop-ticket
invariant-loop-ticket l = l.living.items ≡ filter (λ t. lives_with l.number l.link (rows_in l.rows t)) (map (λ k. k.now) l.yielded)
