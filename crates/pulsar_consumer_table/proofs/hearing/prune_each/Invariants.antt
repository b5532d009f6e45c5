use Rattle.std.proofs.Common.{take}
use Rattle.pulsar_consumer_table.specs.Consumers.{number_at}
use Rattle.pulsar_consumer_table.specs.KeptConsumers.{Drops, is_known, rows_in}
use Rattle.pulsar_consumer_table.proofs.hearing.prune_each.Given as goal

abbrev pub invariant-loop-ticket : goal.invariant-loop-ticket
invariant-loop-ticket l =
    Drops (take l.ticket-index l.tickets) (λ t. number_at (rows_in l.rows t)) (λ t. is_known (number_at (rows_in l.rows t)) (rows_in l.rows t)) l.fn.listing l.listing
