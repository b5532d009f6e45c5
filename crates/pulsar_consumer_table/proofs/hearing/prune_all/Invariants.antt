use Rattle.std.proofs.Common.{take}
use Rattle.pulsar_consumer_table.specs.KeptConsumers.{Drops, is_known, rows_in}
use Rattle.pulsar_consumer_table.proofs.hearing.prune_all.Given as goal

abbrev pub invariant-loop-ticket : goal.invariant-loop-ticket
invariant-loop-ticket l = Drops (take l.ticket-index l.tickets) (λ t. l.number) (λ t. is_known l.number (rows_in l.rows t)) l.fn.listing l.listing
