use Rattle.std.proofs.Common.{take}
use Rattle.pulsar_consumer_table.specs.Consumers.{lives_at}
use Rattle.pulsar_consumer_table.specs.KeptConsumers.{Drops, rows_in}
use Rattle.pulsar_consumer_table.proofs.hearing.leave_all.Given as goal

abbrev pub invariant-loop-ticket : goal.invariant-loop-ticket
invariant-loop-ticket l = Drops (take l.ticket-index l.tickets) (λ t. l.link) (λ t. lives_at l.link (rows_in l.rows t)) l.fn.heard l.heard
