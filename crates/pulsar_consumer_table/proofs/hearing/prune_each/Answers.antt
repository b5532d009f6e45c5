use Rattle.std.proofs.Common.{ℕ, get_or, subst, sym, take}
use Rattle.std.proofs.lemmas.List.{take_more}
use Rattle.pulsar_consumer_table.specs.Consumers.{number_at}
use Rattle.pulsar_consumer_table.specs.KeptConsumers.{Drops, is_known, rows_in}
use Rattle.pulsar_consumer_table.proofs.Dropped.{nothing_dropped, one_more_dropped}
use Rattle.pulsar_consumer_table.proofs.hearing.prune_each.Goals as goal

pub loop-ticket-init : goal.loop-ticket-init
loop-ticket-init c =
    let rows = rows_in c.args.rows.now in
    nothing_dropped (λ t. number_at (rows t)) (λ t. is_known (number_at (rows t)) (rows t)) c.args.listing.now

pub loop-ticket-preserved : goal.loop-ticket-preserved
loop-ticket-preserved c =
    let ts = c.args.tickets.now in
    let i = c.loop-ticket.ticket-index in
    let rows = rows_in c.args.rows.now in
    let place = λ (t : ℕ). number_at (rows t) in
    let kept = λ (t : ℕ). is_known (number_at (rows t)) (rows t) in
    let before = c.args.listing.now in
    let after = c.prune_one.new.listing in
    subst (λ us. Drops us place kept before after) (sym (take_more ts i 0 c.loop-ticket-test.true))
    (one_more_dropped place kept (take i ts) (get_or ts i 0) before c.loop-ticket.listing after c.loop-ticket.invariant c.in_ok-prune_one.ensures)
