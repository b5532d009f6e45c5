use Rattle.std.proofs.Common.{ℕ, get_or, subst, sym, take}
use Rattle.std.proofs.lemmas.List.{take_more}
use Rattle.pulsar_consumer_table.specs.KeptConsumers.{Drops, is_known, rows_in}
use Rattle.pulsar_consumer_table.proofs.Dropped.{nothing_dropped, one_more_dropped}
use Rattle.pulsar_consumer_table.proofs.hearing.prune_all.Goals as goal

pub loop-ticket-init : goal.loop-ticket-init
loop-ticket-init c = nothing_dropped (λ t. c.args.number) (λ t. is_known c.args.number (rows_in c.args.rows.now t)) c.args.listing.now

pub loop-ticket-preserved : goal.loop-ticket-preserved
loop-ticket-preserved c =
    let ts = c.args.tickets.now in
    let i = c.loop-ticket.ticket-index in
    let place = λ (t : ℕ). c.args.number in
    let kept = λ (t : ℕ). is_known c.args.number (rows_in c.args.rows.now t) in
    let before = c.args.listing.now in
    subst (λ us. Drops us place kept before c.prune.new.listing) (sym (take_more ts i 0 c.loop-ticket-test.true))
    (one_more_dropped place kept (take i ts) (get_or ts i 0) before c.loop-ticket.listing c.prune.new.listing c.loop-ticket.invariant c.in_ok-prune.ensures)
