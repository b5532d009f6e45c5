use Rattle.std.proofs.Common.{ℕ, get_or, subst, sym, take}
use Rattle.std.proofs.lemmas.List.{take_more}
use Rattle.pulsar_consumer_table.specs.Consumers.{lives_at}
use Rattle.pulsar_consumer_table.specs.KeptConsumers.{Drops, rows_in}
use Rattle.pulsar_consumer_table.proofs.Dropped.{nothing_dropped, one_more_dropped}
use Rattle.pulsar_consumer_table.proofs.hearing.leave_all.Goals as goal

pub loop-ticket-init : goal.loop-ticket-init
loop-ticket-init c = nothing_dropped (λ t. c.args.link) (λ t. lives_at c.args.link (rows_in c.args.rows.now t)) c.args.heard.now

pub loop-ticket-preserved : goal.loop-ticket-preserved
loop-ticket-preserved c =
    let ts = c.args.tickets.now in
    let i = c.loop-ticket.ticket-index in
    let place = λ (t : ℕ). c.args.link in
    let kept = λ (t : ℕ). lives_at c.args.link (rows_in c.args.rows.now t) in
    let before = c.args.heard.now in
    subst (λ us. Drops us place kept before c.leave.new.heard) (sym (take_more ts i 0 c.loop-ticket-test.true))
    (one_more_dropped place kept (take i ts) (get_or ts i 0) before c.loop-ticket.heard c.leave.new.heard c.loop-ticket.invariant c.in_ok-leave.ensures)
