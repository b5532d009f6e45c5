use Rattle.std.proofs.Common.{◌∙◌, ◌++◌, ◌∷◌, [], ap, sym}
use Rattle.pulsar_calls.proofs.Counted.{next_number}
use Rattle.pulsar_calls.proofs.content.tickets.Goals as goal

pub loop-ticket-preserved : goal.loop-ticket-preserved
loop-ticket-preserved c =
    let i = c.loop-ticket.ticket in
    c.in_ok-push.ensures.items ∙ ap (λ ns. ns ++ i ∷ []) c.loop-ticket.invariant ∙ sym (next_number c.args.first i c.loop-ticket.auto.ticket)
