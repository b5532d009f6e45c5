use Rattle.std.proofs.Common.{◌≡◌, map, take, Some}
use Rattle.pulsar_messages.specs.Content.{message_content}
use Rattle.pulsar_producer_table.specs.Producers.{advice_in}
use Rattle.pulsar_producer_table.proofs.table.advice_of.Given as goal

abbrev pub invariant-loop-message : goal.invariant-loop-message
invariant-loop-message g l =
    l.advice ≡ advice_in (map (λ p. (goal.CustomRoutingPolicy-dyn g (p.vtable, p.value)).routes p.value) l.policies) (Some l.producer) (map message_content (take l.message-index l.messages))
