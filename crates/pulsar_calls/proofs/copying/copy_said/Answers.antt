use Rattle.std.proofs.Common.{◌∙◌, ap, map, sym}
use Rattle.pulsar_wire.specs.Views.{body_values}
use Rattle.pulsar_exchange.specs.Messages.{written}
use Rattle.pulsar_calls.specs.Content.{Replies, answered}
use Rattle.pulsar_calls.proofs.Lists.{map_map}
use Rattle.pulsar_calls.proofs.copying.copy_said.Goals as goal

pub returns-in_ok-copy_bodies-in-Replies : goal.returns-in_ok-copy_bodies-in-Replies
returns-in_ok-copy_bodies-in-Replies c =
    ap Replies (sym (map_map written body_values c.in_ok-copy_bodies-in-Replies.field-0.items)
    ∙ ap (map written) (c.in_ok-copy_bodies-in-Replies.ensures ∙ ap (map body_values) c.deref-in-Replies.ensures.value)
    ∙ map_map written body_values c.in-Replies.bodies.items)
    ∙ ap answered (sym c.in-Replies.is)
