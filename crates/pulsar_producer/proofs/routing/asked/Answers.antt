use Rattle.std.proofs.Common.{◌∙◌, sym, ap}
use Rattle.std.proofs.lemmas.Option.{slice_get-map}
use Rattle.pulsar_messages.specs.Content.{message_content}
use Rattle.pulsar_producer.specs.Routing.{asked}
use Rattle.pulsar_producer.proofs.routing.asked.Goals as goal

pub returns : goal.returns
returns g c =
    c.asked_at.ensures
    ∙ ap (λ o. asked o (message_content c.args.message.now) c.args.count) (sym (slice_get-map _ c.args.policies.now c.args.index))
