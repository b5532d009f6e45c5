use Rattle.std.proofs.Common.{◌≡◌, subst, string_bytes}
use Rattle.std.specs.Option.{option_copied}
use Rattle.pulsar_messages.specs.Content.{producer_options_values}
use Rattle.pulsar_messages.specs.Words.{CreateProducer}
use Rattle.pulsar_frame.specs.Shown.{message_values}
use Rattle.pulsar_session.specs.Link as link
use Rattle.pulsar_discovery.proofs.outcome.create_producer.Goals as goal

pub returns : goal.returns
returns c =
    let o = producer_options_values c.args.options.now in
    let m = message_values c.in_ok-message.message in
    subst (λ n. m ≡ link.message_of 0 0 (CreateProducer (string_bytes c.args.topic.now) c.args.producer_id n o)) c.text.ensures
    (subst (λ t. m ≡ link.message_of 0 0 (CreateProducer t c.args.producer_id (option_copied c.text.result) o)) c.as_str.ensures.value
    (c.in_ok-message.ensures 0))
