use Rattle.std.proofs.Common.{◌≡◌, subst, string_bytes}
use Rattle.std.specs.Option.{option_copied}
use Rattle.pulsar_messages.specs.Content.{consumer_options_values}
use Rattle.pulsar_messages.specs.Words.{Subscribe}
use Rattle.pulsar_frame.specs.Shown.{message_values}
use Rattle.pulsar_session.specs.Link as link
use Rattle.pulsar_discovery.proofs.outcome.subscribe.Goals as goal

pub returns : goal.returns
returns c =
    let o = consumer_options_values c.args.options.now in
    let m = message_values c.in_ok-message.message in
    let t = string_bytes c.args.topic.now in
    let s = string_bytes c.args.subscription.now in
    subst (λ n. m ≡ link.message_of 0 0 (Subscribe t s c.args.sub_type c.args.consumer_id n o)) c.text.ensures
    (subst (λ s'. m ≡ link.message_of 0 0 (Subscribe t s' c.args.sub_type c.args.consumer_id (option_copied c.text.result) o)) c.as_str-2.ensures.value
    (subst (λ t'. m ≡ link.message_of 0 0 (Subscribe t' c.as_str-2.result.now c.args.sub_type c.args.consumer_id (option_copied c.text.result) o)) c.as_str.ensures.value
    (c.in_ok-message.ensures 0)))
