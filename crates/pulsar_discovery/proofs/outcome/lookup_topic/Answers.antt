use Rattle.std.proofs.Common.{◌≡◌, subst}
use Rattle.pulsar_messages.specs.Words.{LookupTopic}
use Rattle.pulsar_frame.specs.Shown.{message_values}
use Rattle.pulsar_session.specs.Link as link
use Rattle.pulsar_discovery.proofs.outcome.lookup_topic.Goals as goal

pub returns : goal.returns
returns c =
    subst (λ t. message_values c.in_ok-message.message ≡ link.message_of 0 0 (LookupTopic t c.args.authoritative)) c.as_str.ensures.value
    (c.in_ok-message.ensures 0)
