use Rattle.std.proofs.Common.{◌∙◌, ap, Some}
use Rattle.pulsar_messages.specs.Content.{producer_message_values}
use Rattle.pulsar_messages.specs.Messages.{command_of, payload_content}
use Rattle.pulsar_messages.specs.Words.{Send}
use Rattle.pulsar_session.specs.Link.{payload_values_of}
use Rattle.pulsar_session.proofs.messages.send.Goals as goal

pub returns-in-Ok : goal.returns-in-Ok
returns-in-Ok c = λ id block.
    c.whole.ensures
    ∙ ap (λ w. record { command = w; payload = Some (payload_values_of (payload_content c.in-Ok.parts)) }) (c.in-Ok.ensures.command id block)
    ∙ ap (λ p. record { command = command_of id (Send c.args.producer_id c.args.name.now c.args.sequence_id (producer_message_values c.args.message) block); payload = Some (payload_values_of p) }) c.in-Ok.ensures.payload
