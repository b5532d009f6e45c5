use Rattle.pulsar_messages.specs.Messages.{command_of}
use Rattle.pulsar_messages.specs.Words.{SendPing}
use Rattle.pulsar_session.proofs.Asking.{message_surely_made}
use Rattle.pulsar_session.proofs.messages.ping.Goals as goal

pub returns : goal.returns
returns c = message_surely_made c.ping.result c.without_payload.result (λ id. command_of id SendPing) c.ping.ensures c.without_payload.ensures
