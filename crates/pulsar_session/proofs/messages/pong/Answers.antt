use Rattle.pulsar_messages.specs.Messages.{command_of}
use Rattle.pulsar_messages.specs.Words.{SendPong}
use Rattle.pulsar_session.proofs.Asking.{message_surely_made}
use Rattle.pulsar_session.proofs.messages.pong.Goals as goal

pub returns : goal.returns
returns c = message_surely_made c.pong.result c.without_payload.result (λ id. command_of id SendPong) c.pong.ensures c.without_payload.ensures
