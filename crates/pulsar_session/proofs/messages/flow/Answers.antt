use Rattle.pulsar_messages.specs.Messages.{command_of}
use Rattle.pulsar_messages.specs.Words.{SendFlow}
use Rattle.pulsar_session.proofs.Asking.{message_surely_made}
use Rattle.pulsar_session.proofs.messages.flow.Goals as goal

pub returns : goal.returns
returns c = message_surely_made c.flow.result c.without_payload.result (λ id. command_of id (SendFlow c.args.consumer_id c.args.permits)) c.flow.ensures c.without_payload.ensures
