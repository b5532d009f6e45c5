use Rattle.std.proofs.Common.{map}
use Rattle.pulsar_wire.specs.Views.{message_id_values}
use Rattle.pulsar_messages.specs.Messages.{command_of}
use Rattle.pulsar_messages.specs.Words.{SendAck}
use Rattle.pulsar_session.proofs.Asking.{message_surely_made}
use Rattle.pulsar_session.proofs.messages.ack.Goals as goal

pub returns : goal.returns
returns c = message_surely_made c.ack.result c.without_payload.result (λ id. command_of id (SendAck c.args.consumer_id (map message_id_values c.args.ids.items) c.args.cumulative)) c.ack.ensures c.without_payload.ensures
