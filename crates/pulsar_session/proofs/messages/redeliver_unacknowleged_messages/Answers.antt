use Rattle.std.proofs.Common.{map}
use Rattle.pulsar_wire.specs.Views.{message_id_values}
use Rattle.pulsar_messages.specs.Messages.{command_of}
use Rattle.pulsar_messages.specs.Words.{SendRedeliver}
use Rattle.pulsar_session.proofs.Asking.{message_surely_made}
use Rattle.pulsar_session.proofs.messages.redeliver_unacknowleged_messages.Goals as goal

pub returns : goal.returns
returns c = message_surely_made c.redeliver_unacknowleged_messages.result c.without_payload.result (λ id. command_of id (SendRedeliver c.args.consumer_id (map message_id_values c.args.ids.items))) c.redeliver_unacknowleged_messages.ensures c.without_payload.ensures
