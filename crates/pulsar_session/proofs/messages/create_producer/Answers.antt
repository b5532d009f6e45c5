use Rattle.std.specs.Option.{option_copied}
use Rattle.pulsar_messages.specs.Content.{producer_options_values}
use Rattle.pulsar_messages.specs.Messages.{command_of}
use Rattle.pulsar_messages.specs.Words.{CreateProducer}
use Rattle.pulsar_session.proofs.Asking.{message_made}
use Rattle.pulsar_session.proofs.messages.create_producer.Goals as goal

pub returns : goal.returns
returns c = message_made c.create_producer.result c.without_payload.result (command_of c.args.request_id (CreateProducer c.args.topic.now c.args.producer_id (option_copied c.args.name) (producer_options_values c.args.options.now))) c.create_producer.ensures c.without_payload.ensures
