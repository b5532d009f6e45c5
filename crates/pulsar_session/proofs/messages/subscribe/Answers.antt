use Rattle.std.specs.Option.{option_copied}
use Rattle.pulsar_messages.specs.Content.{consumer_options_values}
use Rattle.pulsar_messages.specs.Messages.{command_of}
use Rattle.pulsar_messages.specs.Words.{Subscribe}
use Rattle.pulsar_session.proofs.Asking.{message_made}
use Rattle.pulsar_session.proofs.messages.subscribe.Goals as goal

pub returns : goal.returns
returns c = message_made c.subscribe.result c.without_payload.result (command_of c.args.request_id (Subscribe c.args.topic.now c.args.subscription.now c.args.sub_type c.args.consumer_id (option_copied c.args.name) (consumer_options_values c.args.options.now))) c.subscribe.ensures c.without_payload.ensures
