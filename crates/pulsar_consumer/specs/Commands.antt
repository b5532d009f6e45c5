-- The command that makes a subscription.  (Pulsar binary protocol, Consumer; PulsarApi.proto, CommandSubscribe)
use Rattle.std.specs.Prelude.{ℕ, List}
use Rattle.pulsar_messages.specs.Words.{Subscribe}
use Rattle.pulsar_searches.specs.declared.making.Command.{Command}
use Rattle.pulsar_incoming.specs.Content.{ConfigValues}
use Rattle.pulsar_consumer.specs.Topic.{Seen}

-- it is answered by a success
abbrev pub command : (topic : List ℕ) (number : ℕ) → ConfigValues → Command
command topic number c =
    record { topic = topic; request = Subscribe topic c.subscription c.sub_type number c.consumer_name c.options; answer = 13 }

-- a consumer is subscribed again under its own number
abbrev pub command_of : Seen → Command
command_of v = command v.topic v.number v.config
