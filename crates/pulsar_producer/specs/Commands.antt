-- The command that makes a producer.  (Pulsar binary protocol, Producer)
use Rattle.std.specs.Prelude.{ℕ, List, Option, Some}
use Rattle.pulsar_messages.specs.Content.{ProducerOptionsValues}
use Rattle.pulsar_messages.specs.Words.{CreateProducer}
use Rattle.pulsar_searches.specs.declared.making.Command.{Command}
use Rattle.pulsar_producer.specs.Topic.{Seen}

-- it is answered by a producer_success
abbrev pub command : (topic : List ℕ) (number : ℕ) (name : Option (List ℕ)) → ProducerOptionsValues → Command
command topic number name options = record { topic = topic; request = CreateProducer topic number name options; answer = 17 }

-- a producer is made again under its own number and the name that it has
abbrev pub command_of : ProducerOptionsValues → Seen → Command
command_of options v = command v.topic v.number (Some v.given.name) options
