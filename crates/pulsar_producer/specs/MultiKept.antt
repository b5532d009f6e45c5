-- For the code's contracts alone: a producer of many topics as the code keeps it.
use Rattle.std.specs.Prelude.{ℕ, List, map, Option, Some, None, Result, Ok, Err, String, string_bytes}
use Rattle.pulsar_messages.specs.Content.{ProducerMessageValues}
use Rattle.pulsar_wire.specs.Failures.{Failure}
use Rattle.pulsar_producer.specs.Dispatching.{dispatched}
use Rattle.pulsar_producer.specs.MultiTopic.{Seen}
use Rattle.pulsar_producer.specs.Producer as producer
use Rattle.pulsar_outgoing.specs.declared.multi_topic.Dispatch.{Dispatch}
use Rattle.pulsar_producer.specs.declared.multi_topic.producer.MultiTopicProducer.TheInside.{Inside}

abbrev pub named : {Z : Type 0} → String Z × producer.Seen → List ℕ × producer.Seen
named e = (string_bytes e.0, e.1)

abbrev pub multi_seen_of : Inside → Seen
multi_seen_of i =
    record {
      name = i.name;
      options = i.settings;
      topics = map named i.topics.entries;
      holder = i.holder;
      waiting = i.waiting.items;
    }

-- the producer of a topic takes a message, or refuses it; where there is none the message is given back
abbrev pub taken_by : Option producer.Seen → (said : Option ℕ) → ProducerMessageValues → Result (Result Dispatch Failure) ProducerMessageValues
taken_by None said m = Err m
taken_by (Some p) said m = Ok (dispatched said m p)
