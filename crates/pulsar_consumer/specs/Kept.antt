-- For the code's contracts alone: a consumer as the code keeps it.
use Rattle.pulsar_consumer.specs.Topic.{Seen}
use Rattle.pulsar_consumer.specs.declared.topic_consumer.TopicConsumer.TheInside.{Inside}

abbrev pub seen_of : Inside → Seen
seen_of i =
    record {
      key = i.key;
      topic = i.topic;
      number = i.number;
      config = i.config;
      is_raw = i.is_raw;
      engine = i.engine;
      ended = i.ended;
      received = i.received;
      last = i.last;
    }
