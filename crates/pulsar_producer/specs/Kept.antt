-- For the code's contracts alone: a topic producer as the code keeps it.
use Rattle.pulsar_producer.specs.declared.topic_producer.TopicProducer.TheInside.{Inside}
use Rattle.pulsar_producer.specs.Topic.{Seen}

abbrev pub seen_of : Inside → Seen
seen_of i =
    record {
      topic = i.topic;
      number = i.number;
      link = i.link;
      given = i.given;
      next = i.next;
      holder = i.holder;
      waiting = i.line;
      is_closed = i.is_closed;
      storage = i.storage;
      cut = i.cut.items;
      is_under_way = i.is_under_way;
    }
