-- For the code's contracts alone: an engine as the code keeps it.
use Rattle.std.specs.Option.{option_map}
use Rattle.pulsar_wire.specs.Views.{message_id_values}
use Rattle.pulsar_consumer.specs.Topic.{Engine}
use Rattle.pulsar_consumer.specs.declared.engine.ConsumerEngine.TheInside.{Inside}

abbrev pub engine_of : Inside → Engine
engine_of i =
    record {
      queue = i.queue;
      batch = i.batch;
      delay = i.delay;
      clock = i.clock;
      live = i.live;
      unread = i.unread.items;
      rest = i.rest.items;
      letters = i.letters.items;
      copying = option_map message_id_values i.copying;
      waiting = i.waiting.items;
      kept = i.kept;
      check = i.check;
      stopped = i.stopped;
    }
