-- For the code's contracts alone: an item as the code keeps it.
use Rattle.pulsar_wire.specs.Views.{message_id_values}
use Rattle.pulsar_wire.specs.Failures.{failure}
use Rattle.pulsar_frame.specs.Payload.{payload_values}
use Rattle.pulsar_frame.specs.declared.items.Unread.{Unread}
use Rattle.pulsar_frame.specs.declared.items.Unread.TheVariants.{Message, Failure}
use Rattle.pulsar_consumer.specs.Items.{Item, Given, Faulty}

abbrev pub item_of : Unread → Item
item_of (Message id payload) = Given (message_id_values id) (payload_values payload)
item_of (Failure e) = Faulty (failure e)
