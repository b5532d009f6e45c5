-- For the code's contracts alone: a frame as the code keeps it.
use Rattle.pulsar_consumer.specs.Frames.{Frame}
use Rattle.pulsar_consumer.specs.declared.frame.Frame.TheInside.{Inside}

abbrev pub frame_of : Inside → Frame
frame_of i = record { weight = i.weight; items = i.items.items; letters = i.letters.items; redeliveries = i.redeliveries }
