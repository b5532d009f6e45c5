-- What a message of the broker brings to a consumer.  (Pulsar binary protocol, Flow control; Batch messages)
use Rattle.std.specs.Prelude.{ℕ, Bool, List, [], ◌∷◌, Option, None, if◌then◌else◌}
use Rattle.pulsar_wire.specs.Command.{BodyValues}
use Rattle.pulsar_frame.specs.Payload.{PayloadValues}
use Rattle.pulsar_frame.specs.Items.{weight_with}
use Rattle.pulsar_exchange.specs.Messages.{Reply, id_in, redeliveries_in}
use Rattle.pulsar_wire.specs.Failures.{Failure}
use Rattle.pulsar_incoming.specs.Content.{DeadLetterValues}
use Rattle.pulsar_consumer.specs.DeadLetters.{Letter, faults, is_dead, letters}
use Rattle.pulsar_consumer.specs.Items.{Item, Faulty, items_behind}

-- a frame for a consumer: how many permits it costs, its items, its entries that go to another topic, and how often its message was given
-- before
pub record Frame : Type 0 where
  pub weight : ℕ
  pub items : List Item
  pub letters : List Letter
  pub redeliveries : Option ℕ

-- a body brings its items, with the payload behind it: a message command alone says an id
abbrev pub frame_with : Option PayloadValues → Option BodyValues → Frame
frame_with p b = record { weight = weight_with p b; items = items_behind (id_in b) p; letters = []; redeliveries = redeliveries_in b }

-- the frame of a message
abbrev pub frame_in : Reply → Frame
frame_in r = record { weight = r.weight; items = items_behind r.id r.content.payload; letters = []; redeliveries = r.redeliveries }

-- of a dead letter the messages go to another topic
abbrev pub sorted : (is_dead : Bool) → Frame → Frame
sorted is_dead f = if is_dead then record f { items = faults f.items; letters = letters f.items } else record f { letters = [] }

abbrev pub frame_by : Option DeadLetterValues → Frame → Frame
frame_by policy f = sorted (is_dead policy f.redeliveries) f

-- what a subscription that could not be made again gives: why
abbrev pub failed : Failure → Frame
failed f = record { weight = 0; items = Faulty f ∷ []; letters = []; redeliveries = None }
