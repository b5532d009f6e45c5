-- What a message of the broker gives to a consumer, by content; and how that is handed out.  (Pulsar binary protocol, Consumer: Message; Batch
-- messages)
use Rattle.pulsar_wire.specs.declared.error.Reason.TheVariants as reason
use Rattle.pulsar_frame.specs.Batch as batch
use Rattle.std.specs.Prelude.{ℤ, Bool, true, false, List, [], ◌∷◌, map, Option, Some, None, if◌then◌else◌}
use Rattle.pulsar_wire.specs.Row.{Values}
use Rattle.pulsar_wire.specs.Rows.{message_id, message_metadata}
use Rattle.pulsar_wire.specs.declared.error.IoKind.TheVariants.{Other}
use Rattle.pulsar_wire.specs.Failures.{Failure, OfConnection, OfConsumer, ConsumerIo, Decoding}
use Rattle.pulsar_frame.specs.Batch.{batch_items, num_messages_in_batch}
use Rattle.pulsar_frame.specs.Items as written
use Rattle.pulsar_frame.specs.Items.{int32_in, is_compressed}
use Rattle.pulsar_frame.specs.Payload.{PayloadValues}

-- a message, with its id, or why there is none
pub data Item : Type 0 where
  Given : (id : Values message_id) (payload : PayloadValues) → Item
  Faulty : Failure → Item

-- as a poll hands it out: a message as it is written
abbrev pub handed : Item → written.Item
handed (Given id payload) = written.given (id, payload)
handed (Faulty f) = written.Faulty f

-- one that is no error counts as a message that was received
abbrev pub is_message : Item → Bool
is_message (Given id payload) = true
is_message (Faulty f) = false

-- a message by itself
abbrev pub given : batch.Item → Item
given x = Given x.0 x.1

-- the messages of a batch in order, or one fault where it doesn't parse
abbrev pub opened : Option (List batch.Item) → List Item
opened None = Faulty (OfConnection (Decoding reason.Batch)) ∷ []
opened (Some items) = map given items

-- a payload is a batch where it says how many entries it has, and else one message
abbrev pub counted : (count : Option ℤ) → Values message_id → PayloadValues → List Item
counted None id p = given (id, p) ∷ []
counted (Some n) id p = opened (batch_items id p)

-- what a payload gives: one fault where it is compressed
abbrev pub items_of : Values message_id → PayloadValues → List Item
items_of id p =
    if is_compressed (int32_in 8 message_metadata p.metadata) then Faulty (OfConsumer (ConsumerIo Other)) ∷ []
    else counted (num_messages_in_batch p.metadata) id p

-- a message without a payload gives nothing
abbrev pub items_behind : Option (Values message_id) → Option PayloadValues → List Item
items_behind (Some id) (Some p) = items_of id p
items_behind _ _ = []
