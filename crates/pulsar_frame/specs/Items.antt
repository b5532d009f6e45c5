-- What a message of the broker gives to a consumer, and what it costs.  (Pulsar binary protocol, Consumer: Message; Flow control; Batch
-- messages)
use Rattle.pulsar_wire.specs.declared.error.Reason.TheVariants as reason
use Rattle.pulsar_frame.specs.Batch as batch
use Rattle.std.specs.Prelude.{ℕ, zero, ℤ, pos, negsuc, Bool, true, false, List, [], ◌∷◌, map, Option, Some, None, ◌==◌, if◌then◌else◌}
use Rattle.pulsar_wire.specs.Field.{◌>>=◌}
use Rattle.pulsar_wire.specs.Row.{Required, Optional, Int32, Row, End, Plain, Embedded, Numbers, Values, spelling, ◌&◌}
use Rattle.pulsar_wire.specs.Rows.{message_id, message_metadata}
use Rattle.pulsar_wire.specs.At.{uint64_at}
use Rattle.pulsar_wire.specs.Command.{BodyValues}
use Rattle.pulsar_wire.specs.declared.error.IoKind.TheVariants.{Other}
use Rattle.pulsar_frame.specs.Batch.{batch_items, num_messages_in_batch}
use Rattle.pulsar_frame.specs.Message.{MessageValues}
use Rattle.pulsar_frame.specs.Payload.{PayloadValues}
use Rattle.pulsar_wire.specs.Failures.{Failure, OfConnection, OfConsumer, ConsumerIo, Decoding}

-- what a consumer is given: a message, with its id and its metadata as they are written and with the number of entries of its batch, or
-- why there is none
pub data Item : Type 0 where
  Given : (id : List ℕ) (batch_size : Option ℤ) (metadata payload : List ℕ) → Item
  Faulty : Failure → Item

-- THE ID OF A MESSAGE

-- a message that stands in another
pub record Inner : Type 0 where
  pub row : Row
  pub values : Values row

-- the message that stands in field n, which is required
abbrev pub inner_at : ℕ → (row : Row) → Values row → Option Inner
inner_at n End vs = None
inner_at n (Embedded m Required inner row) vs = if m == n then Some (record { row = inner; values = vs.0 }) else inner_at n row vs.1
inner_at n (Embedded m r inner row) vs = inner_at n row vs.1
inner_at n (Plain m r k row) vs = inner_at n row vs.1
inner_at n (Numbers m row) vs = inner_at n row vs.1

-- the signed number in field n, which may be absent
abbrev pub int32_in : ℕ → (row : Row) → Values row → Option ℤ
int32_in n End vs = None
int32_in n (Plain m Optional Int32 row) vs = if m == n then vs.0 else int32_in n row vs.1
int32_in n (Plain m r k row) vs = int32_in n row vs.1
int32_in n (Embedded m r inner row) vs = int32_in n row vs.1
int32_in n (Numbers m row) vs = int32_in n row vs.1

-- the numbers of field n
abbrev pub numbers_in : ℕ → (row : Row) → Values row → List ℤ
numbers_in n End vs = []
numbers_in n (Numbers m row) vs = if m == n then vs.0 else numbers_in n row vs.1
numbers_in n (Plain m r k row) vs = numbers_in n row vs.1
numbers_in n (Embedded m r inner row) vs = numbers_in n row vs.1

-- the id that a message says
abbrev pub id_in : Inner → Option (Values message_id)
id_in m = do
  ledger ← uint64_at 1 m.row m.values
  entry ← uint64_at 2 m.row m.values
  Some (ledger & entry & int32_in 3 m.row m.values & int32_in 4 m.row m.values & numbers_in 5 m.row m.values & int32_in 6 m.row m.values & tt)

-- the id of the message that a message command brings
abbrev pub id_of_body : BodyValues → Option (Values message_id)
id_of_body b = inner_at 2 b.row b.values >>= id_in

-- ITEMS

-- a message by itself
abbrev pub given : batch.Item → Item
given x = Given (spelling message_id x.0) (num_messages_in_batch x.1.metadata) (spelling message_metadata x.1.metadata) x.1.bytes

-- a compression other than none, which is 0
abbrev pub is_compressed : Option ℤ → Bool
is_compressed None = false
is_compressed (Some (pos zero)) = false
is_compressed (Some _) = true

-- the messages of a batch in order, or one fault where it doesn't parse
abbrev pub opened : Option (List batch.Item) → List Item
opened None = Faulty (OfConnection (Decoding reason.Batch)) ∷ []
opened (Some items) = map given items

-- a payload is a batch where it says how many entries it has, and else one message
abbrev pub counted : (count : Option ℤ) → Values message_id → PayloadValues → List Item
counted None id p = given (id, p) ∷ []
counted (Some n) id p = opened (batch_items id p)

-- what a payload gives: one fault where it is compressed
abbrev pub items_of : Values message_id → PayloadValues → List Item
items_of id p =
    if is_compressed (int32_in 8 message_metadata p.metadata) then Faulty (OfConsumer (ConsumerIo Other)) ∷ []
    else counted (num_messages_in_batch p.metadata) id p

-- a message without a payload gives nothing
abbrev pub items_behind : Option (Values message_id) → Option PayloadValues → List Item
items_behind (Some id) (Some p) = items_of id p
items_behind _ _ = []

-- what a body, with what stands behind it, gives: a message command alone gives items
abbrev pub items_with : Option PayloadValues → Option BodyValues → List Item
items_with p None = []
items_with p (Some b) = if b.number == 9 then items_behind (id_of_body b) p else []

abbrev pub items_in : MessageValues → List Item
items_in m = items_with m.payload m.command.body

-- PERMITS

-- a message costs as many permits as its batch has entries, none where that number is negative, and one where it is no batch
abbrev pub weight_of : (count : Option ℤ) → ℕ
weight_of None = 1
weight_of (Some (pos n)) = n
weight_of (Some (negsuc n)) = 0

abbrev pub weight_behind : Option PayloadValues → ℕ
weight_behind None = 1
weight_behind (Some p) = weight_of (num_messages_in_batch p.metadata)

-- a message command alone costs permits
abbrev pub weight_with : Option PayloadValues → Option BodyValues → ℕ
weight_with p None = 0
weight_with p (Some b) = if b.number == 9 then weight_behind p else 0

abbrev pub weight_in : MessageValues → ℕ
weight_in m = weight_with m.payload m.command.body

-- an item that is no error counts as a message that was received
abbrev pub is_message : Item → Bool
is_message (Given id batch_size metadata payload) = true
is_message (Faulty f) = false
