-- What a producer of batches stores, until it is cut into a batch.  (Pulsar binary protocol, Batch messages)
use Rattle.pulsar_outgoing.specs.declared.storage.BatchItem.TheVariants as item
use Rattle.std.specs.Prelude.{ℕ, ◌+◌, ℤ, pos, negsuc, nat_le, nat_lt, ◌||◌, Bool, true, false, List, [], ◌∷◌, ◌++◌, length, Option, Some, None}
use Rattle.std.specs.Option.{is_some}
use Rattle.pulsar_wire.specs.At.{int32_at}
use Rattle.pulsar_wire.specs.Rows.{single_message_metadata}
use Rattle.pulsar_wire.specs.Sink.{capped}
use Rattle.pulsar_frame.specs.Batch.{EntryValues, entry_values}
use Rattle.pulsar_messages.specs.Content.{ProducerOptionsValues}
use Rattle.pulsar_outgoing.specs.declared.storage.BatchItem.{BatchItem}
use Rattle.pulsar_outgoing.specs.declared.storage.Limits.{Limits}

-- a message, by the ticket of its send, or a flush, by the ticket of its call
pub data Item : Type 0 where
  SingleMessage : (ticket : ℕ) (entry : EntryValues) → Item
  Flush : (ticket : ℕ) → Item

abbrev pub item_of : BatchItem → Item
item_of (item.SingleMessage ticket message) = SingleMessage ticket (entry_values message)
item_of (item.Flush ticket) = Flush ticket

-- what is stored, in order, and how much of it is to be sent at the latest
pub record Storage : Type 0 where
  pub limits : Limits
  pub items : List Item

abbrev pub empty : Limits → Storage
empty limits = record { limits = limits; items = [] }

abbrev pub pushed : Item → Storage → Storage
pushed x s = record s { items = s.items ++ x ∷ [] }

abbrev pub emptied : Storage → Storage
emptied s = record s { items = [] }

-- the bytes of a payload, as its metadata says; a negative number counts as none
abbrev pub size_said : Option ℤ → ℕ
size_said None = 0
size_said (Some (pos n)) = n
size_said (Some (negsuc n)) = 0

abbrev pub entry_size : EntryValues → ℕ
entry_size e = size_said (int32_at 3 single_message_metadata e.metadata)

abbrev pub size_of : Item → ℕ
size_of (SingleMessage ticket e) = entry_size e
size_of (Flush ticket) = 0

abbrev pub bytes_of : List Item → ℕ
bytes_of [] = 0
bytes_of (x ∷ xs) = size_of x + bytes_of xs

abbrev pub is_flush : Item → Bool
is_flush (SingleMessage ticket e) = false
is_flush (Flush ticket) = true

abbrev pub ends_in_flush : List Item → Bool
ends_in_flush [] = false
ends_in_flush (x ∷ []) = is_flush x
ends_in_flush (x ∷ y ∷ more) = ends_in_flush (y ∷ more)

-- a limit that is there is reached
abbrev pub reaches : ℕ → Option ℕ → Bool
reaches n None = false
reaches n (Some limit) = nat_le limit n

-- it is to be sent: there are as many items as a batch may have, a flush among them, or as many bytes, or the last one is a flush
abbrev pub is_ready : Storage → Bool
is_ready s =
    reaches (length s.items) s.limits.max_size || (reaches (capped (bytes_of s.items)) s.limits.max_byte_size || ends_in_flush s.items)

-- BY ITS OPTIONS a producer batches where a batch has more than one message at most; and where that is not said, but how many bytes it has,
-- or how long it waits.
abbrev pub batches_by : (size : Option ℕ) → (is_limited : Bool) → Bool
batches_by (Some most) is_limited = nat_lt 1 most
batches_by None is_limited = is_limited

abbrev pub is_batching : ProducerOptionsValues → Bool
is_batching o = batches_by o.batch_size (is_some o.batch_byte_size || is_some o.batch_timeout)

abbrev pub limits_of : ProducerOptionsValues → Limits
limits_of o = record { max_size = o.batch_size; max_byte_size = o.batch_byte_size }

-- BATCHES. What is stored is cut into a batch once it is ready, and batches are under way one at a time.

-- nothing is stored
abbrev pub is_nothing : List Item → Bool
is_nothing [] = true
is_nothing (x ∷ xs) = false

-- who waits for what is stored, and for all that was cut and isn't under way
abbrev pub ticket_of : Item → ℕ
ticket_of (SingleMessage ticket e) = ticket
ticket_of (Flush ticket) = ticket
