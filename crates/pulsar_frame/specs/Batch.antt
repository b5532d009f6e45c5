-- Batches: several messages in one payload.  (Pulsar binary protocol, Batch messages)
use Rattle.std.specs.Prelude.{◌≡◌, ℕ, zero, suc, ℤ, pos, negsuc, ◌^◌, ◌<◌, List, [], ◌∷◌, ◌++◌, length, map, Option, Some, None, Result, Ok, Err}
use Rattle.std.specs.List.{flat_map, AllByRecursion}
use Rattle.pulsar_wire.specs.Field.{◌>>=◌, bytes_at}
use Rattle.pulsar_wire.specs.Row.{Values, reading, spelling}
use Rattle.pulsar_wire.specs.Fits.{InRange}
use Rattle.pulsar_wire.specs.declared.commands.ids.MessageIdData.{MessageIdData}
use Rattle.pulsar_wire.specs.declared.commands.metadata.MessageMetadata.{MessageMetadata}
use Rattle.pulsar_wire.specs.declared.commands.metadata.SingleMessageMetadata.{SingleMessageMetadata}
use Rattle.pulsar_wire.specs.At.{int32_at}
use Rattle.pulsar_wire.specs.Rows.{message_id, message_metadata, single_message_metadata}
use Rattle.pulsar_wire.specs.Views.{message_id_values, message_metadata_values, single_message_metadata_values}
use Rattle.pulsar_wire.specs.declared.error.ConnectionError.{ConnectionError}
use Rattle.pulsar_wire.specs.declared.error.ConnectionError.TheVariants.{Decoding, Encoding, NoMemory}
use Rattle.pulsar_wire.specs.declared.error.Reason.TheVariants.{Frame, Batch}
use Rattle.pulsar_frame.specs.Sized.{sized_at, with_size}
use Rattle.pulsar_frame.specs.Payload.{PayloadValues, payload_values}
use Rattle.pulsar_frame.specs.declared.payload.Payload.{Payload}
use Rattle.pulsar_frame.specs.declared.batch.BatchedMessage.{BatchedMessage}

-- an entry of a batch: what it says of its payload, and its payload
pub record EntryValues : Type 0 where
  pub metadata : Values single_message_metadata
  pub payload : List ℕ

abbrev pub entry_values : BatchedMessage → EntryValues
entry_values m = record { metadata = single_message_metadata_values m.metadata; payload = m.payload.items }

-- ---- reading

-- the next z bytes, and the bytes after them
unfoldable pub payload_of_size : ℤ → List ℕ → Option (List ℕ × List ℕ)
payload_of_size (pos n) bytes = bytes_at n bytes
payload_of_size (negsuc n) bytes = None

-- The entry in front, and the bytes after it: the size of its metadata, the metadata, and as many bytes as this says in
-- its field 3, payload_size.
unfoldable pub entry_at : List ℕ → Option (EntryValues × List ℕ)
entry_at bytes = do
  parts ← sized_at bytes
  metadata ← reading single_message_metadata parts.0
  size ← int32_at 3 single_message_metadata metadata
  payload ← payload_of_size size parts.1
  Some (record { metadata = metadata; payload = payload.0 }, payload.1)

-- So many entries, one behind the other. What follows them is not looked at.
unfoldable pub entries : ℕ → List ℕ → Option (List EntryValues)
entries zero bytes = Some []
entries (suc n) bytes = do
  first ← entry_at bytes
  others ← entries n first.1
  Some (first.0 ∷ others)

-- A call reads what a batch holds, seen by view, or Decoding says that it is broken. Memory may run out.
abbrev pub ReadsBatch : {X Y : Type 0} → (X → Y) → Result X ConnectionError → Option Y → Type 0
ReadsBatch view (Ok x) reading = reading ≡ Some (view x)
ReadsBatch view (Err (Decoding Batch)) reading = reading ≡ None
ReadsBatch view (Err NoMemory) reading = Unit {0}
ReadsBatch view (Err _) reading = ⊥

-- ---- the messages of a batch

-- a message by itself: its id, and its payload
abbrev pub Item : Type 0
Item = Values message_id × PayloadValues

abbrev pub item_values : MessageIdData × Payload → Item
item_values x = (message_id_values x.0, payload_values x.1)

-- the first of a message's fields, and the others
infixr 4 ◌▸◌
pattern abbrev pub ◌▸◌ : {A B : Type 0} → A → B → A × B
field ▸ others = (field, others)

-- field 11 of a frame's metadata
abbrev pub num_messages_in_batch : Values message_metadata → Option ℤ
num_messages_in_batch
    (producer_name ▸ sequence_id ▸ publish_time ▸ properties ▸ replicated_from ▸ partition_key ▸ replicate_to
    ▸ compression ▸ uncompressed_size ▸ num_messages ▸ others) =
    num_messages

-- how many entries a payload has, where its metadata says so
abbrev pub count_of : Option ℤ → Option ℕ
count_of (Some (pos n)) = Some n
count_of _ = None

abbrev pub batch_count : Values message_metadata → Option ℕ
batch_count m = count_of (num_messages_in_batch m)

-- an id with this index
abbrev pub with_index : ℕ → Values message_id → Values message_id
with_index i (ledger_id ▸ entry_id ▸ partition ▸ batch_index ▸ others) =
    ledger_id ▸ entry_id ▸ partition ▸ Some (pos i) ▸ others

-- The metadata of a frame, with what an entry says in place of its own: properties, partition key, event time and
-- ordering key, also where the entry has none.
abbrev pub of_entry : Values message_metadata → Values single_message_metadata → Values message_metadata
of_entry
    (producer_name ▸ sequence_id ▸ publish_time ▸ own_properties ▸ replicated_from ▸ own_partition_key ▸ replicate_to
    ▸ compression ▸ uncompressed_size ▸ num_messages ▸ own_event_time ▸ encryption_keys ▸ encryption_algo
    ▸ encryption_param ▸ schema_version ▸ own_ordering_key ▸ others)
    (properties ▸ partition_key ▸ payload_size ▸ event_time ▸ ordering_key ▸ end) =
    producer_name ▸ sequence_id ▸ publish_time ▸ properties ▸ replicated_from ▸ partition_key ▸ replicate_to
    ▸ compression ▸ uncompressed_size ▸ num_messages ▸ event_time ▸ encryption_keys ▸ encryption_algo
    ▸ encryption_param ▸ schema_version ▸ ordering_key ▸ others

-- the message of an entry
abbrev pub item : ℕ → Values message_id → Values message_metadata → EntryValues → Item
item i id m e = (with_index i id, record { metadata = of_entry m e.metadata; bytes = e.payload })

-- the messages of entries, whose indexes count up from i
unfoldable pub items_from : ℕ → Values message_id → Values message_metadata → List EntryValues → List Item
items_from i id m [] = []
items_from i id m (e ∷ es) = item i id m e ∷ items_from (suc i) id m es

-- The messages of a payload that is a batch, in order.
unfoldable pub batch_items : Values message_id → PayloadValues → Option (List Item)
batch_items id p = do
  count ← batch_count p.metadata
  es ← entries count p.bytes
  Some (items_from 0 id p.metadata es)

-- the messages of this payload, under this id
abbrev pub items_under : MessageIdData → Payload → Option (List Item)
items_under id p = batch_items (message_id_values id) (payload_values p)

-- the message of this entry, and the messages of these entries
abbrev pub item_made : ℕ → MessageIdData → MessageMetadata → BatchedMessage → Item
item_made i id m e = item i (message_id_values id) (message_metadata_values m) (entry_values e)

abbrev pub items_made : MessageIdData → MessageMetadata → List BatchedMessage → List Item
items_made id m es = items_from 0 (message_id_values id) (message_metadata_values m) (map entry_values es)

-- the metadata of a message is that of its frame, with what its entry says
abbrev pub IsDescribed : MessageMetadata → SingleMessageMetadata → MessageMetadata → Type 0
IsDescribed m e made =
    message_metadata_values made ≡ of_entry (message_metadata_values m) (single_message_metadata_values e)

-- ---- writing

-- the bytes of an entry: its metadata behind its size, and its payload
unfoldable pub entry_bytes : EntryValues → List ℕ
entry_bytes e = with_size (spelling single_message_metadata e.metadata) ++ e.payload

-- the size of the metadata fits four bytes
abbrev pub FitsSize : EntryValues → Type 0
FitsSize e = length (spelling single_message_metadata e.metadata) < 2 ^ 32

-- an i32 holds the size of the payload
abbrev pub FitsPayload : EntryValues → Type 0
FitsPayload e = length e.payload < 2 ^ 31

-- A call writes an entry behind what is there. Elsewhere all stays: a size does not fit, or memory ran out.
abbrev pub AppendsEntry : Result (Unit {0}) ConnectionError → EntryValues → List ℕ → List ℕ → Type 0
AppendsEntry (Ok done) e old new = FitsSize e × FitsPayload e × (new ≡ old ++ entry_bytes e)
AppendsEntry (Err (Encoding Frame)) e old new = (¬ FitsSize e) × (new ≡ old)
AppendsEntry (Err (Encoding Batch)) e old new = FitsSize e × (¬ FitsPayload e) × (new ≡ old)
AppendsEntry (Err NoMemory) e old new = new ≡ old
AppendsEntry (Err _) e old new = ⊥

-- ---- what was written is read

-- the bytes of a batch
unfoldable pub batch_bytes : List EntryValues → List ℕ
batch_bytes es = flat_map entry_bytes es

-- its metadata says the size of its payload
abbrev pub SaysItsSize : EntryValues → Type 0
SaysItsSize e = int32_at 3 single_message_metadata e.metadata ≡ Some (pos (length e.payload))

-- an entry that can be written
abbrev pub IsSound : EntryValues → Type 0
IsSound e = InRange single_message_metadata e.metadata × FitsSize e × SaysItsSize e

-- its bytes are read again, whatever follows
abbrev pub ReadsBack : EntryValues → Type 0
ReadsBack e = (t : List ℕ) → entry_at (entry_bytes e ++ t) ≡ Some (e, t)

-- The bytes of a batch, read with its count, give its entries unchanged and in order, whatever follows.
abbrev pub BatchesReadBack : Type 0
BatchesReadBack = (es : List EntryValues) (t : List ℕ) → AllByRecursion IsSound es
    → entries (length es) (batch_bytes es ++ t) ≡ Some es
