-- Batches: how messages become entries of one message, and what each sender is told of that.  (Pulsar binary protocol, Batch messages)
use Rattle.std.specs.Prelude.{ℕ, ◌+◌, ◌-◌, ◌^◌, ℤ, pos, min, nat_lt, if◌then◌else◌, List, [], ◌∷◌, length, Option, Some, None, Result, Ok, Err}
use Rattle.std.specs.Option.{option_map}
use Rattle.pulsar_wire.specs.Row.{Values, ◌&◌, spelling}
use Rattle.pulsar_wire.specs.Rows as rows
use Rattle.pulsar_wire.specs.declared.error.Reason.{Reason}
use Rattle.pulsar_wire.specs.declared.error.Reason.TheVariants as reason
use Rattle.pulsar_frame.specs.Batch.{◌▸◌, EntryValues, batch_bytes}
use Rattle.pulsar_messages.specs.Content.{ProducerMessageValues, empty_message}
use Rattle.pulsar_messages.specs.Messages.{properties_values}
use Rattle.pulsar_wire.specs.Failures.{Failure, OfBatch, Encoding, Disconnected}
use Rattle.pulsar_frame.specs.Reply.{Reply}
use Rattle.pulsar_outgoing.specs.Errors.{in_producer}
use Rattle.pulsar_outgoing.specs.Storage.{Item, SingleMessage, Flush}
use Rattle.pulsar_outgoing.specs.declared.batch.Fate.{Fate}
use Rattle.pulsar_outgoing.specs.declared.batch.Fate.TheVariants as fate
use Rattle.pulsar_outgoing.specs.declared.batch.Member.{Member}
use Rattle.pulsar_outgoing.specs.declared.batch.Member.TheVariants as member
use Rattle.pulsar_outgoing.specs.declared.batch.Report.{Report}

-- ENTRIES

-- the size of a payload, and the count of a batch, where an i32 holds it
abbrev pub size_in_i32 : ℕ → Option ℤ
size_in_i32 n = if nat_lt n (2 ^ 31) then Some (pos n) else None

-- A message as an entry of a batch: its properties, both keys and its event time, behind the size of its payload. What else it says is left
-- out.  (PulsarApi.proto, SingleMessageMetadata)
abbrev pub entry_with : (size : ℤ) → ProducerMessageValues → EntryValues
entry_with size m =
    record {
      metadata = properties_values m.properties & m.partition_key & size & m.event_time & m.ordering_key & tt;
      payload = m.payload;
    }

abbrev pub entry_of : ProducerMessageValues → Option EntryValues
entry_of m = option_map (λ size. entry_with size m) (size_in_i32 (length m.payload))

-- THE MESSAGE OF A BATCH

-- who is told what becomes of it
abbrev pub member_of : Item → Member
member_of (SingleMessage ticket e) = member.Message ticket
member_of (Flush ticket) = member.Flush ticket

abbrev pub entries_in : List Item → List EntryValues
entries_in [] = []
entries_in (SingleMessage ticket e ∷ xs) = e ∷ entries_in xs
entries_in (Flush ticket ∷ xs) = entries_in xs

-- its payload has the entries in order, and it says how many they are
abbrev pub batch_with : (count : ℤ) → List EntryValues → ProducerMessageValues
batch_with count es = record empty_message { payload = batch_bytes es; num_messages_in_batch = Some count }

-- an entry that can't be written: its metadata is too long, or its payload
abbrev pub entry_refusal : EntryValues → Option Reason
entry_refusal e =
    if nat_lt (length (spelling rows.single_message_metadata e.metadata)) (2 ^ 32)
    then (if nat_lt (length e.payload) (2 ^ 31) then None else Some reason.Batch)
    else Some reason.Frame

abbrev pub refusal_or : Option Reason → Option Reason → Option Reason
refusal_or None more = more
refusal_or (Some r) more = Some r

abbrev pub first_refusal : List EntryValues → Option Reason
first_refusal [] = None
first_refusal (e ∷ es) = refusal_or (entry_refusal e) (first_refusal es)

abbrev pub unless_refused : Option Reason → ProducerMessageValues → Result ProducerMessageValues Reason
unless_refused None m = Ok m
unless_refused (Some r) m = Err r

abbrev pub batch_counted : Option ℤ → List EntryValues → Result ProducerMessageValues Reason
batch_counted None es = Err reason.Batch
batch_counted (Some count) es = unless_refused (first_refusal es) (batch_with count es)

-- the message of a batch, or why it can't be written
abbrev pub batch_of : List EntryValues → Result ProducerMessageValues Reason
batch_of es = batch_counted (size_in_i32 (length es)) es

-- WHAT BECOMES OF IT

-- a number as it stands in the id of a message
abbrev pub signed : ℕ → ℤ
signed n = pos (min n (2 ^ 31 - 1))

-- The receipt of the i-th of n messages: its id says so, where there is one.  (PulsarApi.proto, MessageIdData)
abbrev pub placed_id : (i n : ℕ) → Values rows.message_id → Values rows.message_id
placed_id i n (ledger_id ▸ entry_id ▸ partition ▸ batch_index ▸ ack_set ▸ batch_size ▸ end) =
    ledger_id ▸ entry_id ▸ partition ▸ Some (signed i) ▸ ack_set ▸ Some (signed n) ▸ end

abbrev pub placed : (i n : ℕ) → Values rows.send_receipt → Values rows.send_receipt
placed i n (producer_id ▸ sequence_id ▸ id ▸ others) = producer_id ▸ sequence_id ▸ option_map (placed_id i n) id ▸ others

-- the i-th of n messages has what became of all of them; a flush is done, whatever that was
abbrev pub fate_at : (i n : ℕ) → Fate → Fate
fate_at i n (fate.Receipt receipt) = fate.Receipt (placed i n receipt)
fate_at i n (fate.Failed f) = fate.Failed f
fate_at i n fate.Halted = fate.Halted
fate_at i n fate.Flushed = fate.Flushed

abbrev pub flush_fate : Fate → Fate
flush_fate (fate.Receipt receipt) = fate.Flushed
flush_fate (fate.Failed f) = fate.Flushed
flush_fate fate.Halted = fate.Halted
flush_fate fate.Flushed = fate.Flushed

abbrev pub report_at : (i n : ℕ) → Fate → Member → Report
report_at i n f (member.Message ticket) = record { ticket = ticket; fate = fate_at i n f }
report_at i n f (member.Flush ticket) = record { ticket = ticket; fate = flush_fate f }

-- what each is told, in order
abbrev pub reports_from : (i n : ℕ) → Fate → List Member → List Report
reports_from i n f [] = []
reports_from i n f (m ∷ ms) = report_at i n f m ∷ reports_from (i + 1) n f ms

abbrev pub reports : (n : ℕ) → Fate → List Member → List Report
reports n f ms = reports_from 0 n f ms

-- a reply that is a receipt is what became of the batch
abbrev pub receipt_or_lost : Option (Values rows.send_receipt) → Fate
receipt_or_lost (Some receipt) = fate.Receipt receipt
receipt_or_lost None = fate.Failed (OfBatch (in_producer Disconnected))

abbrev pub receipt_fate : Reply → Fate
receipt_fate r = receipt_or_lost r.receipt

-- why it failed
abbrev pub failed : Failure → Fate
failed f = fate.Failed (OfBatch f)

abbrev pub not_written : Reason → Fate
not_written r = failed (in_producer (Encoding r))

-- The client is stopped while the frame of a batch waits for its receipt: its messages fail with their connection, and a flush is halted.
abbrev pub cut_report : Member → Report
cut_report (member.Message ticket) = record { ticket = ticket; fate = failed (in_producer Disconnected) }
cut_report (member.Flush ticket) = record { ticket = ticket; fate = fate.Halted }
