-- The batches of a topic producer, as a machine over news: one after the other is taken, sent, and settled. It has no end.
-- (Pulsar binary protocol, Batch messages)
use Rattle.std.specs.Prelude.{ℕ, List, [], ◌∷◌, length, map, Some, None, Result, Ok, Err, Bool, true, false, if◌then◌else◌}
use Rattle.pulsar_frame.specs.Batch.{EntryValues}
use Rattle.pulsar_messages.specs.Content.{ProducerMessageValues}
use Rattle.pulsar_searches.specs.declared.turn.Ways.{Ways}
use Rattle.pulsar_wire.specs.declared.error.Reason.{Reason}
use Rattle.pulsar_outgoing.specs.Batch.{batch_of, cut_report, entries_in, failed, member_of, not_written, receipt_fate, reports}
use Rattle.pulsar_producer.specs.Plans.{Sent, send_begins, send_told}
use Rattle.pulsar_outgoing.specs.Storage.{Item}
use Rattle.pulsar_outgoing.specs.declared.batch.Fate.{Fate}
use Rattle.pulsar_outgoing.specs.declared.batch.Fate.TheVariants as fate
use Rattle.pulsar_outgoing.specs.declared.batch.Member.{Member}
use Rattle.pulsar_producer.specs.declared.batching.Batching.{Batching}
use Rattle.pulsar_producer.specs.declared.batching.Batching.TheVariants.{Resting, Taking, Sending, Settling}
use Rattle.pulsar_producer.specs.declared.batching.Goes.{Goes}
use Rattle.pulsar_producer.specs.declared.deed.Deed.{Deed}
use Rattle.pulsar_producer.specs.declared.deed.Deed.TheVariants.{TakesBatch, Settles, Rests}
use Rattle.pulsar_producer.specs.News.{News}
use Rattle.pulsar_outgoing.specs.declared.news.News.TheVariants.{Told, Queued, InLine, HasTurn, Drew, Recalled, Numbered, Ready, HasBatch, Done}
use Rattle.pulsar_outgoing.specs.declared.orders.Errand.{Errand}
use Rattle.pulsar_producer.specs.declared.sending.Sending.{Sending as Send}
use Rattle.pulsar_producer.specs.declared.sending.Sending.TheVariants as send
use Rattle.pulsar_searches.specs.declared.transition.Transition.TheVariants.{Stays, Gives}

abbrev pub goes : Batching → Deed → Goes
goes state deed = record { state = state; deed = deed }

-- it waits until a batch was cut
abbrev pub rests : Goes
rests = goes Resting Rests

abbrev pub takes : Errand → Goes
takes e = goes Taking (TakesBatch e.producer)

-- those whose messages were in a batch are told what became of it
abbrev pub settles : List Member → (count : ℕ) → Fate → Goes
settles ms n f = goes Settling (Settles (reports n f ms))

-- it is sent as one message
abbrev pub sends : List Member → (count : ℕ) → Sent → Goes
sends ms n (Stays s deed) = goes (Sending ms n s) deed
sends ms n (Gives (Ok reply)) = settles ms n (receipt_fate reply)
sends ms n (Gives (Err f)) = settles ms n (failed f)

abbrev pub sends_batch : Errand → List Member → (count : ℕ) → Result ProducerMessageValues Reason → Goes
sends_batch e ms n (Ok m) = sends ms n (send_begins e m)
sends_batch e ms n (Err r) = settles ms n (not_written r)

-- where nothing but a flush was cut nothing is sent
abbrev pub starts_with : Errand → List Member → List EntryValues → Goes
starts_with e ms [] = settles ms 0 fate.Flushed
starts_with e ms (x ∷ xs) = sends_batch e ms (length (x ∷ xs)) (batch_of (x ∷ xs))

abbrev pub starts : Errand → List Item → Goes
starts e items = starts_with e (map member_of items) (entries_in items)

abbrev pub begins : Goes
begins = rests

abbrev pub in_resting : Errand → News → Goes
in_resting e Ready = takes e
in_resting e (Told o) = rests
in_resting e Queued = rests
in_resting e InLine = rests
in_resting e (HasTurn version) = rests
in_resting e (Drew d) = rests
in_resting e (Recalled c) = rests
in_resting e (Numbered n) = rests
in_resting e (HasBatch items) = rests
in_resting e Done = rests

abbrev pub in_taking : Errand → News → Goes
in_taking e (HasBatch (Some items)) = starts e items
in_taking e (HasBatch None) = rests
in_taking e Ready = rests
in_taking e (Told o) = rests
in_taking e Queued = rests
in_taking e InLine = rests
in_taking e (HasTurn version) = rests
in_taking e (Drew d) = rests
in_taking e (Recalled c) = rests
in_taking e (Numbered n) = rests
in_taking e Done = rests

-- the next batch follows the outcome of the one before
abbrev pub told : Ways → Errand → Batching → News → Goes
told w e Resting n = in_resting e n
told w e Taking n = in_taking e n
told w e (Sending ms count s) n = sends ms count (send_told w e s n)
told w e Settling n = takes e

-- the frame of a batch is queued, and its receipt is waited for
abbrev pub is_sent_send : Send → Bool
is_sent_send send.Sent = true
is_sent_send (send.Waiting m) = false
is_sent_send (send.Drawing m) = false
is_sent_send (send.Asked kept) = false
is_sent_send (send.Recalling m) = false
is_sent_send (send.Looking m c l) = false
is_sent_send (send.Making m c k) = false
is_sent_send (send.Remaking m) = false
is_sent_send (send.Ending f) = false

abbrev pub is_sent : Batching → Bool
is_sent Resting = false
is_sent Taking = false
is_sent (Sending ms count s) = is_sent_send s
is_sent Settling = false

-- the client is stopped
abbrev pub cuts_off : (is_sent : Bool) → List Member → (count : ℕ) → Goes
cuts_off is_sent ms n = if is_sent then goes Settling (Settles (map cut_report ms)) else settles ms n fate.Halted

abbrev pub halted : Batching → Goes
halted Resting = rests
halted Taking = rests
halted (Sending ms count s) = cuts_off (is_sent_send s) ms count
halted Settling = rests
