-- What follows of the batches of producers, in plain words.
use Rattle.std.specs.Prelude.{◌≡◌, ◌⊎◌, ℕ, ◌+◌, ◌≤◌, ◌<◌, ◌==◌, ◌&&◌, Bool, true, false, if◌then◌else◌, List, [], ◌∷◌, ◌++◌, length, map, Option, Some, None, Result, Ok, Err}
use Rattle.pulsar_run.specs.Laws.{In, InThisStep}
use Rattle.pulsar_frame.specs.Batch.{EntryValues}
use Rattle.pulsar_wire.specs.Row.{Values, spelling}
use Rattle.pulsar_wire.specs.Rows.{send_receipt}
use Rattle.pulsar_wire.specs.Sink.{capped}
use Rattle.pulsar_wire.specs.declared.key.RequestKey.TheVariants as key
use Rattle.pulsar_messages.specs.Content.{ProducerMessageValues}
use Rattle.pulsar_messages.specs.Words as words
use Rattle.pulsar_messages.specs.Words.{Words}
use Rattle.pulsar_searches.specs.declared.turn.Ways.{Ways}
use Rattle.pulsar_wire.specs.Failures.{Disconnected, Encoding, Failure, OfBatch, Shutdown}
use Rattle.pulsar_wire.specs.declared.error.Reason.{Reason}
use Rattle.pulsar_exchange.specs.Messages.{Reply, is_body}
use Rattle.pulsar_outgoing.specs.declared.multi_topic.Taker.TheVariants as taker
use Rattle.pulsar_outgoing.specs.Batch.{batch_of, entries_in, entry_of, placed}
use Rattle.pulsar_outgoing.specs.Errors.{in_producer}
use Rattle.pulsar_producer.specs.BatchLaws.{cut_by, items_of, joined, taken_of}
use Rattle.pulsar_messages.specs.Message.{with_version}
use Rattle.pulsar_outgoing.specs.Storage.{Item, SingleMessage, Flush, bytes_of, is_nothing}
use Rattle.pulsar_producer.specs.Producer as producer
use Rattle.pulsar_producer.specs.Topic.{Act as Deed, Cuts, Setup, seen}
use Rattle.pulsar_outgoing.specs.declared.batch.Fate.{Fate}
use Rattle.pulsar_outgoing.specs.declared.batch.Fate.TheVariants as fate
use Rattle.pulsar_producer.specs.declared.batching.Batching.{Batching}
use Rattle.pulsar_producer.specs.declared.batching.Batching.TheVariants as batching
use Rattle.pulsar_outgoing.specs.declared.news.News.TheVariants as news
use Rattle.pulsar_outgoing.specs.declared.orders.Errand.{Errand}
use Rattle.pulsar_outgoing.specs.declared.orders.ProducerOrder.{ProducerOrder}
use Rattle.pulsar_calls.specs.declared.act.Act.TheVariants.{Answers, Comes, Starts, Told, Does}
use Rattle.pulsar_calls.specs.declared.act.Action.{Action}
use Rattle.pulsar_calls.specs.declared.act.Action.TheVariants as action
use Rattle.pulsar_calls.specs.declared.act.Action.TheVariants.{OfTopic, Ask, Get, Shut, TellAll, Wait}
use Rattle.pulsar_calls.specs.declared.act.Alarm.TheVariants.{Wake}
use Rattle.pulsar_calls.specs.declared.act.TopicAsk.TheVariants.{Store, TakeBatch}
use Rattle.pulsar_calls.specs.declared.act.Makes.TheVariants.{Nothing}
use Rattle.pulsar_calls.specs.declared.act.Notice.{Notice}
use Rattle.pulsar_calls.specs.declared.act.Outcome.{Outcome}
use Rattle.pulsar_calls.specs.declared.act.Outcome.TheVariants as outcome
use Rattle.pulsar_calls.specs.declared.act.Procedure.TheVariants as procedure
use Rattle.pulsar_calls.specs.declared.act.Share.{Share}
use Rattle.pulsar_calls.specs.declared.act.Verdict.{Verdict}
use Rattle.pulsar_calls.specs.declared.act.Who.{Who}
use Rattle.pulsar_calls.specs.declared.act.Who.TheVariants.{Call, Consumer, Producer}
use Rattle.pulsar_plans.specs.declared.plan.Plan.{Plan}
use Rattle.pulsar_producer_table.specs.declared.table.Topic.{Topic}
use Rattle.pulsar_calls.specs.Content.{Asked, Failed, Receipt, sent_by}
use Rattle.pulsar_laws.specs.Laws.{AreActs, FailsSo, IsDropped, started}
use Rattle.pulsar_plans.specs.Plan.{closed_notice, fails, overrides, verdict}
use Rattle.pulsar_laws.specs.ProducerLaws.{Dealing, DealsWithNone, GoesRound, Sends, SendsBatches, acts_on, asks_in, dealing, is_queued, queued_times, version_told}
use Rattle.pulsar_producer_table.specs.Producers.{is_bare, is_settled_at, next_batch_at, numbers_at, stored_at, timeout_at}
use Rattle.pulsar_acts.specs.Rules.{call_part, notice, ready_notice}
use Rattle.pulsar_acts.specs.Run.{Entry, Then, IsRun, Rests, view}
use Rattle.pulsar_acts.specs.View.{View}
use Rattle.pulsar_links.specs.Alarms.{moment_of}
use Rattle.pulsar_links.specs.Seats.{Seat}
use Rattle.pulsar_machine.specs.Options.{Options}
use Rattle.pulsar_calls.specs.Who.{behind_all, is_same}

-- ONE BATCH AFTER THE OTHER

-- the batch that is under way at the topic producer of a number: the one that it took last, until those of it are told
abbrev pub under_way : Options → (number : ℕ) → List Entry → Option (List Item)
under_way o n [] = None
under_way o n (Then (Starts who p) ∷ log) = if is_same (Producer n) who then None else under_way o n log
under_way o n (Then (Does who (OfTopic m TakeBatch)) ∷ log) =
    if is_same (Producer n) who then next_batch_at ((view o log).producers.topics m) else under_way o n log
under_way o n (Then (Does who (TellAll ns)) ∷ log) = if is_same (Producer n) who then None else under_way o n log
under_way o n (_ ∷ log) = under_way o n log

-- it is told so where one is ready, or has just told those of the batch before
abbrev pub MayTake : (number : ℕ) → List Entry → Type 0
MayTake n log =
    (older : List Entry)
    × ((log ≡ Then (Told (ready_notice n)) ∷ older)
    ⊎ ((ns : List Notice)
    × (log ≡ Then (Told (notice (Producer n) (outcome.Granted news.Done))) ∷ Then (Does (Producer n) (TellAll ns)) ∷ older)))

-- A topic producer takes its next batch only where none is under way: all of the one before were told.
abbrev pub BatchesOneByOne : Type 0
BatchesOneByOne = (o : Options) (log : List Entry) (n m : ℕ) → IsRun o (Then (Does (Producer n) (OfTopic m TakeBatch)) ∷ log) →
    (m ≡ n) × (under_way o n log ≡ None) × MayTake n log

-- ONE THING AT A TIME

-- it waits for no reply, for the link of no address, and for no moment
abbrev pub WaitsForNothing : Who → View → Type 0
WaitsForNothing who v =
    ((l place : ℕ) (seat : Seat) → v.links.live l ≡ Some seat → seat.askers place ≡ Some who → ⊥)
    × ((key : List ℕ) → In who (v.addresses.base key).waiting → ⊥) × (moment_of (Wake who) v.alarms ≡ None)

-- what comes from others, or with time; what topic producers and consumers are asked comes from the client itself
abbrev pub asks_others : Action → Bool
asks_others (Get p) = true
asks_others (Ask l request) = true
asks_others (Wait delay) = true
asks_others (OfTopic m ask) = false
asks_others action.Number = false
asks_others (action.Hold l m) = false
asks_others (Shut t) = false
asks_others (action.TakeNumber wanted) = false
asks_others (action.OfConsumer ask) = false
asks_others (action.Tell notice) = false
asks_others (TellAll notices) = false
asks_others action.StopAll = false
asks_others action.Rest = false

-- A topic producer waits for one thing at a time: as it asks for something it waits for nothing else.
abbrev pub OneThingAtATime : Type 0
OneThingAtATime = (o : Options) (log : List Entry) (n : ℕ) (a : Action) → IsRun o (Then (Does (Producer n) a) ∷ log) → asks_others a ≡ true →
    WaitsForNothing (Producer n) (view o log)

-- WHAT BECOMES OF A BATCH

-- how often a frame was queued for the batch that was taken last
abbrev pub asks_in_batch : Batching → Bool
asks_in_batch batching.Resting = false
asks_in_batch batching.Taking = false
asks_in_batch (batching.Sending ms count s) = asks_in s
asks_in_batch batching.Settling = false

abbrev pub asks_batch_as : Dealing → Bool
asks_batch_as (Sends e s) = false
asks_batch_as (SendsBatches e b) = asks_in_batch b
asks_batch_as (GoesRound n x) = false
asks_batch_as DealsWithNone = false

abbrev pub asks_batch : Option Plan → Bool
asks_batch None = false
asks_batch (Some p) = asks_batch_as (dealing p)

abbrev pub frames_queued : Options → (number : ℕ) → List Entry → ℕ
frames_queued o n [] = 0
frames_queued o n (Then (Told x) ∷ log) =
    if is_same (Producer n) x.who && (is_queued x.outcome && asks_batch ((view o log).stand (Producer n)))
    then frames_queued o n log + 1 else frames_queued o n log
frames_queued o n (Then (Does who (OfTopic m TakeBatch)) ∷ log) = if is_same (Producer n) who then 0 else frames_queued o n log
frames_queued o n (_ ∷ log) = frames_queued o n log

-- what a topic producer asked for last, since it took a batch
abbrev pub asked_last : (number : ℕ) → List Entry → Option Words
asked_last n [] = None
asked_last n (Then (Does who (Ask l request)) ∷ log) = if is_same (Producer n) who then Some request else asked_last n log
asked_last n (Then (Does who (OfTopic m TakeBatch)) ∷ log) = if is_same (Producer n) who then None else asked_last n log
asked_last n (_ ∷ log) = asked_last n log

-- since it took this batch it asked for a frame that bears this number, and for nothing behind that
abbrev pub AskedSince : (number sequence : ℕ) → List Entry → Type 0
AskedSince n s log = (name : List ℕ) × (m : ProducerMessageValues) × (block : Bool) × (asked_last n log ≡ Some (words.Send n name s m block))

-- what a topic producer was told since it took a batch, newest first
abbrev pub told_since : (number : ℕ) → List Entry → List Outcome
told_since n [] = []
told_since n (Then (Told x) ∷ log) = if is_same (Producer n) x.who then x.outcome ∷ told_since n log else told_since n log
told_since n (Then (Does who (OfTopic m TakeBatch)) ∷ log) = if is_same (Producer n) who then [] else told_since n log
told_since n (_ ∷ log) = told_since n log

-- The batch of these items failed as the send of its one message does: with the fault of an outcome that its topic producer was told since it
-- took the batch, or of a reply among these.
abbrev pub FailedSo : (number : ℕ) → List Entry → List Item → Failure → Type 0
FailedSo n log items cause =
    (w : Ways) × (e : Errand) × (m : ProducerMessageValues) × (e.producer ≡ n) × (batch_of (entries_in items) ≡ Ok m)
    × FailsSo (procedure.Send w e None m) (told_since n log) cause

-- what a reply that is a receipt makes of it: its messages fail with their connection where the reply has none
abbrev pub fate_by : Option (Values send_receipt) → Fate
fate_by (Some receipt) = fate.Receipt receipt
fate_by None = fate.Failed (OfBatch (in_producer Disconnected))

-- its frame was queued, once, and its receipt came: that of the one that its topic producer asked for since it took this batch; or its send
-- failed, for this cause; or it could not be written; or the client was stopped; or there was no message in it
abbrev pub IsFateOf : Options → (number : ℕ) → List Entry → List Item → Outcome → Fate → Type 0
IsFateOf o n log items u f =
    ((r : Reply) × (s : ℕ) × (u ≡ outcome.Replied r) × (is_body 7 r.content.body ≡ true) × (r.content.key ≡ Some (key.ProducerSend n s))
    × AskedSince n s log × (frames_queued o n log ≡ 1) × (f ≡ fate_by r.content.receipt))
    ⊎ ((cause : Failure) × FailedSo n log items cause × (f ≡ fate.Failed (OfBatch cause)))
    ⊎ ((r : Reason) × (batch_of (entries_in items) ≡ Err r) × (f ≡ fate.Failed (OfBatch (in_producer (Encoding r)))))
    ⊎ ((overrides u ≡ true) × (f ≡ fate.Halted))
    ⊎ ((entries_in items ≡ []) × (f ≡ fate.Flushed))

-- A receipt that a topic producer is told is that of the frame that it asked for since it took its batch. So none of an earlier batch settles it.
abbrev pub ReceiptsOfBatches : Type 0
ReceiptsOfBatches = (o : Options) (log : List Entry) (n : ℕ) (r : Reply) → IsRun o (Then (Told (notice (Producer n) (outcome.Replied r))) ∷ log) →
    is_body 7 r.content.body ≡ true → (s : ℕ) × (r.content.key ≡ Some (key.ProducerSend n s)) × AskedSince n s log

-- what the i-th of n messages is told of what became of its batch: the receipt, with i and n in its id; why the batch failed, for just this cause; or
-- that the client was stopped
abbrev pub message_told : (i n : ℕ) → Fate → Outcome
message_told i n (fate.Receipt receipt) = outcome.Settled (Ok (placed i n receipt))
message_told i n (fate.Failed f) = outcome.Settled (Err f)
message_told i n fate.Halted = outcome.Stopped
message_told i n fate.Flushed = outcome.Granted news.Done

-- and a flush, which is done also where its batch failed
abbrev pub flush_told : Fate → Outcome
flush_told (fate.Receipt receipt) = outcome.Granted news.Done
flush_told (fate.Failed f) = outcome.Granted news.Done
flush_told fate.Halted = outcome.Stopped
flush_told fate.Flushed = outcome.Granted news.Done

abbrev pub item_told : (i n : ℕ) → Fate → Item → Notice
item_told i n f (SingleMessage ticket e) = notice (Call ticket) (message_told i n f)
item_told i n f (Flush ticket) = notice (Call ticket) (flush_told f)

-- what all of them are told, in order
abbrev pub batch_told : (i n : ℕ) → Fate → List Item → List Notice
batch_told i n f [] = []
batch_told i n f (x ∷ xs) = item_told i n f x ∷ batch_told (i + 1) n f xs

-- what one is told where the client is stopped while the frame waits for its receipt
abbrev pub cut_told : Item → Notice
cut_told (SingleMessage ticket e) = notice (Call ticket) (outcome.Settled (Err (OfBatch (in_producer Disconnected))))
cut_told (Flush ticket) = notice (Call ticket) outcome.Stopped

-- Those of a batch are told together, right behind what its producer is told of it: each what became of its message, with its place in the
-- batch and the count of its messages. Where the client is stopped while its frame waits for a receipt, its messages are lost.
abbrev pub TellsBatch : Options → (number : ℕ) → List Notice → List Entry → Type 0
TellsBatch o n ns log =
    (items : List Item) × (u : Outcome) × (older : List Entry) × (under_way o n log ≡ Some items) × (log ≡ Then (Told (notice (Producer n) u)) ∷ older)
    × (((f : Fate) × IsFateOf o n log items u f × (ns ≡ batch_told 0 (length (entries_in items)) f items))
    ⊎ ((overrides u ≡ true) × (ns ≡ map cut_told items)))

abbrev pub MembersAreTold : Type 0
MembersAreTold = (o : Options) (log : List Entry) (n : ℕ) (ns : List Notice) → IsRun o (Then (Does (Producer n) (TellAll ns)) ∷ log) → TellsBatch o n ns log

-- what a topic producer is told of what it does itself, or of the place of its frame
abbrev pub is_granted : Outcome → Bool
is_granted (outcome.GotLink l) = false
is_granted outcome.NotFound = false
is_granted (outcome.Failed kind) = false
is_granted outcome.Canceled = false
is_granted outcome.Queued = true
is_granted outcome.InLine = true
is_granted (outcome.Refused cause) = false
is_granted (outcome.Replied r) = false
is_granted outcome.TimedOut = false
is_granted outcome.Disconnected = false
is_granted outcome.Woken = false
is_granted (outcome.Granted n) = true
is_granted (outcome.Parted ticket f) = false
is_granted (outcome.Settled f) = false
is_granted (outcome.Word w) = false
is_granted outcome.Cut = false
is_granted outcome.Stopped = false

-- A batch whose frame was queued waits for what becomes of that: nothing that its topic producer is granted settles it, so that the next one is
-- taken.
abbrev pub QueuedIsWaitedFor : Type 0
QueuedIsWaitedFor = (o : Options) (log : List Entry) (n : ℕ) (ns : List Notice) (u : Outcome) (older : List Entry) →
    IsRun o (Then (Does (Producer n) (TellAll ns)) ∷ log) → log ≡ Then (Told (notice (Producer n) u)) ∷ older → 1 ≤ frames_queued o n older →
    is_granted u ≡ false

-- THE FRAME OF A BATCH

-- The message of a frame that a topic producer asks for is that of the batch under way, with the version of the schema that it was told with this
-- turn, its newest; it has its turn. The frame goes to its link, bears its name, and the number that was drawn last.
abbrev pub FramesOfBatches : Type 0
FramesOfBatches = (o : Options) (log : List Entry) (n l k s : ℕ) (name : List ℕ) (m : ProducerMessageValues) (block : Bool) →
    IsRun o (Then (Does (Producer n) (Ask l (words.Send k name s m block))) ∷ log) →
    (items : List Item) × (whole : ProducerMessageValues) × (version : Option (List ℕ)) × (row : Topic) × (under_way o n log ≡ Some items)
    × (batch_of (entries_in items) ≡ Ok whole) × (m ≡ with_version version whole) × (k ≡ n) × ((view o log).producers.topics n ≡ Some row)
    × (row.seen.holder ≡ Some (taker.Call behind_all)) × (row.seen.link ≡ l) × (row.seen.given.name ≡ name) × (row.seen.next ≡ s + 1)
    × (version_told (Producer n) log ≡ Some version)

-- an entry asks for a frame of a topic producer by this number: that of the send of a call, or that of a batch
abbrev pub AsksFrame : (number sequence : ℕ) → Entry → List Entry → Type 0
AsksFrame n s e older =
    (l : ℕ) × (name : List ℕ) × (m : ProducerMessageValues) × (block : Bool)
    × (((t : ℕ) × (w : Ways) × (f : Errand) × (share : Option Share) × (given : ProducerMessageValues)
    × (e ≡ Then (Does (Call t) (Ask l (words.Send n name s m block)))) × (started (Call t) older ≡ Some (procedure.Send w f share given)))
    ⊎ ((k : ℕ) × (e ≡ Then (Does (Producer k) (Ask l (words.Send n name s m block))))))

-- The numbers of the frames that are asked for by a topic producer rise, those of batches too.
abbrev pub NumbersOfAllFramesRise : Type 0
NumbersOfAllFramesRise = (o : Options) (newer older : List Entry) (x y : Entry) (n r s : ℕ) → IsRun o (y ∷ (newer ++ x ∷ older)) →
    AsksFrame n r x older → AsksFrame n s y (newer ++ x ∷ older) → r < s

-- The frame of a batch is queued at most once, over all links.
abbrev pub BatchSentOnce : Type 0
BatchSentOnce = (o : Options) (log : List Entry) (n : ℕ) → IsRun o log → frames_queued o n log ≤ 1

-- SENT ONCE

-- how often the message of a ticket stands among these
abbrev pub times_in : (ticket : ℕ) → List Item → ℕ
times_in t [] = 0
times_in t (SingleMessage u x ∷ items) = (if t == u then 1 else 0) + times_in t items
times_in t (Flush u ∷ items) = times_in t items

abbrev pub times_under : (ticket : ℕ) → Option (List Item) → ℕ
times_under t None = 0
times_under t (Some items) = times_in t items

-- how often it is queued as a message of a batch, at all topic producers together
abbrev pub batched_at : Options → (ticket : ℕ) → List Entry → Who → Outcome → ℕ
batched_at o t log (Producer n) u = if is_queued u && asks_batch ((view o log).stand (Producer n)) then times_under t (under_way o n log) else 0
batched_at o t log (Call ticket) u = 0
batched_at o t log (Consumer number ticket) u = 0

abbrev pub batched_times : Options → (ticket : ℕ) → List Entry → ℕ
batched_times o t [] = 0
batched_times o t (Then (Told x) ∷ log) = batched_times o t log + batched_at o t log x.who x.outcome
batched_times o t (_ ∷ log) = batched_times o t log

-- The send of a ticket is queued at most once, over all links: in a frame of its own, or as a message of one batch.
abbrev pub EachSentOnce : Type 0
EachSentOnce = (o : Options) (log : List Entry) (t : ℕ) → IsRun o log → queued_times o t log + batched_times o t log ≤ 1

-- HOW MUCH A BATCH HAS

-- A topic producer makes batches by the options of the call that built it: what it stores is cut by these limits, and waits so long. What is stored
-- reaches none of them.
abbrev pub BatchesByItsOptions : Type 0
BatchesByItsOptions = (o : Options) (log : List Entry) (n : ℕ) (row : Topic) → IsRun o log → (view o log).producers.topics n ≡ Some row →
    (w : Ways) × (order : ProducerOrder) × (started (Call row.owner) log ≡ Some (procedure.Produce w order))
    × (row.seen.storage.limits.max_size ≡ order.options.batch_size) × (row.seen.storage.limits.max_byte_size ≡ order.options.batch_byte_size)
    × ((p : producer.Seen) → (view o log).producers.built row.owner ≡ Some p →
    timeout_at (view o log).producers (Some row) ≡ order.options.batch_timeout)
    × (is_nothing row.seen.storage.items ≡ false →
    ((limit : ℕ) → order.options.batch_size ≡ Some limit → length row.seen.storage.items < limit)
    × ((limit : ℕ) → order.options.batch_byte_size ≡ Some limit → capped (bytes_of row.seen.storage.items) < limit))

-- What is stored has as many bytes as its payloads, and a flush has none: that is compared with the limit.
abbrev pub SizesAreSaid : Type 0
SizesAreSaid =
    (bytes_of [] ≡ 0) × ((t : ℕ) (items : List Item) → bytes_of (Flush t ∷ items) ≡ bytes_of items)
    × ((t : ℕ) (m : ProducerMessageValues) (x : EntryValues) (items : List Item) → entry_of m ≡ Some x →
    bytes_of (SingleMessage t x ∷ items) ≡ length m.payload + bytes_of items)

-- a batch reaches the greatest count of messages or of bytes, or a flush ends it
abbrev pub Reaches : ℕ → Option ℕ → Type 0
Reaches n None = ⊥
Reaches n (Some limit) = limit ≤ n

abbrev pub IsFullBy : (count bytes : Option ℕ) → List Item → Type 0
IsFullBy count bytes b = Reaches (length b) count ⊎ (Reaches (capped (bytes_of b)) bytes ⊎ ((xs : List Item) × (t : ℕ) × (b ≡ xs ++ Flush t ∷ [])))

-- A batch is cut only where it does by these limits, or by its time.
abbrev pub CutByLimits : Type 0
CutByLimits = (s : Setup) (h : List Deed) (d : Deed) (b : List Item) → cut_by d (seen s h) ≡ b ∷ [] →
    (d ≡ Cuts) ⊎ IsFullBy s.limits.max_size s.limits.max_byte_size b

-- So whatever is done to a topic producer in a run cuts a batch only where the options of the call that built it say so, or by its time.
abbrev pub CutByItsOptions : Type 0
CutByItsOptions = (o : Options) (log : List Entry) (n : ℕ) (row : Topic) (d : Deed) (b : List Item) → IsRun o log →
    (view o log).producers.topics n ≡ Some row → cut_by d row.seen ≡ b ∷ [] →
    (w : Ways) × (order : ProducerOrder) × (started (Call row.owner) log ≡ Some (procedure.Produce w order))
    × ((d ≡ Cuts) ⊎ IsFullBy order.options.batch_size order.options.batch_byte_size b)

-- WHERE ITS PRODUCER IS CLOSED

-- As a producer is closed, each message that one of its topic producers stores is settled in that step: its send fails. Nothing is stored there any
-- more.
abbrev pub ClosedWithTheProducer : Type 0
ClosedWithTheProducer = (o : Options) (newer older : List Entry) (who : Who) (t n ticket : ℕ) →
    IsRun o (newer ++ Then (Does who (Shut t)) ∷ older) → Rests o (newer ++ Then (Does who (Shut t)) ∷ older) → AreActs newer →
    In n (numbers_at ((view o older).producers.built t)) →
    (In ticket (stored_at ((view o older).producers.topics n)) → In (Then (Told (closed_notice ticket))) newer)
    × (is_bare ((view o (Then (Does who (Shut t)) ∷ older)).producers.topics n) ≡ true)

-- WHAT IS STORED

-- a call sends a message that has this entry
abbrev pub BringsEntry : Options → EntryValues → Entry → List Entry → Type 0
BringsEntry o x e older =
    (asked : Asked) × (sent : ℕ × List ProducerMessageValues) × (m : ProducerMessageValues)
    × (e ≡ Then (Comes (call_part o.policies (view o older) asked))) × (sent_by asked ≡ Some sent) × In m sent.1 × (entry_of m ≡ Some x)

-- A call stores its own message, in the step in which it is made, as the first thing that it does.
abbrev pub StoredAtOnce : Type 0
StoredAtOnce = (o : Options) (log : List Entry) (t n : ℕ) (x : EntryValues) → IsRun o (Then (Does (Call t) (OfTopic n (Store x))) ∷ log) →
    (share : Option Share) × (older : List Entry) × (log ≡ Then (Starts (Call t) (procedure.Store n share x)) ∷ older)
    × InThisStep (BringsEntry o x) older

-- a topic producer tells a call what became of its message, with all who are in the batch (MembersAreTold)
abbrev pub TellsFate : (ticket : ℕ) → Result (Values send_receipt) Failure → Entry → List Entry → Type 0
TellsFate t f e older =
    (n : ℕ) × (ns : List Notice) × (e ≡ Then (Does (Producer n) (TellAll ns))) × In (notice (Call t) (outcome.Settled f)) ns

-- which is the receipt, or why it failed
abbrev pub ends_with : Result (Values send_receipt) Failure → Verdict
ends_with (Ok r) = verdict Nothing (Receipt (spelling send_receipt r))
ends_with (Err f) = verdict Nothing (Failed f)

-- The call of a message that is stored ends right behind what it is told: what became of its message, in the step in which its topic producer says
-- so, or in which its producer is closed; or that the client is stopped. It ends by nothing else.
abbrev pub StoredEndsByItsBatch : Type 0
StoredEndsByItsBatch = (o : Options) (log : List Entry) (t n : ℕ) (share : Option Share) (x : EntryValues) (v : Verdict) →
    IsRun o (Then (Answers (Call t) v) ∷ log) → started (Call t) log ≡ Some (procedure.Store n share x) →
    (u : Outcome) × (older : List Entry) × (log ≡ Then (Told (notice (Call t) u)) ∷ older)
    × (((f : Result (Values send_receipt) Failure) × (u ≡ outcome.Settled f) × (v ≡ ends_with f)
    × InThisStep (λ e behind. TellsFate t f e behind ⊎ IsDropped o (Call t) (outcome.Settled f) e behind) older)
    ⊎ ((u ≡ outcome.Stopped) × (v ≡ fails Shutdown)))

-- FLUSHES

-- A flush ends its batch, with which it is told. All that its topic producer stored before it stands in that batch, or in those that were taken
-- before, and told (BatchesOneByOne): what waits still, cut or not, was stored behind it.
abbrev pub FlushesWait : Type 0
FlushesWait = (o : Options) (log : List Entry) (n t : ℕ) (ns : List Notice) (items : List Item) →
    IsRun o (Then (Does (Producer n) (TellAll ns)) ∷ log) → under_way o n log ≡ Some items → In (Flush t) items →
    (s : Setup) × (row : Topic) × (before : List (List Item)) × (left : List Item) × ((view o log).producers.topics n ≡ Some row)
    × (row.seen ≡ seen s (acts_on o n log)) × (items ≡ left ++ Flush t ∷ []) × (taken_of s (acts_on o n log) ≡ before ++ items ∷ [])
    × (items_of s (acts_on o n log) ≡ joined before ++ (items ++ (joined row.seen.cut ++ row.seen.storage.items)))

-- And a flush is done at once (GrantsSo) only where all that its topic producer stored was taken, and no batch is under way.
abbrev pub FlushesAtOnce : Type 0
FlushesAtOnce = (o : Options) (log : List Entry) (n : ℕ) (row : Topic) → IsRun o log → (view o log).producers.topics n ≡ Some row →
    is_settled_at (Some row) ≡ true →
    (s : Setup) × (row.seen ≡ seen s (acts_on o n log)) × (items_of s (acts_on o n log) ≡ joined (taken_of s (acts_on o n log)))
    × (row.seen.is_under_way ≡ false)
