-- What follows of every history of a consumer, in plain words. `h` has the acts of a history, newest first, and `later` those behind them.
use Rattle.std.specs.Prelude.{◌≡◌, ◌⊎◌, ℕ, ◌+◌, ◌-◌, ◌≤◌, nat_lt, Bool, true, false, ◌&&◌, ◌==◌, if◌then◌else◌, List, [], ◌∷◌, ◌++◌, length, map, take, drop, Option, Some, None, unwrap_or}
use Rattle.std.specs.List.{flat_map, list_any, sum, sum_by}
use Rattle.std.specs.List.Sorted.{IsStrictlySortedBy}
use Rattle.std.specs.Map.{lookup}
use Rattle.std.specs.Option.{is_some, option_map, option_or, option_to_list}
use Rattle.pulsar_consumer.specs.Items.{Item}
use Rattle.pulsar_wire.specs.Orders.{id_order}
use Rattle.pulsar_consumer.specs.DeadLetters.{Letter, lost_letter}
use Rattle.pulsar_consumer.specs.Frames.{Frame, failed}
use Rattle.pulsar_consumer.specs.Redelivery.{Id, due_at, first_check, id_of, is_early, is_same_id, next_check}
use Rattle.pulsar_consumer.specs.Topic.{Act, Lives, Hears, Loses, Fails, Ends, Polls, Asks, IsAt, TakesCopy, IsCopied, FailsCopy, Stops, Forgets, Checks, Live, Seen, Setup, acked, asked_again, batch_size, first_due, first_of, frame_for, half, is_ended, link_of, lives_on, over, polled, polled_from, queue_of, seen, to_copy}
use Rattle.pulsar_incoming.specs.declared.polled.Ending.{Ending}

-- HISTORIES

-- what is seen of a consumer is that of this history
abbrev pub StandsFor : Seen → Setup → List Act → Type 0
StandsFor v s h = v ≡ seen s h

-- ITEMS

-- what arrives by an act: a message on the link of its live subscription, or why it could not be subscribed again
abbrev pub arrives_by : Act → Seen → List Frame
arrives_by (Lives link url) v = []
arrives_by (Hears link f) v = if lives_on link v then frame_for v f ∷ [] else []
arrives_by (Loses link) v = []
arrives_by (Fails f) v = if is_ended v then [] else failed f ∷ []
arrives_by (Ends why) v = []
arrives_by (Polls clock) v = []
arrives_by Asks v = []
arrives_by (IsAt clock) v = []
arrives_by TakesCopy v = []
arrives_by (IsCopied key clock) v = []
arrives_by (FailsCopy key clock) v = []
arrives_by Stops v = []
arrives_by (Forgets id) v = []
arrives_by (Checks clock) v = []

-- its arrivals, in order
abbrev pub arrivals : Setup → List Act → List Frame
arrivals s [] = []
arrivals s (act ∷ h) = arrivals s h ++ arrives_by act (seen s h)

-- what became of the copies that were taken, in order: whether each has its receipt, or could not be sent
abbrev pub outcome_if : (is_under_way : Bool) → (has_receipt : Bool) → List Bool
outcome_if true has_receipt = has_receipt ∷ []
outcome_if false has_receipt = []

abbrev pub outcome_by : Act → Seen → List Bool
outcome_by (Lives link url) v = []
outcome_by (Hears link f) v = []
outcome_by (Loses link) v = []
outcome_by (Fails f) v = []
outcome_by (Ends why) v = []
outcome_by (Polls clock) v = []
outcome_by Asks v = []
outcome_by (IsAt clock) v = []
outcome_by TakesCopy v = []
outcome_by (IsCopied key clock) v = outcome_if (v.key == key && is_some v.engine.copying) true
outcome_by (FailsCopy key clock) v = outcome_if (v.key == key && is_some v.engine.copying) false
outcome_by Stops v = []
outcome_by (Forgets id) v = []
outcome_by (Checks clock) v = []

abbrev pub outcomes : Setup → List Act → List Bool
outcomes s [] = []
outcomes s (act ∷ h) = outcomes s h ++ outcome_by act (seen s h)

-- the client was stopped: every copy without a receipt has failed
abbrev pub is_stopped : List Act → Bool
is_stopped [] = false
is_stopped (Lives link url ∷ h) = is_stopped h
is_stopped (Hears link f ∷ h) = is_stopped h
is_stopped (Loses link ∷ h) = is_stopped h
is_stopped (Fails f ∷ h) = is_stopped h
is_stopped (Ends why ∷ h) = is_stopped h
is_stopped (Polls clock ∷ h) = is_stopped h
is_stopped (Asks ∷ h) = is_stopped h
is_stopped (IsAt clock ∷ h) = is_stopped h
is_stopped (TakesCopy ∷ h) = is_stopped h
is_stopped (IsCopied key clock ∷ h) = is_stopped h
is_stopped (FailsCopy key clock ∷ h) = is_stopped h
is_stopped (Stops ∷ h) = true
is_stopped (Forgets id ∷ h) = is_stopped h
is_stopped (Checks clock ∷ h) = is_stopped h

-- What the entries of a dead letter come to by these outcomes: one of them is pending; or this is given for them, and these outcomes are
-- left. An entry whose copy has its receipt is left out. One whose copy failed gives an error, and the rest of its frame is left out.
pub data Fate : Type 0 where
  Pending : Fate
  Settled : (items : List Item) (left : List Bool) → Fate

abbrev pub fate : (is_stopped : Bool) → List Bool → List Letter → Fate
fate is_stopped os [] = Settled [] os
fate is_stopped [] (l ∷ ls) = if is_stopped then Settled (lost_letter ∷ []) [] else Pending
fate is_stopped (true ∷ os) (l ∷ ls) = fate is_stopped os ls
fate is_stopped (false ∷ os) (l ∷ ls) = Settled (lost_letter ∷ []) os

-- The items of arrivals, up to the first entry that is pending.
abbrev pub behind_fate : Fate → (List Bool → List Item) → List Item
behind_fate Pending more = []
behind_fate (Settled items left) more = items ++ more left

abbrev pub ready_in : (is_stopped : Bool) → List Bool → List Frame → List Item
ready_in is_stopped os [] = []
ready_in is_stopped os (f ∷ fs) = f.items ++ behind_fate (fate is_stopped os f.letters) (λ left. ready_in is_stopped left fs)

abbrev pub ready : Setup → List Act → List Item
ready s h = ready_in (is_stopped h) (outcomes s h) (arrivals s h)

-- an entry is pending
abbrev pub pending_behind : Fate → (List Bool → Bool) → Bool
pending_behind Pending more = true
pending_behind (Settled items left) more = more left

abbrev pub pending_in : (is_stopped : Bool) → List Bool → List Frame → Bool
pending_in is_stopped os [] = false
pending_in is_stopped os (f ∷ fs) = pending_behind (fate is_stopped os f.letters) (λ left. pending_in is_stopped left fs)

abbrev pub is_pending_in : Setup → List Act → Bool
is_pending_in s h = pending_in (is_stopped h) (outcomes s h) (arrivals s h)

-- the items that its polls have given, in order
abbrev pub given_by : Act → Seen → List Item
given_by (Lives link url) v = []
given_by (Hears link f) v = []
given_by (Loses link) v = []
given_by (Fails f) v = []
given_by (Ends why) v = []
given_by (Polls clock) v = option_to_list (first_of v.engine.unread)
given_by Asks v = []
given_by (IsAt clock) v = []
given_by TakesCopy v = []
given_by (IsCopied key clock) v = []
given_by (FailsCopy key clock) v = []
given_by Stops v = []
given_by (Forgets id) v = []
given_by (Checks clock) v = []

abbrev pub given : Setup → List Act → List Item
given s [] = []
given s (act ∷ h) = given s h ++ given_by act (seen s h)

-- the items of its arrivals that are left, behind those that were given
abbrev pub left : Setup → List Act → List Item
left s h = drop (length (given s h)) (ready s h)

-- Its polls give just the items of its arrivals, in order, without gap, and none behind an entry that is pending.
abbrev pub PollsGiveArrivals : Type 0
PollsGiveArrivals = (s : Setup) (h : List Act) → given s h ++ left s h ≡ ready s h

-- A poll gives the first item that is left. There is none now, or none any longer, only where none is left; and there is none any longer only
-- where none is pending.
abbrev pub PollsGiveTheNext : Type 0
PollsGiveTheNext = (s : Setup) (h : List Act) → polled (seen s h) ≡ polled_from (first_of (left s h)) (over (is_pending_in s h) (seen s h).ended)

-- An item is placed where it is among the first that are left, as many as the queue holds.
abbrev pub queue : Setup → ℕ
queue s = queue_of s.config.options.receiver_queue_size

abbrev pub QueueIsKept : Type 0
QueueIsKept = (s : Setup) (h : List Act) → (seen s h).engine.unread ≡ take (queue s) (left s h)

-- A frame is begun where each item of those before it is placed and none of their entries is pending: these are the frames that are begun,
-- where so many items are placed or may be.
abbrev pub begun_behind : Fate → (size room : ℕ) → (List Bool → ℕ → List Frame) → List Frame
begun_behind Pending size room more = []
begun_behind (Settled items left) size room more =
    if nat_lt room (size + length items) then [] else more left (room - (size + length items))

abbrev pub begun_in : (is_stopped : Bool) → List Bool → (room : ℕ) → List Frame → List Frame
begun_in is_stopped os room [] = []
begun_in is_stopped os room (f ∷ fs) =
    f ∷ begun_behind (fate is_stopped os f.letters) (length f.items) room (λ left room. begun_in is_stopped left room fs)

abbrev pub begun : Setup → List Act → List Frame
begun s h = begun_in (is_stopped h) (outcomes s h) (length (given s h) + queue s) (arrivals s h)

-- Frames are begun in their order, and the others wait behind them.
abbrev pub FramesBeginInTurn : Type 0
FramesBeginInTurn = (s : Setup) (h : List Act) → arrivals s h ≡ begun s h ++ (seen s h).engine.waiting

-- PERMITS

-- each arrival is finished: each of its items was given or is placed, and none of its entries is pending
abbrev pub ArePlaced : Setup → List Act → Type 0
ArePlaced s h = length (left s h) ≤ queue s

abbrev pub IsFinished : Setup → List Act → Type 0
IsFinished s h = ArePlaced s h × (is_pending_in s h ≡ false)

-- What remains of the permits of a live subscription is never more than the batch size, and at least half of it where each arrival is
-- finished. It is what was left when the frame that is begun was begun, less what that frame costs, of whichever subscription it came.
abbrev pub PermitsInBounds : Type 0
PermitsInBounds = (s : Setup) (h : List Act) (l : Live) → s.is_raw ≡ false → (seen s h).engine.live ≡ Some l →
    (l.level ≤ batch_size s.config) × (IsFinished s h → half (batch_size s.config) + l.weight ≤ l.level)

-- what frames weigh together
abbrev pub weights : List Frame → ℕ
weights fs = sum_by (λ f. f.weight) fs

-- the flows that were asked for since the subscription that is live was made
abbrev pub asked_since : Setup → List Act → ℕ
asked_since s [] = 0
asked_since s (Lives link url ∷ h) = if is_ended (seen s h) then asked_since s h else 0
asked_since s (Hears link f ∷ h) = asked_since s h
asked_since s (Loses link ∷ h) = asked_since s h
asked_since s (Fails f ∷ h) = asked_since s h
asked_since s (Ends why ∷ h) = asked_since s h
asked_since s (Polls clock ∷ h) = asked_since s h
asked_since s (Asks ∷ h) = asked_since s h + unwrap_or (first_due (seen s h).engine.live) 0
asked_since s (IsAt clock ∷ h) = asked_since s h
asked_since s (TakesCopy ∷ h) = asked_since s h
asked_since s (IsCopied key clock ∷ h) = asked_since s h
asked_since s (FailsCopy key clock ∷ h) = asked_since s h
asked_since s (Stops ∷ h) = asked_since s h
asked_since s (Forgets id ∷ h) = asked_since s h
asked_since s (Checks clock ∷ h) = asked_since s h

-- what the frames weigh that were begun before it was made
abbrev pub weighed_before : Setup → List Act → ℕ
weighed_before s [] = 0
weighed_before s (Lives link url ∷ h) = if is_ended (seen s h) then weighed_before s h else weights (begun s h)
weighed_before s (Hears link f ∷ h) = weighed_before s h
weighed_before s (Loses link ∷ h) = weighed_before s h
weighed_before s (Fails f ∷ h) = weighed_before s h
weighed_before s (Ends why ∷ h) = weighed_before s h
weighed_before s (Polls clock ∷ h) = weighed_before s h
weighed_before s (Asks ∷ h) = weighed_before s h
weighed_before s (IsAt clock ∷ h) = weighed_before s h
weighed_before s (TakesCopy ∷ h) = weighed_before s h
weighed_before s (IsCopied key clock ∷ h) = weighed_before s h
weighed_before s (FailsCopy key clock ∷ h) = weighed_before s h
weighed_before s (Stops ∷ h) = weighed_before s h
weighed_before s (Forgets id ∷ h) = weighed_before s h
weighed_before s (Checks clock ∷ h) = weighed_before s h

-- What remains of the permits of a live subscription: its flows, those that were asked for since it was made and those that are due, less
-- what the frames weigh that were begun since then.
abbrev pub PermitsAreCounted : Type 0
PermitsAreCounted = (s : Setup) (h : List Act) (l : Live) → s.is_raw ≡ false → (seen s h).engine.live ≡ Some l →
    l.level + weights (begun s h) ≡ l.weight + (asked_since s h + sum l.due) + weighed_before s h

-- A raw consumer asks for no flow.
abbrev pub RawAsksForNothing : Type 0
RawAsksForNothing = (s : Setup) (h : List Act) (l : Live) → s.is_raw ≡ true → (seen s h).engine.live ≡ Some l → l.due ≡ []

-- ITS END

-- Once it has ended it stays so, for the same reason; no subscription of it is live, and nothing arrives.
abbrev pub EndIsFinal : Type 0
EndIsFinal = (s : Setup) (later h : List Act) (why : Ending) → (seen s h).ended ≡ Some why →
    ((seen s (later ++ h)).ended ≡ Some why) × (link_of (seen s (later ++ h)) ≡ None) × (arrivals s (later ++ h) ≡ arrivals s h)

-- COPIES OF DEAD LETTERS

-- the entries whose copies were taken to be sent, in order
abbrev pub taken_by : Act → Seen → List Id
taken_by (Lives link url) v = []
taken_by (Hears link f) v = []
taken_by (Loses link) v = []
taken_by (Fails f) v = []
taken_by (Ends why) v = []
taken_by (Polls clock) v = []
taken_by Asks v = []
taken_by (IsAt clock) v = []
taken_by TakesCopy v = option_to_list (option_map (λ l. l.0) (to_copy v.engine))
taken_by (IsCopied key clock) v = []
taken_by (FailsCopy key clock) v = []
taken_by Stops v = []
taken_by (Forgets id) v = []
taken_by (Checks clock) v = []

abbrev pub taken : Setup → List Act → List Id
taken s [] = []
taken s (act ∷ h) = taken s h ++ taken_by act (seen s h)

-- the entries of dead letters whose copies have these outcomes: of each frame in order, up to one that failed
abbrev pub tried : List Bool → List Letter → List Id
tried os [] = []
tried [] (l ∷ ls) = []
tried (true ∷ os) (l ∷ ls) = l.0 ∷ tried os ls
tried (false ∷ os) (l ∷ ls) = l.0 ∷ []

abbrev pub tried_behind : Fate → (List Bool → List Id) → List Id
tried_behind Pending more = []
tried_behind (Settled items left) more = more left

abbrev pub tried_in : List Bool → List Frame → List Id
tried_in os [] = []
tried_in os (f ∷ fs) = tried os f.letters ++ tried_behind (fate false os f.letters) (λ left. tried_in left fs)

-- the entry whose copy is under way
abbrev pub under_way : Seen → List Id
under_way v = option_to_list v.engine.copying

-- Until the client is stopped, the copies that are taken are those of the entries in order, one at a time: each waits for the outcome of the one
-- before, and the rest of a frame behind a failed copy is not copied.
abbrev pub CopiesFollowArrivals : Type 0
CopiesFollowArrivals = (s : Setup) (h : List Act) → is_stopped h ≡ false →
    taken s h ≡ tried_in (outcomes s h) (arrivals s h) ++ under_way (seen s h)

-- the entries whose copies have their receipts, in order
abbrev pub receipts_by : Act → Seen → List Id
receipts_by (Lives link url) v = []
receipts_by (Hears link f) v = []
receipts_by (Loses link) v = []
receipts_by (Fails f) v = []
receipts_by (Ends why) v = []
receipts_by (Polls clock) v = []
receipts_by Asks v = []
receipts_by (IsAt clock) v = []
receipts_by TakesCopy v = []
receipts_by (IsCopied key clock) v = if v.key == key then under_way v else []
receipts_by (FailsCopy key clock) v = []
receipts_by Stops v = []
receipts_by (Forgets id) v = []
receipts_by (Checks clock) v = []

abbrev pub receipts : Setup → List Act → List Id
receipts s [] = []
receipts s (act ∷ h) = receipts s h ++ receipts_by act (seen s h)

-- the entries that are acknowledged for them, in order
abbrev pub acks_by : Act → Seen → List Id
acks_by (Lives link url) v = []
acks_by (Hears link f) v = []
acks_by (Loses link) v = []
acks_by (Fails f) v = []
acks_by (Ends why) v = []
acks_by (Polls clock) v = []
acks_by Asks v = []
acks_by (IsAt clock) v = []
acks_by TakesCopy v = []
acks_by (IsCopied key clock) v = option_to_list (acked key v)
acks_by (FailsCopy key clock) v = []
acks_by Stops v = []
acks_by (Forgets id) v = []
acks_by (Checks clock) v = []

abbrev pub acks : Setup → List Act → List Id
acks s [] = []
acks s (act ∷ h) = acks s h ++ acks_by act (seen s h)

-- these are some of those, in their order
abbrev pub AreAmong : List Id → List Id → Type 0
AreAmong [] ys = Unit {0}
AreAmong (x ∷ xs) [] = ⊥
AreAmong (x ∷ xs) (y ∷ ys) = ((x ≡ y) × AreAmong xs ys) ⊎ AreAmong (x ∷ xs) ys

-- An entry is acknowledged as its copy has its receipt, and each receipt licenses one acknowledgement at most.
abbrev pub ReceiptsLicenseAcks : Type 0
ReceiptsLicenseAcks = (s : Setup) (h : List Act) → AreAmong (acks s h) (receipts s h)

-- MOMENTS

-- the moment that it was told last
abbrev pub moment : Setup → List Act → ℕ
moment s [] = 0
moment s (Lives link url ∷ h) = moment s h
moment s (Hears link f ∷ h) = moment s h
moment s (Loses link ∷ h) = moment s h
moment s (Fails f ∷ h) = moment s h
moment s (Ends why ∷ h) = moment s h
moment s (Polls clock ∷ h) = clock
moment s (Asks ∷ h) = moment s h
moment s (IsAt clock ∷ h) = clock
moment s (TakesCopy ∷ h) = moment s h
moment s (IsCopied key clock ∷ h) = if s.key == key then clock else moment s h
moment s (FailsCopy key clock ∷ h) = if s.key == key then clock else moment s h
moment s (Stops ∷ h) = moment s h
moment s (Forgets id ∷ h) = moment s h
moment s (Checks clock ∷ h) = moment s h

abbrev pub MomentsAreTold : Type 0
MomentsAreTold = (s : Setup) (h : List Act) → (seen s h).engine.clock ≡ moment s h

-- MESSAGES THAT ARE GIVEN AGAIN

-- the items that were placed, whether they were given or not
abbrev pub placed : Setup → List Act → List Item
placed s h = take (length (given s h) + queue s) (ready s h)

abbrev pub placed_by : Setup → Act → List Act → List Item
placed_by s act h = drop (length (placed s h)) (placed s (act ∷ h))

-- one of these items has this id
abbrev pub has_id : Id → Option Id → Bool
has_id id None = false
has_id id (Some other) = is_same_id id other

abbrev pub is_one_of : Id → List Item → Bool
is_one_of id items = list_any (λ item. has_id id (id_of item)) items

-- it is acknowledged, by its user or for the receipt of its copy, or named to the broker, by its user or as it is due
abbrev pub is_acked : Option Id → Id → Bool
is_acked None id = false
is_acked (Some other) id = is_same_id other id

abbrev pub is_forgotten_by : Act → Seen → Id → (due : Option ℕ) → Bool
is_forgotten_by (Lives link url) v id due = false
is_forgotten_by (Hears link f) v id due = false
is_forgotten_by (Loses link) v id due = false
is_forgotten_by (Fails f) v id due = false
is_forgotten_by (Ends why) v id due = false
is_forgotten_by (Polls clock) v id due = false
is_forgotten_by Asks v id due = false
is_forgotten_by (IsAt clock) v id due = false
is_forgotten_by TakesCopy v id due = false
is_forgotten_by (IsCopied key clock) v id due = is_acked (acked key v) id
is_forgotten_by (FailsCopy key clock) v id due = false
is_forgotten_by Stops v id due = false
is_forgotten_by (Forgets other) v id due = is_same_id other id
is_forgotten_by (Checks clock) v id due = is_some (link_of v) && is_early clock due

-- When it is due: where there is a delay, an item is due that delay after the moment at which it is placed, the last time that it is placed.
-- It is due no longer once it is acknowledged or named, or the consumer has ended.
abbrev pub due_now : Setup → Act → List Act → Id → (before : Option ℕ) → Option ℕ
due_now s act h id before =
    if is_ended (seen s (act ∷ h)) then None
    else if is_one_of id (placed_by s act h) then due_at s.config.unacked_message_redelivery_delay (moment s (act ∷ h))
    else if is_forgotten_by act (seen s h) id before then None
    else before

abbrev pub due_of : Setup → List Act → Id → Option ℕ
due_of s [] id = None
due_of s (act ∷ h) id = due_now s act h id (due_of s h id)

-- The ids that are kept are those that are due at some moment, each once, in the order of ids.
abbrev pub KeptAreDue : Type 0
KeptAreDue = (s : Setup) (h : List Act) →
    IsStrictlySortedBy id_order (map (λ e. e.0) (seen s h).engine.kept)
    × ((id : Id) → lookup (is_same_id id) (seen s h).engine.kept ≡ due_of s h id)

-- A check names just the ids that are due before its moment, each once, in the order of ids; none where no subscription is live.
abbrev pub ChecksNameTheDue : Type 0
ChecksNameTheDue = (s : Setup) (h : List Act) (clock : ℕ) →
    IsStrictlySortedBy id_order (asked_again clock (seen s h))
    × ((id : Id) → list_any (is_same_id id) (asked_again clock (seen s h)) ≡ (is_some (link_of (seen s h)) && is_early clock (due_of s h id)))

-- CHECKS

-- when the next check is due: from the first subscription on, and behind each check, until the consumer has ended
abbrev pub check_by : Setup → Act → List Act → (before : Option ℕ) → Option ℕ
check_by s (Lives link url) h before = option_or before (first_check s.config.unacked_message_redelivery_delay (moment s h))
check_by s (Hears link f) h before = before
check_by s (Loses link) h before = before
check_by s (Fails f) h before = before
check_by s (Ends why) h before = before
check_by s (Polls clock) h before = before
check_by s Asks h before = before
check_by s (IsAt clock) h before = before
check_by s TakesCopy h before = before
check_by s (IsCopied key clock) h before = before
check_by s (FailsCopy key clock) h before = before
check_by s Stops h before = before
check_by s (Forgets id) h before = before
check_by s (Checks clock) h before = next_check clock before

abbrev pub check_of : Setup → List Act → Option ℕ
check_of s [] = None
check_of s (act ∷ h) = if is_ended (seen s (act ∷ h)) then None else check_by s act h (check_of s h)

abbrev pub ChecksComeInTime : Type 0
ChecksComeInTime = (s : Setup) (h : List Act) → (seen s h).engine.check ≡ check_of s h

-- WHOSE OUTCOMES COUNT: one that was told for another consumer changes nothing, and acknowledges nothing

abbrev pub OutcomesAreOwn : Type 0
OutcomesAreOwn = (s : Setup) (h : List Act) (key clock : ℕ) → (s.key == key) ≡ false →
    (seen s (IsCopied key clock ∷ h) ≡ seen s h) × (seen s (FailsCopy key clock ∷ h) ≡ seen s h) × (acked key (seen s h) ≡ None)

-- WHERE NO DEAD LETTERS ARE ASKED FOR, all items of its arrivals are given, and none is pending

abbrev pub items_of : List Frame → List Item
items_of fs = flat_map (λ f. f.items) fs

abbrev pub PlainItems : Type 0
PlainItems = (s : Setup) (h : List Act) → s.config.dead_letter_policy ≡ None →
    (ready s h ≡ items_of (arrivals s h)) × (is_pending_in s h ≡ false)
