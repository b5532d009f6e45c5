-- What follows of every history of a connection, in plain words. `h` has its acts, newest first, and `later` those behind them.
use Rattle.std.specs.Prelude.{◌≡◌, ℕ, ◌+◌, ◌<◌, ◌≤◌, nat_lt, ◌==◌, ◌&&◌, not, Bool, true, false, if◌then◌else◌, zero, suc, List, [], ◌∷◌, ◌++◌, length, drop, filter, map, Option, Some, None, Result, Ok, Err, slice_get}
use Rattle.std.specs.List.{list_any}
use Rattle.std.specs.Option.{is_none, option_map, option_or, option_to_list}
use Rattle.pulsar_wire.specs.declared.error.ConnectionError.{ConnectionError}
use Rattle.pulsar_wire.specs.declared.error.ConnectionError.TheVariants as error
use Rattle.pulsar_wire.specs.declared.error.Reason.TheVariants as reason
use Rattle.pulsar_wire.specs.declared.key.RequestKey.{RequestKey}
use Rattle.pulsar_wire.specs.declared.key.RequestKey.TheVariants as keys
use Rattle.pulsar_frame.specs.Message.{MessageValues}
use Rattle.pulsar_frame.specs.Key.{key}
use Rattle.pulsar_frame.specs.Frame.{Front, Short, Refused, Whole, cut, front}
use Rattle.pulsar_messages.specs.Words.{Words, is_numbered, when_full}
use Rattle.pulsar_wire.specs.declared.awaited.Awaited.TheVariants.{Pong, Reply}
use Rattle.pulsar_wire.specs.declared.awaited.Claim.{Claim}
use Rattle.pulsar_wire.specs.Awaited.{is_same}
use Rattle.pulsar_requests.specs.Waits.{Pending, Waits, is_overdue, places, request_at, request_of}
use Rattle.pulsar_session.specs.declared.states.Asked.{Asked}
use Rattle.pulsar_session.specs.declared.states.Asked.TheVariants.{Queued}
use Rattle.pulsar_session.specs.declared.states.Stage.{Stage}
use Rattle.pulsar_session.specs.declared.states.Stage.TheVariants.{Dialing, Handshaking, Ready, Over}
use Rattle.pulsar_session.specs.Answers.{answers, is}
use Rattle.pulsar_wire.specs.Failures.{Fault}
use Rattle.pulsar_session.specs.Link.{Act, Opens, Feeds, Takes, Asks, Drains, Closes, Came, Nothing, Readied, Settles, Gives, Challenged, Dropped, Bad, Seen, Setup, Standing, after, asked, came, came_by, can_wait, drawn, due, ends, fits, frame_at, fresh, has_room, is_open, is_over, is_ready, message_of, seen, settled_by, ticked, unready_in, written}
use Rattle.pulsar_messages.specs.Claims.{claim, is_spent}

-- HISTORIES

-- what is seen of a connection is that of this history
abbrev pub StandsFor : Seen → Setup → List Act → Type 0
StandsFor v s h = v ≡ seen s h

-- so it is from the beginning, and after each act
abbrev pub HistoryGoesOn : Type 0
HistoryGoesOn = (s : Setup) → StandsFor (fresh s) s []
    × ((act : Act) (h : List Act) (v : Seen) → StandsFor v s h → StandsFor (after act v) s (act ∷ h))

-- REQUESTS ARE SETTLED ONCE

-- how the wait of a request ends: by a message, or with its connection. It was too long where the request was overdue as the connection
-- was closed.
pub data RequestOutcome : Type 0 where
  Replied : MessageValues → RequestOutcome
  Ended : Fault → RequestOutcome

-- what settles a request that waits: a frame of the ready connection that answers it, or the end of the connection
abbrev pub answered_by_front : Front → Pending → Option RequestOutcome
answered_by_front Short r = None
answered_by_front (Refused x) r = None
answered_by_front (Whole m rest) r = if answers m r.awaits then Some (Replied m) else None

abbrev pub answered_in : Stage → Front → Pending → Option RequestOutcome
answered_in Dialing f r = None
answered_in Handshaking f r = None
answered_in Ready f r = answered_by_front f r
answered_in Over f r = None

abbrev pub settles : Act → Seen → Pending → Option RequestOutcome
settles (Opens now) v r = None
settles (Feeds piece) v r = None
settles (Takes now) v r = answered_in v.stage (front v.unread) r
settles (Asks now words) v r = None
settles (Drains most now) v r = None
settles (Closes cause) v r = if is_over v.stage then None else Some (Ended cause)

-- what the first of the later acts that settles a request settles it as. Both lists are newest first.
abbrev pub outcome : Setup → Pending → (later h : List Act) → Option RequestOutcome
outcome s r [] h = None
outcome s r (act ∷ later) h = option_or (outcome s r later h) (settles act (seen s (later ++ h)) r)

abbrev pub is_named : ℕ → List ℕ → Bool
is_named place ps = list_any (λ p. p == place) ps

-- what the answer of an act tells of the request of a place
abbrev pub told_by : ℕ → Came → Option RequestOutcome
told_by place Nothing = None
told_by place Readied = None
told_by place (Settles ps m) = if is_named place ps then Some (Replied m) else None
told_by place (Gives consumer m) = None
told_by place Challenged = None
told_by place Dropped = None
told_by place (Bad fault) = None

abbrev pub told_in : Act → Seen → ℕ → Option RequestOutcome
told_in (Opens now) v place = None
told_in (Feeds piece) v place = None
told_in (Takes now) v place = told_by place (came v)
told_in (Asks now words) v place = None
told_in (Drains most now) v place = None
told_in (Closes cause) v place = if is_named place (ends v) then Some (Ended cause) else None

abbrev pub told_of : Setup → ℕ → (later h : List Act) → List RequestOutcome
told_of s place [] h = []
told_of s place (act ∷ later) h = told_of s place later h ++ option_to_list (told_in act (seen s (later ++ h)) place)

-- A request that waits is told once: by the first later frame that answers it, or by the end of its connection, whichever comes first.
-- It is not told at all where neither has come.
abbrev pub SettledByFirst : Type 0
SettledByFirst = (s : Setup) (later h : List Act) (r : Pending) → request_at r.place (seen s h).waits.waiting ≡ Some r →
    told_of s r.place later h ≡ option_to_list (outcome s r later h)

-- and it waits, as it was, until then: so its deadline stays what it was
abbrev pub WaitsUntilSettled : Type 0
WaitsUntilSettled = (s : Setup) (later h : List Act) (r : Pending) → request_at r.place (seen s h).waits.waiting ≡ Some r →
    request_at r.place (seen s (later ++ h)).waits.waiting ≡ (if is_none (outcome s r later h) then Some r else None)

-- A place where nobody waits any longer is never told. (Its frame was queued, so that no later one gets its place.)
abbrev pub NobodyIsTold : Type 0
NobodyIsTold = (s : Setup) (later h : List Act) (place : ℕ) → place < (seen s h).waits.queued → request_at place (seen s h).waits.waiting ≡ None →
    told_of s place later h ≡ []

-- So over a whole history each place is told once at most.
abbrev pub ToldOnce : Type 0
ToldOnce = (s : Setup) (h : List Act) (place : ℕ) → length (told_of s place h []) ≤ 1

-- a frame that is queued waits at the place that its caller is told, if it has a claim; it is due a timeout after that
abbrev pub QueuedWaits : Type 0
QueuedWaits = (s : Setup) (h : List Act) (now : ℕ) (words : Words) (place : ℕ) → asked now words (seen s h) ≡ Ok (Queued place) →
    request_at place (seen s (Asks now words ∷ h)).waits.waiting
    ≡ option_map (request_of place (ticked now (seen s h)).waits) (claim (seen s h).next_number words)

-- a ready connection is due where a request of it is overdue
abbrev pub DueIsOverdue : Type 0
DueIsOverdue = (s : Setup) (h : List Act) (now : ℕ) → (seen s h).stage ≡ Ready →
    due now (seen s h) ≡ list_any (λ p. is_overdue p.place now (seen s h).waits) (seen s h).waits.waiting

-- the requests that these frames of the line make, from a place on
abbrev pub requests_of : ℕ → Waits → List Standing → List (Option Pending)
requests_of place w [] = []
requests_of place w (x ∷ xs) = option_map (request_of place w) x.claim ∷ requests_of (place + 1) w xs

abbrev pub requests_at : ℕ → ℕ → List Pending → List (Option Pending)
requests_at place zero ps = []
requests_at place (suc n) ps = request_at place ps ∷ requests_at (place + 1) n ps

-- What leaves the line at a drain is queued by it, in order, and waits from then on: its deadline is that of its queueing.
abbrev pub MovedUpWaits : Type 0
MovedUpWaits = (s : Setup) (h : List Act) (most now : ℕ) →
    let v = seen s h in
    let w = seen s (Drains most now ∷ h) in
    (moved : List Standing) × (moved ++ w.line ≡ v.line) × (w.waits.queued ≡ v.waits.queued + length moved)
    × (requests_at v.waits.queued (length moved) w.waits.waiting ≡ requests_of v.waits.queued (ticked now v).waits moved)

-- the number under which the message in front says that a producer is not ready yet
abbrev pub names : Front → Option ℕ
names Short = None
names (Refused r) = None
names (Whole m rest) = unready_in m.command.body

-- A create request that was named so is due at no moment, as long as it waits.
abbrev pub NamedIsNotDue : Type 0
NamedIsNotDue = (s : Setup) (later h : List Act) (now : ℕ) (n : ℕ) (r : Pending) →
    (seen s h).stage ≡ Ready → names (front (seen s h).unread) ≡ Some n →
    request_at r.place (seen s h).waits.waiting ≡ Some r → r.awaits ≡ Reply n → r.creates ≡ true →
    (moment : ℕ) → is_overdue r.place moment (seen s (later ++ Takes now ∷ h)).waits ≡ false

-- FRAMES ARE WRITTEN IN ORDER

abbrev pub written_in : Act → Seen → List (List ℕ)
written_in (Opens now) v = []
written_in (Feeds piece) v = []
written_in (Takes now) v = []
written_in (Asks now words) v = []
written_in (Drains most now) v = written most v
written_in (Closes cause) v = []

-- what an act leaves of the frames that are not written, and those that it queues behind them
abbrev pub left_in : Act → Seen → List (List ℕ)
left_in act v = drop (length (written_in act v)) v.unwritten

abbrev pub queued_in : Act → Seen → List (List ℕ)
queued_in act v = drop (length (left_in act v)) (after act v).unwritten

abbrev pub frames_written : Setup → List Act → List (List ℕ)
frames_written s [] = []
frames_written s (act ∷ h) = frames_written s h ++ written_in act (seen s h)

abbrev pub frames_queued : Setup → List Act → List (List ℕ)
frames_queued s [] = []
frames_queued s (act ∷ h) = frames_queued s h ++ queued_in act (seen s h)

-- Until the connection ends, the frames that were written and behind them those that are not are the frames that were queued.
abbrev pub WrittenInOrder : Type 0
WrittenInOrder = (s : Setup) (h : List Act) → is_over (seen s h).stage ≡ false →
    frames_written s h ++ (seen s h).unwritten ≡ frames_queued s h

-- a frame's place is how many were queued before it
abbrev pub PlacesCount : Type 0
PlacesCount = (s : Setup) (h : List Act) → is_over (seen s h).stage ≡ false → length (frames_queued s h) ≡ (seen s h).waits.queued

-- The frame of a place is the one that was queued there, until it is written.
abbrev pub FrameOfPlace : Type 0
FrameOfPlace = (s : Setup) (h : List Act) (place : ℕ) → is_over (seen s h).stage ≡ false →
    frame_at place (seen s h) ≡ (if nat_lt place (length (frames_written s h)) then None else slice_get (frames_queued s h) place)

-- a list begins with another
abbrev pub IsPrefix : {A : Type 0} → List A → List A → Type 0
IsPrefix {A} xs ys = (rest : List A) × (xs ++ rest ≡ ys)

abbrev pub standing_frames : List Standing → List (List ℕ)
standing_frames line = map (λ s. s.frame) line

-- the frames that were queued, and behind them those that stand in the line
abbrev pub frames_asked : Setup → List Act → List (List ℕ)
frames_asked s h = frames_queued s h ++ standing_frames (seen s h).line

-- Until the connection ends, each stays before all that is asked for later: so the line moves up in order.
abbrev pub AskedInOrder : Type 0
AskedInOrder = (s : Setup) (act : Act) (h : List Act) → is_over (seen s (act ∷ h)).stage ≡ false →
    IsPrefix (frames_asked s h) (frames_asked s (act ∷ h))

-- NUMBERS

abbrev pub is_claimed : ℕ → Option Claim → Bool
is_claimed n None = false
is_claimed n (Some c) = is_same (Reply n) c.awaits

-- no request waits for the reply of this number, and none stands in the line
pub record Unclaimed (n : ℕ) (v : Seen) : Type 0 where
  pub waiting : list_any (λ p. is_same (Reply n) p.awaits) v.waits.waiting ≡ false
  pub standing : list_any (λ s. is_claimed n s.claim) v.line ≡ false

-- a number that was drawn and is claimed no longer is never claimed again
abbrev pub SpentStaysSpent : Type 0
SpentStaysSpent = (s : Setup) (later h : List Act) (n : ℕ) → n < (seen s h).next_number → Unclaimed n (seen s h) →
    Unclaimed n (seen s (later ++ h))

-- a message bears the number of a request: as its key, or as the close of a consumer
abbrev pub bears_number : ℕ → Option RequestKey → Bool
bears_number n None = false
bears_number n (Some (keys.RequestId m)) = m == n
bears_number n (Some (keys.ProducerSend p s)) = false
bears_number n (Some (keys.Consumer c)) = false
bears_number n (Some (keys.CloseConsumer c m)) = m == n
bears_number n (Some keys.AuthChallenge) = false

-- and so a frame with it settles nothing
abbrev pub UnclaimedSettlesNothing : Type 0
UnclaimedSettlesNothing = (n : ℕ) (v : Seen) (m : MessageValues) → Unclaimed n v → bears_number n (key m) ≡ true → is 19 m ≡ false →
    settled_by m v ≡ []

-- how many requests claim the reply of this number: those that wait, and those that stand in the line
abbrev pub claims_waiting : ℕ → List Pending → ℕ
claims_waiting n [] = 0
claims_waiting n (p ∷ ps) = (if is_same (Reply n) p.awaits then 1 else 0) + claims_waiting n ps

abbrev pub claims_standing : ℕ → List Standing → ℕ
claims_standing n [] = 0
claims_standing n (x ∷ xs) = (if is_claimed n x.claim then 1 else 0) + claims_standing n xs

abbrev pub claims : ℕ → Seen → ℕ
claims n v = claims_waiting n v.waits.waiting + claims_standing n v.line

-- A number has one claim at most, and none before it is drawn.
abbrev pub ClaimedOnce : Type 0
ClaimedOnce = (s : Setup) (h : List Act) (n : ℕ) → (claims n (seen s h) ≤ 1) × ((seen s h).next_number ≤ n → claims n (seen s h) ≡ 0)

-- So a number is spent by its answer: where a frame with it settled a request, nobody claims it any longer.
abbrev pub AnswerSpends : Type 0
AnswerSpends = (s : Setup) (h : List Act) (now n : ℕ) (m : MessageValues) (rest : List ℕ) →
    (seen s h).stage ≡ Ready → front (seen s h).unread ≡ Whole m rest → bears_number n (key m) ≡ true → is 19 m ≡ false →
    (settled_by m (seen s h) ≡ [] → ⊥) → Unclaimed n (seen s (Takes now ∷ h))

-- And by a frame that could not be encoded: its number was drawn, and nobody claims it.
abbrev pub EncodingSpends : Type 0
EncodingSpends = (s : Setup) (h : List Act) (now : ℕ) (words : Words) → asked now words (seen s h) ≡ Err (error.Encoding reason.Frame) →
    (seen s (Asks now words ∷ h) ≡ drawn (is_numbered words) (ticked now (seen s h)))
    × (is_numbered words ≡ true → Unclaimed (seen s h).next_number (seen s (Asks now words ∷ h)))

-- PINGS

-- a pong settles every ping that waits: its answer has the places of all, and afterwards none waits
abbrev pub PongSettlesPings : Type 0
PongSettlesPings = (now : ℕ) (v : Seen) (m : MessageValues) (rest : List ℕ) → v.stage ≡ Ready → front v.unread ≡ Whole m rest → is 19 m ≡ true →
    (came v ≡ came_by (places (filter (λ p. is_same Pong p.awaits) v.waits.waiting)) m)
    × (list_any (λ p. is_same Pong p.awaits) (after (Takes now) v).waits.waiting ≡ false)

-- PIECES

-- cutting a piece in two is feeding both
abbrev pub CutInTwo : Type 0
CutInTwo = (a b : List ℕ) (v : Seen) → after (Feeds (a ++ b)) v ≡ after (Feeds b) (after (Feeds a) v)

-- What is in front, whole or refused, is the same whatever is fed behind it, and leaves the same: at every stage.
abbrev pub is_there : Front → Bool
is_there Short = false
is_there (Refused r) = true
is_there (Whole m rest) = true

abbrev pub TakenBeforeOrAfter : Type 0
TakenBeforeOrAfter = (now : ℕ) (b : List ℕ) (v : Seen) → is_there (front v.unread) ≡ true →
    (came (after (Feeds b) v) ≡ came v) × (after (Takes now) (after (Feeds b) v) ≡ after (Feeds b) (after (Takes now) v))

-- What is bad stays in front: it is told again, whatever is fed behind it, and nothing more is read.
abbrev pub BadStays : Type 0
BadStays = (now : ℕ) (fault : Fault) (v : Seen) → came v ≡ Bad fault →
    (after (Takes now) v ≡ ticked now v) × ((b : List ℕ) → came (after (Feeds b) v) ≡ Bad fault)

-- the bytes that an act feeds, and the messages that it takes
abbrev pub fed_in : Act → Seen → List ℕ
fed_in (Opens now) v = []
fed_in (Feeds piece) v = if is_open v.stage then piece else []
fed_in (Takes now) v = []
fed_in (Asks now words) v = []
fed_in (Drains most now) v = []
fed_in (Closes cause) v = []

abbrev pub taken_of : Stage → Front → List MessageValues
taken_of Dialing f = []
taken_of Handshaking Short = []
taken_of Handshaking (Refused r) = []
taken_of Handshaking (Whole m rest) = if is 3 m then m ∷ [] else []
taken_of Ready Short = []
taken_of Ready (Refused r) = []
taken_of Ready (Whole m rest) = m ∷ []
taken_of Over f = []

abbrev pub messages_in : Act → Seen → List MessageValues
messages_in (Opens now) v = []
messages_in (Feeds piece) v = []
messages_in (Takes now) v = taken_of v.stage (front v.unread)
messages_in (Asks now words) v = []
messages_in (Drains most now) v = []
messages_in (Closes cause) v = []

abbrev pub bytes_fed : Setup → List Act → List ℕ
bytes_fed s [] = []
bytes_fed s (act ∷ h) = bytes_fed s h ++ fed_in act (seen s h)

abbrev pub messages_taken : Setup → List Act → List MessageValues
messages_taken s [] = []
messages_taken s (act ∷ h) = messages_taken s h ++ messages_in act (seen s h)

-- Until the connection ends, the messages that were taken, and behind them those of what is unread, are those of all that was fed.
abbrev pub TakenAreCut : Type 0
TakenAreCut = (s : Setup) (h : List Act) → is_over (seen s h).stage ≡ false → messages_taken s h ++ cut (seen s h).unread ≡ cut (bytes_fed s h)

-- SLOW DOWN

-- a call that is refused so has changed nothing but the clock
abbrev pub SlowDownChangesNothing : Type 0
SlowDownChangesNothing = (now : ℕ) (words : Words) (v : Seen) → asked now words v ≡ Err error.SlowDown →
    after (Asks now words) v ≡ ticked now v

-- THE LINE

-- nobody stands in the line while there is room
abbrev pub IsInLine : Seen → Type 0
IsInLine v = has_room v ≡ true → v.line ≡ []

abbrev pub NoneStandsBesideRoom : Type 0
NoneStandsBesideRoom = (s : Setup) (h : List Act) → IsInLine (seen s h)

-- REFUSALS

abbrev pub refusal : Result Asked ConnectionError → Option ConnectionError
refusal (Ok asked) = None
refusal (Err e) = Some e

-- The first of these that holds: the connection isn't ready; its numbers are spent; there is no room, and it is not to wait; a size
-- of its frame does not fit.
abbrev pub first_refusal : (now : ℕ) → Words → Seen → Option ConnectionError
first_refusal now words v =
    if not (is_ready v.stage) then Some error.Disconnected
    else if is_numbered words && is_spent v.next_number then Some error.Exhausted
    else if not (has_room v) && not (can_wait (when_full words)) then Some error.SlowDown
    else if not (fits (message_of v.next_number now words)) then Some (error.Encoding reason.Frame)
    else None

-- Each refusal comes exactly there.
abbrev pub RefusedExactly : Type 0
RefusedExactly = (now : ℕ) (words : Words) (v : Seen) → refusal (asked now words v) ≡ first_refusal now words v

-- THE END

-- A connection that has ended stays as it is, with its cause; only its clock goes on.
abbrev pub EndedStays : Type 0
EndedStays = (act : Act) (v : Seen) → v.stage ≡ Over → ((after act v).stage ≡ Over) × ((after act v).error ≡ v.error)

-- There is a cause exactly where it has ended.
abbrev pub CauseAtEnd : Type 0
CauseAtEnd = (s : Setup) (h : List Act) → is_none (seen s h).error ≡ (if is_over (seen s h).stage then false else true)
