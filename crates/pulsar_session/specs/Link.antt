-- One connection: what is done to it, what is seen of it, and what it answers. It knows places on itself, and no calls.
-- (Pulsar binary protocol, Connection establishment, Keep alive, Simple commands)
use Rattle.std.specs.Prelude.{ℕ, ◌+◌, ◌-◌, ◌^◌, nat_lt, nat_le, ◌&&◌, not, Bool, true, false, if◌then◌else◌, List, [], ◌∷◌, ◌++◌, length, take, drop, filter, Option, Some, None, Result, Ok, Err, slice_get}
use Rattle.std.specs.Option.{option_map}
use Rattle.url.specs.Parts.{Parts}
use Rattle.pulsar_wire.specs.Sink.{capped}
use Rattle.pulsar_wire.specs.At.{uint64_at}
use Rattle.pulsar_wire.specs.Command.{BodyValues, CommandValues}
use Rattle.pulsar_wire.specs.declared.error.IoKind.TheVariants as io_kind
use Rattle.pulsar_wire.specs.declared.error.Reason.TheVariants as reason
use Rattle.pulsar_wire.specs.declared.error.ConnectionError.{ConnectionError}
use Rattle.pulsar_wire.specs.declared.error.ConnectionError.TheVariants as error
use Rattle.pulsar_wire.specs.declared.key.RequestKey.{RequestKey}
use Rattle.pulsar_wire.specs.declared.key.RequestKey.TheVariants as keys
use Rattle.pulsar_frame.specs.Message.{MessageValues}
use Rattle.pulsar_frame.specs.Payload.{PayloadValues}
use Rattle.pulsar_frame.specs.Key.{is_unready, key}
use Rattle.pulsar_frame.specs.Frame.{Front, Short, Refused, Whole, counted_bytes, frame_bytes, front}
use Rattle.pulsar_messages.specs.Content.{AuthenticationValues}
use Rattle.pulsar_messages.specs.Messages.{PayloadContent, command_of, connect_command, payload_of}
use Rattle.pulsar_messages.specs.Words.{WhenFull, Wait, Refuse, Drop, Words, SendPong, AuthChallenge, is_numbered, when_full}
use Rattle.pulsar_wire.specs.declared.awaited.Claim.{Claim}
use Rattle.pulsar_requests.specs.Waits.{Pending, Waits, any_due, ended, named, places, told, with_next, without}
use Rattle.pulsar_session.specs.declared.states.Stage.{Stage}
use Rattle.pulsar_session.specs.declared.states.Stage.TheVariants.{Dialing, Handshaking, Ready, Over}
use Rattle.pulsar_session.specs.declared.states.Asked.{Asked}
use Rattle.pulsar_session.specs.declared.states.Asked.TheVariants.{Queued, Waiting}
use Rattle.pulsar_session.specs.Answers.{answers, awaited_by, is}
use Rattle.pulsar_wire.specs.Failures.{Fault, Io, Decoding}
use Rattle.pulsar_messages.specs.Claims.{claim, is_spent}

-- WHAT IS DONE TO A CONNECTION: an act for each public call that changes it

pub data Act : Type 0 where
  Opens : (now : ℕ) → Act
  Feeds : (piece : List ℕ) → Act
  Takes : (now : ℕ) → Act
  Asks : (now : ℕ) (words : Words) → Act
  Drains : (most now : ℕ) → Act
  Closes : (cause : Fault) → Act

-- WHAT IS SEEN OF IT

-- what it was made with
pub record Setup : Type 0 where
  pub id : List ℕ
  pub url : Parts
  pub auth : Option AuthenticationValues
  pub proxy : Option (List ℕ)
  pub connection_timeout : ℕ
  pub operation_timeout : ℕ
  pub outbound : ℕ
  pub first_number : ℕ
  pub made : ℕ

-- a frame that stands in the line
pub record Standing : Type 0 where
  pub frame : List ℕ
  pub claim : Option Claim

-- Where it stands and why it ended; the number of the next request; the frames that are queued and not written, and those
-- that stand in the line behind them; its clock and the requests that wait; the bytes that came and were not taken.
pub record Seen : Type 0 where
  pub setup : Setup
  pub stage : Stage
  pub error : Option Fault
  pub next_number : ℕ
  pub unwritten : List (List ℕ)
  pub line : List Standing
  pub waits : Waits
  pub unread : List ℕ

abbrev pub is_open : Stage → Bool
is_open Dialing = false
is_open Handshaking = true
is_open Ready = true
is_open Over = false

abbrev pub is_ready : Stage → Bool
is_ready Dialing = false
is_ready Handshaking = false
is_ready Ready = true
is_ready Over = false

abbrev pub is_over : Stage → Bool
is_over Dialing = false
is_over Handshaking = false
is_over Ready = false
is_over Over = true

abbrev pub fresh : Setup → Seen
fresh s =
    record {
      setup = s;
      stage = Dialing;
      error = None;
      next_number = s.first_number;
      unwritten = [];
      line = [];
      waits = record { clock = s.made; timeout = s.operation_timeout; queued = 0; waiting = []; excused = [] };
      unread = [];
    }

abbrev pub ticked : ℕ → Seen → Seen
ticked now v = record v { waits = told now v.waits }

-- ROOM AND LINE

abbrev pub has_room : Seen → Bool
has_room v = nat_lt (length v.unwritten) v.setup.outbound

-- a frame is queued at the next place; where it has a claim to an answer, that is waited for
abbrev pub queue : List ℕ → Option Claim → Seen → Seen
queue frame claim v = record v { unwritten = v.unwritten ++ frame ∷ []; waits = with_next claim v.waits }

-- a frame that is asked for: its message, its claim, and what becomes of it where there is no room
pub record Request : Type 0 where
  pub message : MessageValues
  pub claim : Option Claim
  pub when_full : WhenFull

-- each size of its frame fits its field: the total does, and the others are smaller
abbrev pub fits : MessageValues → Bool
fits m = nat_lt (length (counted_bytes m)) (2 ^ 32)

abbrev pub frame_for : MessageValues → Option (List ℕ)
frame_for m = if fits m then Some (frame_bytes m) else None

abbrev pub can_wait : WhenFull → Bool
can_wait Wait = true
can_wait Refuse = false
can_wait Drop = false

-- The place that the frame has, or will have unless the connection ends before. Room comes first: where there is none, and it is
-- not to wait, it is not looked at.
abbrev pub place_in : (room waits : Bool) → Option (List ℕ) → Seen → Result Asked ConnectionError
place_in true waits (Some frame) v = Ok (Queued v.waits.queued)
place_in true waits None v = Err (error.Encoding reason.Frame)
place_in false true (Some frame) v = Ok (Waiting (v.waits.queued + length v.line))
place_in false true None v = Err (error.Encoding reason.Frame)
place_in false false frame v = Err error.SlowDown

abbrev pub place_of : Option (List ℕ) → (waits : Bool) → Seen → Result Asked ConnectionError
place_of frame waits v = place_in (has_room v) waits frame v

abbrev pub asked_for : Request → Seen → Result Asked ConnectionError
asked_for r v = place_of (frame_for r.message) (can_wait r.when_full) v

abbrev pub put_in : (room waits : Bool) → List ℕ → Option Claim → Seen → Seen
put_in true waits frame claim v = queue frame claim v
put_in false true frame claim v = record v { line = v.line ++ record { frame = frame; claim = claim } ∷ [] }
put_in false false frame claim v = v

abbrev pub put_frame : Option (List ℕ) → (waits : Bool) → Option Claim → Seen → Seen
put_frame None waits claim v = v
put_frame (Some frame) waits claim v = put_in (has_room v) waits frame claim v

abbrev pub asks_for : Request → Seen → Seen
asks_for r v = put_frame (frame_for r.message) (can_wait r.when_full) r.claim v

-- the line moves up while there is room
abbrev pub moved_up : List Standing → Seen → Seen
moved_up [] v = record v { line = [] }
moved_up (s ∷ line) v = if has_room v then moved_up line (queue s.frame s.claim v) else record v { line = s ∷ line }

-- REQUEST CALLS

-- the message of what is asked, with the number of the request where it has one, and the moment at which it is asked
abbrev pub payload_values_of : PayloadContent → PayloadValues
payload_values_of p = record { metadata = p.metadata; bytes = p.bytes }

abbrev pub bare : CommandValues → MessageValues
bare command = record { command = command; payload = None }

abbrev pub whole : CommandValues → PayloadContent → MessageValues
whole command payload = record { command = command; payload = Some (payload_values_of payload) }

abbrev pub message_of : (id now : ℕ) → Words → MessageValues
message_of id now words = record { command = command_of id words; payload = option_map payload_values_of (payload_of now words) }

abbrev pub request : (id now : ℕ) → Words → Request
request id now words = record { message = message_of id now words; claim = claim id words; when_full = when_full words }

-- the number of what is asked for next, where it may be asked for
abbrev pub number_for : (numbered : Bool) → Seen → Result ℕ ConnectionError
number_for numbered v =
    if is_ready v.stage then (if numbered && is_spent v.next_number then Err error.Exhausted else Ok v.next_number)
    else Err error.Disconnected

abbrev pub drawn : (numbered : Bool) → Seen → Seen
drawn numbered v = if numbered then record v { next_number = v.next_number + 1 } else v

abbrev pub answer_of : Result ℕ ConnectionError → (now : ℕ) → Words → Seen → Result Asked ConnectionError
answer_of (Err e) now words v = Err e
answer_of (Ok id) now words v = asked_for (request id now words) (drawn (is_numbered words) v)

abbrev pub after_of : Result ℕ ConnectionError → (now : ℕ) → Words → Seen → Seen
after_of (Err e) now words v = v
after_of (Ok id) now words v = asks_for (request id now words) (drawn (is_numbered words) v)

-- what a request call answers, and what it does
abbrev pub asked : (now : ℕ) → Words → Seen → Result Asked ConnectionError
asked now words v = answer_of (number_for (is_numbered words) v) now words (ticked now v)

abbrev pub asks : (now : ℕ) → Words → Seen → Seen
asks now words v = after_of (number_for (is_numbered words) v) now words (ticked now v)

-- FRAMES THAT COME

-- what the frame in front is to the caller
pub data Came : Type 0 where
  Nothing : Came
  Readied : Came
  Settles : (places : List ℕ) (reply : MessageValues) → Came
  Gives : (consumer : ℕ) (reply : MessageValues) → Came
  Challenged : Came
  Dropped : Came
  Bad : Fault → Came

abbrev pub settled_by : MessageValues → Seen → List Pending
settled_by m v = filter (λ p. answers m p.awaits) v.waits.waiting

-- the number under which a producer is not ready yet
abbrev pub unready_in : Option BodyValues → Option ℕ
unready_in None = None
unready_in (Some b) = if is_unready b then uint64_at 1 b.row b.values else None

abbrev pub for_consumer : Option RequestKey → MessageValues → Came
for_consumer None m = Dropped
for_consumer (Some (keys.RequestId n)) m = Dropped
for_consumer (Some (keys.ProducerSend p s)) m = Dropped
for_consumer (Some (keys.Consumer c)) m = Gives c m
for_consumer (Some (keys.CloseConsumer c n)) m = Gives c m
for_consumer (Some keys.AuthChallenge) m = Dropped

-- what a frame is that settles no request
abbrev pub unasked : MessageValues → Came
unasked m = if is 36 m then Challenged else for_consumer (key m) m

abbrev pub came_by : List ℕ → MessageValues → Came
came_by [] m = unasked m
came_by (p ∷ ps) m = Settles (p ∷ ps) m

-- the first frame must be `connected`
abbrev pub greeted_by : (connected : Bool) → Came
greeted_by true = Readied
greeted_by false = Bad (Io io_kind.Other)

abbrev pub came_in : Stage → Front → Seen → Came
came_in Dialing f v = Nothing
came_in Handshaking Short v = Nothing
came_in Handshaking (Refused r) v = Bad (Io io_kind.Other)
came_in Handshaking (Whole m rest) v = greeted_by (is 3 m)
came_in Ready Short v = Nothing
came_in Ready (Refused r) v = Bad (Decoding r)
came_in Ready (Whole m rest) v = came_by (places (settled_by m v)) m
came_in Over f v = Nothing

abbrev pub came : Seen → Came
came v = came_in v.stage (front v.unread) v

-- A ping is answered by a pong, unless there is no room; a challenge by the credential, where there is one.
abbrev pub pongs : Request
pongs = request 0 0 SendPong

abbrev pub responds : AuthenticationValues → Request
responds auth = request 0 0 (AuthChallenge auth)

abbrev pub challenged : Option AuthenticationValues → Seen → Seen
challenged None v = v
challenged (Some auth) v = asks_for (responds auth) v

abbrev pub named_by : Option ℕ → Seen → Seen
named_by None v = v
named_by (Some n) v = record v { waits = named n v.waits }

abbrev pub reacts : MessageValues → Seen → Seen
reacts m v =
    if is 18 m then asks_for pongs v
    else if is 36 m then challenged v.setup.auth v
    else named_by (unready_in m.command.body) v

-- the requests that a message answers wait no longer
abbrev pub answered_to : MessageValues → Waits → Waits
answered_to m w =
    record w { waiting = filter (λ p. not (answers m p.awaits)) w.waiting; excused = without (awaited_by (is 19 m) (key m)) w.excused }

abbrev pub answered : MessageValues → Seen → Seen
answered m v = record v { waits = answered_to m v.waits }

abbrev pub reacts_unless : List ℕ → MessageValues → Seen → Seen
reacts_unless [] m v = reacts m v
reacts_unless (p ∷ ps) m v = v

abbrev pub received : MessageValues → Seen → Seen
received m v = reacts_unless (places (settled_by m v)) m (answered m v)

-- another first frame than `connected` stays in front, and so does what is no frame
abbrev pub greeted : (connected : Bool) → List ℕ → Seen → Seen
greeted true rest v = record v { stage = Ready; unread = rest }
greeted false rest v = v

abbrev pub taken_in : Stage → Front → Seen → Seen
taken_in Dialing f v = v
taken_in Handshaking Short v = v
taken_in Handshaking (Refused r) v = v
taken_in Handshaking (Whole m rest) v = greeted (is 3 m) rest v
taken_in Ready Short v = v
taken_in Ready (Refused r) v = v
taken_in Ready (Whole m rest) v = received m (record v { unread = rest })
taken_in Over f v = v

abbrev pub takes : ℕ → Seen → Seen
takes now v = taken_in v.stage (front v.unread) (ticked now v)

-- THE OTHER CALLS

-- the connect frame is queued whether there is room or not
abbrev pub greets_with : Option (List ℕ) → Seen → Seen
greets_with None v = v
greets_with (Some frame) v = queue frame None v

abbrev pub greets : MessageValues → Seen → Seen
greets m v = greets_with (frame_for m) v

abbrev pub greeting : Setup → MessageValues
greeting s = bare (connect_command s.auth s.proxy)

abbrev pub opens_in : Stage → Seen → Seen
opens_in Dialing v = greets (greeting v.setup) (record v { stage = Handshaking })
opens_in Handshaking v = v
opens_in Ready v = v
opens_in Over v = v

abbrev pub opens : ℕ → Seen → Seen
opens now v = opens_in v.stage (ticked now v)

abbrev pub feeds : List ℕ → Seen → Seen
feeds piece v = if is_open v.stage then record v { unread = v.unread ++ piece } else v

-- the frames that a drain writes
abbrev pub written : ℕ → Seen → List (List ℕ)
written most v = if is_open v.stage then take most v.unwritten else []

abbrev pub drained : (most : ℕ) → Seen → Seen
drained most v = if is_open v.stage then moved_up v.line (record v { unwritten = drop most v.unwritten }) else v

abbrev pub drains : (most now : ℕ) → Seen → Seen
drains most now v = drained most (ticked now v)

-- the places of those that wait no longer where the link ends
abbrev pub ends : Seen → List ℕ
ends v = if is_over v.stage then [] else places v.waits.waiting

abbrev pub closes : Fault → Seen → Seen
closes cause v =
    if is_over v.stage then v
    else record v { stage = Over; error = Some cause; unwritten = []; line = []; waits = ended v.waits; unread = [] }

-- one that isn't ready is due when it has been dialed for too long, a ready one where a request of it is
abbrev pub is_late : ℕ → Seen → Bool
is_late now v = nat_le (capped (v.setup.made + v.setup.connection_timeout)) now

abbrev pub due_in : Stage → ℕ → Seen → Bool
due_in Dialing now v = is_late now v
due_in Handshaking now v = is_late now v
due_in Ready now v = any_due now v.waits
due_in Over now v = false

abbrev pub due : ℕ → Seen → Bool
due now v = due_in v.stage now v

-- the frame of a place, where it is queued and not written
abbrev pub frame_at : ℕ → Seen → Option (List ℕ)
frame_at place v =
    let first = v.waits.queued - length v.unwritten in if nat_lt place first then None else slice_get v.unwritten (place - first)

-- WHAT A HISTORY SAYS. Its acts, newest first.

abbrev pub after : Act → Seen → Seen
after (Opens now) v = opens now v
after (Feeds piece) v = feeds piece v
after (Takes now) v = takes now v
after (Asks now words) v = asks now words v
after (Drains most now) v = drains most now v
after (Closes cause) v = closes cause v

abbrev pub seen : Setup → List Act → Seen
seen s [] = fresh s
seen s (act ∷ h) = after act (seen s h)

-- a request call fails for want of memory
abbrev pub is_no_memory : ConnectionError → Bool
is_no_memory error.NoMemory = true
is_no_memory _ = false

abbrev pub is_memory : Result Asked ConnectionError → Bool
is_memory (Ok asked) = false
is_memory (Err e) = is_no_memory e
