-- What comes to a link. Each act is one call of its connection: what that settles, which frames it queues and writes, and what becomes
-- of the link.  (Pulsar binary protocol, Connection establishment, Keep alive)
use Rattle.std.specs.Prelude.{ℕ, ◌-◌, nat_lt, Bool, true, false, ◌&&◌, if◌then◌else◌, List, [], ◌∷◌, ◌++◌, length, map, Option, Some, None}
use Rattle.std.specs.List.{filter_map, flat_map}
use Rattle.std.specs.Option.{option_map}
use Rattle.pulsar_wire.specs.declared.error.IoKind.TheVariants as io_kind
use Rattle.pulsar_messages.specs.Words.{SendPing}
use Rattle.pulsar_requests.specs.Waits.{is_overdue}
use Rattle.pulsar_session.specs.declared.states.Stage.{Stage}
use Rattle.pulsar_session.specs.declared.states.Stage.TheVariants.{Dialing, Handshaking, Ready, Over}
use Rattle.pulsar_wire.specs.Failures.{Fault, Io, Disconnected}
use Rattle.pulsar_session.specs.Link as session
use Rattle.pulsar_session.specs.Link.{Act, Asks, Takes, Closes, Came, Seen, came, due, ends, frame_at, written}
use Rattle.pulsar_exchange.specs.Messages.{read}
use Rattle.pulsar_calls.specs.declared.act.Arrival.{Arrival}
use Rattle.pulsar_calls.specs.declared.act.Arrival.TheVariants.{Nothing, Readied, Settles, Gives, Passes, Bad}
use Rattle.pulsar_calls.specs.declared.act.End.{End}
use Rattle.pulsar_calls.specs.declared.act.End.TheVariants.{Unopened, Lost, Overdue, Broken, Idles, Stops}
use Rattle.pulsar_calls.specs.declared.act.LinkAct.{LinkAct}
use Rattle.pulsar_calls.specs.declared.act.LinkAct.TheVariants.{Opens, Reads, Drains, Pings, Ends}
use Rattle.pulsar_calls.specs.declared.effect.Settlement.{Settlement}
use Rattle.pulsar_calls.specs.declared.effect.Settlement.TheVariants as settlement
use Rattle.pulsar_calls.specs.Content as content
use Rattle.pulsar_calls.specs.Content.{Shown, Queued, Write, Close}
use Rattle.pulsar_calls.specs.Content.{numbers_from}

-- THE CALL OF THE CONNECTION

-- why a connection that is lost ends: the attempt failed, or it was ready
abbrev pub lost_in : Stage → Fault
lost_in Dialing = Io io_kind.Other
lost_in Handshaking = Io io_kind.Other
lost_in Ready = Disconnected
lost_in Over = Disconnected

-- the cause with which an end closes it; a deadline closes it only where it is due still
abbrev pub closed_by : End → (now : ℕ) → Seen → Option Fault
closed_by (Unopened kind) now s = Some (Io kind)
closed_by Lost now s = Some (lost_in s.stage)
closed_by (Overdue below) now s = if due now s then Some (Io io_kind.TimedOut) else None
closed_by (Broken cause) now s = Some cause
closed_by Idles now s = Some Disconnected
closed_by Stops now s = Some Disconnected

abbrev pub call_of : LinkAct → (now : ℕ) → Seen → Option Act
call_of Opens now s = Some (session.Opens now)
call_of Reads now s = Some (Takes now)
call_of (Drains most) now s = Some (session.Drains most now)
call_of Pings now s = Some (Asks now SendPing)
call_of (Ends end) now s = option_map Closes (closed_by end now s)

abbrev pub called : Option Act → Seen → Seen
called None s = s
called (Some act) s = session.after act s

-- what is seen of it afterwards
abbrev pub after : LinkAct → (now : ℕ) → Seen → Seen
after x now s = called (call_of x now s) s

-- WHAT CAME: what the frame in front is to the client

abbrev pub arrives : Came → Arrival
arrives session.Nothing = Nothing
arrives session.Readied = Readied
arrives (session.Settles places reply) = Settles
arrives (session.Gives consumer reply) = Gives consumer (read reply)
arrives session.Challenged = Passes
arrives session.Dropped = Passes
arrives (session.Bad cause) = Bad cause

abbrev pub arrival : Seen → Arrival
arrival s = arrives (came s)

-- the places of the requests that it settles
abbrev pub settled_in : Came → List ℕ
settled_in session.Nothing = []
settled_in session.Readied = []
settled_in (session.Settles places reply) = places
settled_in (session.Gives consumer reply) = []
settled_in session.Challenged = []
settled_in session.Dropped = []
settled_in (session.Bad cause) = []

-- AN END

-- at a deadline those requests time out that are overdue, but for those that were asked for since the moment came; all others are lost
abbrev pub times_out : End → (now : ℕ) → Seen → (place : ℕ) → Bool
times_out (Unopened kind) now s place = false
times_out Lost now s place = false
times_out (Overdue below) now s place = nat_lt place below && is_overdue place now s.waits
times_out (Broken cause) now s place = false
times_out Idles now s place = false
times_out Stops now s place = false

abbrev pub lost_so : (is_timed_out : Bool) → Settlement
lost_so is_timed_out = if is_timed_out then settlement.TimedOut else settlement.Disconnected

-- the client closes the connection itself, unless it never was open or is lost
abbrev pub is_own_end : End → Bool
is_own_end (Unopened kind) = false
is_own_end Lost = false
is_own_end (Overdue below) = true
is_own_end (Broken cause) = true
is_own_end Idles = true
is_own_end Stops = true

-- FRAMES

-- the places of the frames that were queued between
abbrev pub new_places : (before after : Seen) → List ℕ
new_places s s' = numbers_from s.waits.queued (s'.waits.queued - s.waits.queued)

-- those of the frames that stand in the line
abbrev pub line_places : Seen → List ℕ
line_places s = numbers_from s.waits.queued (length s.line)

-- WHAT BECOMES OF A LINK

pub data Change : Type 0 where
  Remains : Change
  Becomes : Change
  IsOver : Change

abbrev pub change_in : Arrival → Change
change_in Nothing = Remains
change_in Readied = Becomes
change_in Settles = Remains
change_in (Gives consumer reply) = Remains
change_in Passes = Remains
change_in (Bad cause) = Remains

abbrev pub change_at : Option Fault → Change
change_at None = Remains
change_at (Some cause) = IsOver

-- what an act makes of it
abbrev pub change_by : LinkAct → (now : ℕ) → Seen → Change
change_by Opens now s = Remains
change_by Reads now s = change_in (arrival s)
change_by (Drains most) now s = Remains
change_by Pings now s = Remains
change_by (Ends end) now s = change_at (closed_by end now s)

-- EFFECTS

abbrev pub settles : ℕ → Settlement → ℕ → Shown
settles l how place = content.Settles l place how

abbrev pub queues_at : ℕ → Seen → ℕ → Option Shown
queues_at l s place = option_map (Queued l place) (frame_at place s)

-- the frames that were queued between
abbrev pub queues : ℕ → (before after : Seen) → List Shown
queues l s s' = filter_map (queues_at l s') (new_places s s')

-- the bytes of the frames that are written, joined
abbrev pub write : ℕ → List ℕ → List Shown
write l [] = []
write l (b ∷ bytes) = Write l (b ∷ bytes) ∷ []

abbrev pub close : ℕ → (is_own : Bool) → List Shown
close l is_own = if is_own then Close l ∷ [] else []

abbrev pub lost : ℕ → End → (now : ℕ) → Seen → ℕ → Shown
lost l end now s place = settles l (lost_so (times_out end now s place)) place

abbrev pub ended : ℕ → End → (now : ℕ) → Option Fault → Seen → List Shown
ended l end now None s = []
ended l end now (Some cause) s = map (lost l end now s) (ends s) ++ close l (is_own_end end)

abbrev pub effects : ℕ → LinkAct → (now : ℕ) → Seen → List Shown
effects l Opens now s = queues l s (after Opens now s)
effects l Reads now s = map (settles l settlement.Reply) (settled_in (came s)) ++ queues l s (after Reads now s)
effects l (Drains most) now s = write l (flat_map (λ f. f) (written most s)) ++ queues l s (after (Drains most) now s)
effects l Pings now s = queues l s (after Pings now s)
effects l (Ends end) now s = ended l end now (closed_by end now s) s
