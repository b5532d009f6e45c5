-- What is done to a link, by what comes to it and by what plans ask of it; and what the one who asks is told at once.
use Rattle.std.specs.Prelude.{ℕ, ◌==◌, ◌&&◌, if◌then◌else◌, Bool, true, false, List, [], ◌∷◌, map, Option, Some, None}
use Rattle.std.specs.Option.{is_some, option_to_list}
use Rattle.pulsar_wire.specs.Failures.{Fault}
use Rattle.pulsar_messages.specs.Words.{Words, SendPing}
use Rattle.pulsar_session.specs.Link as session
use Rattle.pulsar_session.specs.Link.{Asks, Closes, Feeds, Takes}
use Rattle.pulsar_calls.specs.declared.act.LinkAct.{LinkAct}
use Rattle.pulsar_calls.specs.declared.act.LinkAct.TheVariants.{Opens, Reads, Drains, Pings, Ends}
use Rattle.pulsar_calls.specs.declared.act.Outcome.{Outcome}
use Rattle.pulsar_calls.specs.declared.act.Who.{Who}
use Rattle.pulsar_links.specs.LinkRules.{told_at}
use Rattle.pulsar_links.specs.Seats.{Seat, answer_at, closing, place_of, seat_asked, seat_fed, seat_got, seat_read}

-- WHAT IS DONE TO A LINK: bytes of it come, an act comes to it, it is asked for a frame, it is got, or it is closed
pub data Deed : Type 0 where
  IsFed : (piece : List ℕ) → Deed
  IsOpened : (now : ℕ) → Deed
  IsRead : (now : ℕ) → Deed
  IsDrained : (most now : ℕ) → Deed
  IsPinged : (now : ℕ) → Deed
  IsAsked : Who → (now : ℕ) → Words → Deed
  IsGot : (now : ℕ) → Deed
  IsClosed : (cause : Fault) → Deed

-- the call of its connection
abbrev pub call_by : Deed → Option session.Act
call_by (IsFed piece) = Some (Feeds piece)
call_by (IsOpened now) = Some (session.Opens now)
call_by (IsRead now) = Some (Takes now)
call_by (IsDrained most now) = Some (session.Drains most now)
call_by (IsPinged now) = Some (Asks now SendPing)
call_by (IsAsked who now request) = Some (Asks now request)
call_by (IsGot now) = None
call_by (IsClosed cause) = Some (Closes cause)

-- what it makes of one: beside its connection, who asked for a frame, when it was got, and the ping that waits
abbrev pub seat_by : Deed → Seat → Seat
seat_by (IsFed piece) seat = seat_fed piece seat
seat_by (IsOpened now) seat = record seat { seen = session.after (session.Opens now) seat.seen }
seat_by (IsRead now) seat = seat_read now seat
seat_by (IsDrained most now) seat = record seat { seen = session.after (session.Drains most now) seat.seen }
seat_by (IsPinged now) seat =
    record seat { seen = session.after (Asks now SendPing) seat.seen; ping = place_of (session.asked now SendPing seat.seen) }
seat_by (IsAsked who now request) seat = seat_asked who now request seat
seat_by (IsGot now) seat = seat_got now seat
seat_by (IsClosed cause) seat = record seat { seen = session.after (Closes cause) seat.seen }

-- what comes to it does so; and it is gone where an end closes it
abbrev pub comes_by : LinkAct → (now : ℕ) → Option Seat → List Deed
comes_by Opens now row = IsOpened now ∷ []
comes_by Reads now row = IsRead now ∷ []
comes_by (Drains most) now row = IsDrained most now ∷ []
comes_by Pings now row = IsPinged now ∷ []
comes_by (Ends end) now row = map IsClosed (option_to_list (closing end now row))

abbrev pub is_end : LinkAct → (now : ℕ) → Option Seat → Bool
is_end Opens now row = false
is_end Reads now row = false
is_end (Drains most) now row = false
is_end Pings now row = false
is_end (Ends end) now row = is_some (closing end now row)

-- one who wants a link of an address gets it where it is there
abbrev pub got_by : (link : ℕ) → Option ℕ → (now : ℕ) → List Deed
got_by l None now = []
got_by l (Some k) now = if l == k then IsGot now ∷ [] else []

-- WHAT IS ASKED OF IT. Whom that serves is said where consumers are: a consumer hears that its close is asked for.

-- what is around it: the one who asks, and the clock
pub record Around : Type 0 where
  pub who : Who
  pub now : ℕ

pub record Given : Type 0 where
  pub acts : List Deed
  pub says : Option Outcome

abbrev pub given : Around → Words → Option Seat → Given
given x request row = record { acts = IsAsked x.who x.now request ∷ []; says = Some (told_at (answer_at x.now request row)) }
