-- The links of a client and the addresses that they are for, as they are seen.  (Pulsar binary protocol)
use Rattle.std.specs.Prelude.{ℕ, ◌+◌, ◌==◌, bytes_eq, nat_lt, ◌&&◌, not, Bool, true, false, if◌then◌else◌, List, [], ◌∷◌, ◌++◌, Option, Some, None, Result, Ok, Err}
use Rattle.std.specs.List.{list_any}
use Rattle.std.specs.Option.{is_none, option_map}
use Rattle.url.specs.Parts.{Parts}
use Rattle.pulsar_wire.specs.Sink.{capped}
use Rattle.pulsar_wire.specs.declared.error.ConnectionError.{ConnectionError}
use Rattle.pulsar_wire.specs.declared.error.ConnectionError.TheVariants as error
use Rattle.pulsar_addresses.specs.Address.{Place, address_key}
use Rattle.pulsar_messages.specs.Words.{Words, SendPing}
use Rattle.pulsar_requests.specs.Waits.{is_empty}
use Rattle.pulsar_session.specs.declared.states.Asked.{Asked}
use Rattle.pulsar_session.specs.declared.states.Asked.TheVariants as asked
use Rattle.pulsar_wire.specs.Failures.{Fault}
use Rattle.pulsar_session.specs.Link as session
use Rattle.pulsar_session.specs.Link.{Asks, Feeds, Seen, came, has_room, is_ready}
pub use Rattle.pulsar_session.specs.Series.{is_followed, is_passing}
use Rattle.pulsar_exchange.specs.Request.{is_awaited}
use Rattle.pulsar_calls.specs.declared.act.Arrival.{Arrival}
use Rattle.pulsar_calls.specs.declared.act.Arrival.TheVariants as arrivals
use Rattle.pulsar_calls.specs.declared.act.End.{End}
use Rattle.pulsar_calls.specs.declared.act.End.TheVariants.{Unopened, Lost, Overdue, Broken, Idles, Stops}
use Rattle.pulsar_calls.specs.declared.act.LinkAct.{LinkAct}
use Rattle.pulsar_calls.specs.declared.act.LinkAct.TheVariants.{Opens, Reads, Drains, Pings, Ends}
use Rattle.pulsar_calls.specs.declared.act.Who.{Who}
use Rattle.pulsar_links.specs.declared.addresses.Pause.{Pause}
use Rattle.pulsar_links.specs.declared.addresses.Series.{Series}
use Rattle.pulsar_links.specs.declared.addresses.Series.TheVariants.{Nobody, Runs, Pauses, Serves}
use Rattle.pulsar_links.specs.Links.{Change, Remains, Becomes, IsOver, arrival, change_in, closed_by, settled_in}
use Rattle.pulsar_links.specs.Links as links

-- A link that has not ended: the address that it is for, what is seen of it, and for each place whose request waits, or stands in the
-- line and has a reply, who asked for it; the moment at which it was last got; and the place of the ping that was asked for to keep it
-- alive, while that waits, be it queued or in the line.
pub record Seat : Type 0 where
  pub address : Place
  pub seen : Seen
  pub askers : ℕ → Option Who
  pub got : ℕ
  pub ping : Option ℕ

-- the links: how many were started, and those of them that have not ended
pub record Links : Type 0 where
  pub started : ℕ
  pub live : ℕ → Option Seat

-- an address: what runs for it, and who waits for that
pub record Base : Type 0 where
  pub series : Series
  pub waiting : List Who

abbrev pub nobody : Base
nobody = record { series = Nobody; waiting = [] }

-- the addresses, each by its key; and by the link whose attempt failed, the attempts that are to follow
pub record Addresses : Type 0 where
  pub base : (key : List ℕ) → Base
  pub pause : (link : ℕ) → Option Pause

-- a moment that is so far from another
abbrev pub later : (now delay : ℕ) → ℕ
later now delay = capped (now + delay)

-- a piece of bytes is fed as its event begins
abbrev pub seat_fed : (piece : List ℕ) → Seat → Seat
seat_fed piece seat = record seat { seen = session.after (Feeds piece) seat.seen }

abbrev pub seat_of_fresh : Place → (now : ℕ) → Seen → Seat
seat_of_fresh p now seen = record { address = p; seen = seen; askers = λ place. None; got = now; ping = None }

-- what the frame in front of a link is, and why an end closes it: nothing comes to one that has ended
abbrev pub arrival_at : Option Seat → Arrival
arrival_at None = arrivals.Nothing
arrival_at (Some seat) = arrival seat.seen

abbrev pub closing : End → (now : ℕ) → Option Seat → Option Fault
closing end now None = None
closing end now (Some seat) = closed_by end now seat.seen

-- those whose requests are settled are no askers any more
abbrev pub askers_left : (settled : List ℕ) → (ℕ → Option Who) → ℕ → Option Who
askers_left settled askers place = if list_any (λ p. p == place) settled then None else askers place

-- the place of a frame that is asked for
abbrev pub place_of : Result Asked ConnectionError → Option ℕ
place_of (Ok (asked.Queued place)) = Some place
place_of (Ok (asked.Waiting place)) = Some place
place_of (Err e) = None

-- a link counts as got when it becomes ready: those who waited get it then
abbrev pub got_since : Change → (now got : ℕ) → ℕ
got_since Remains now got = got
got_since Becomes now got = now
got_since IsOver now got = got

-- the ping waits until its place is settled
abbrev pub ping_left : (settled : List ℕ) → Option ℕ → Option ℕ
ping_left settled None = None
ping_left settled (Some place) = if list_any (λ p. p == place) settled then None else Some place

abbrev pub seat_read : (now : ℕ) → Seat → Seat
seat_read now seat =
    record {
      address = seat.address;
      seen = links.after Reads now seat.seen;
      askers = askers_left (settled_in (came seat.seen)) seat.askers;
      got = got_since (change_in (arrival seat.seen)) now seat.got;
      ping = ping_left (settled_in (came seat.seen)) seat.ping;
    }

-- a link is forgotten where it ends
abbrev pub took_end : Option Fault → Seat → Option Seat
took_end None seat = Some seat
took_end (Some cause) seat = None

abbrev pub took : LinkAct → (now : ℕ) → Seat → Option Seat
took Opens now seat = Some (record seat { seen = links.after Opens now seat.seen })
took Reads now seat = Some (seat_read now seat)
took (Drains most) now seat = Some (record seat { seen = links.after (Drains most) now seat.seen })
took Pings now seat = Some (record seat { seen = links.after Pings now seat.seen; ping = place_of (session.asked now SendPing seat.seen) })
took (Ends end) now seat = took_end (closed_by end now seat.seen) seat

abbrev pub took_some : LinkAct → (now : ℕ) → Option Seat → Option Seat
took_some x now None = None
took_some x now (Some seat) = took x now seat

-- a link was started, and has ended
abbrev pub has_ended : ℕ → Links → Bool
has_ended l ls = nat_lt l ls.started && is_none (ls.live l)

-- a request waits on a link that has not ended
abbrev pub is_busy : Option Seat → Bool
is_busy None = false
is_busy (Some seat) = not (is_empty seat.seen.waits.waiting)

-- what becomes of a request that is asked for on a link: it is refused where there is no such link
abbrev pub answer_at : (now : ℕ) → Words → Option Seat → Result Asked ConnectionError
answer_at now request None = Err error.Disconnected
answer_at now request (Some seat) = session.asked now request seat.seen

-- it is asked for, be it queued or in the line
abbrev pub is_asked : Result Asked ConnectionError → Bool
is_asked (Ok asked) = true
is_asked (Err e) = false

-- who asks for a frame that has a reply is the asker of its place
abbrev pub asker_at : (is_asker : Bool) → Who → (place : Option ℕ) → (ℕ → Option Who) → ℕ → Option Who
asker_at is_asker who None askers p = askers p
asker_at is_asker who (Some place) askers p = if is_asker then (if p == place then Some who else askers p) else askers p

abbrev pub seat_asked : Who → (now : ℕ) → Words → Seat → Seat
seat_asked who now request seat =
    record {
      address = seat.address;
      seen = session.after (Asks now request) seat.seen;
      askers = asker_at (is_awaited request) who (place_of (session.asked now request seat.seen)) seat.askers;
      got = seat.got;
      ping = seat.ping;
    }

abbrev pub seat_got : (now : ℕ) → Seat → Seat
seat_got now seat = record seat { got = now }

abbrev pub got_at : Option ℕ → (now : ℕ) → ℕ → Option Seat → Option Seat
got_at None now l row = row
got_at (Some k) now l row = if l == k then option_map (seat_got now) row else row

-- an attempt that ended so may go well another time
abbrev pub is_retryable : End → Bool
is_retryable (Unopened kind) = is_passing kind
is_retryable Lost = false
is_retryable (Overdue below) = true
is_retryable (Broken cause) = false
is_retryable Idles = false
is_retryable Stops = false

-- another attempt is to follow one that failed: for the one who started the series, behind so many retries
abbrev pub may_retry : (most : ℕ) → End → Series → Option (Who × ℕ)
may_retry most end Nobody = None
may_retry most end (Runs starter retries link) = if is_followed most retries (is_retryable end) then Some (starter, retries) else None
may_retry most end (Pauses link) = None
may_retry most end (Serves link) = None

abbrev pub pause_with : Place → Who × ℕ → Pause
pause_with p w = record { address = p; starter = w.0; retries = w.1 }

-- THE ADDRESSES

-- a link that becomes ready serves those who wait for its address, and all who get it later; where a link ends nobody serves, and where
-- another attempt is to follow it is waited for
abbrev pub base_over : (link : ℕ) → Option Pause → Base → Base
base_over l None b = nobody
base_over l (Some p) b = record { series = Pauses l; waiting = b.waiting }

abbrev pub base_turned : (link : ℕ) → Change → Option Pause → Base → Base
base_turned l Remains pause b = b
base_turned l Becomes pause b = record { series = Serves l; waiting = [] }
base_turned l IsOver pause b = base_over l pause b

abbrev pub base_waiting : Who → Base → Base
base_waiting who b = record { series = b.series; waiting = b.waiting ++ who ∷ [] }

abbrev pub base_dialed : (link : ℕ) → Place → Who → (retries : ℕ) → (key : List ℕ) → Base → Base
base_dialed l p starter retries key b =
    if bytes_eq (address_key p) key then record { series = Runs starter retries l; waiting = b.waiting } else b

-- with the stop no attempt follows: an address waits for none where an alarm is set for it
abbrev pub is_for : (key : List ℕ) → Option Pause → Bool
is_for key None = false
is_for key (Some p) = bytes_eq (address_key p.address) key

abbrev pub pause_put : Option Pause → (link : ℕ) → ℕ → Option Pause → Option Pause
pause_put None k l row = row
pause_put (Some p) k l row = if l == k then Some p else row

-- ITS URL, AND ITS ROOM

-- the address of a link that has not ended
abbrev pub url_at : Option Seat → Option Parts
url_at row = option_map (λ seat. seat.address.url) row

-- whether there is room on a link, where it is ready
abbrev pub room_in : Seat → Option Bool
room_in seat = if is_ready seat.seen.stage then Some (has_room seat.seen) else None

abbrev pub room_at : Option Seat → Option Bool
room_at None = None
room_at (Some seat) = room_in seat
