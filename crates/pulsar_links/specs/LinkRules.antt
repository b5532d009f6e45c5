-- What links and addresses bring: who is told of a reply, of an end and of a link that is ready.
use Rattle.std.specs.Prelude.{ℕ, ◌+◌, ◌==◌, nat_le, ◌&&◌, length, Bool, false, if◌then◌else◌, List, [], ◌∷◌, ◌++◌, map, Option, Some, None, Result, Ok, Err}
use Rattle.std.specs.List.{filter_map, flat_map}
use Rattle.std.specs.Option.{is_none, option_map, option_to_list}
use Rattle.pulsar_wire.specs.declared.error.ConnectionError.{ConnectionError}
use Rattle.pulsar_wire.specs.declared.error.IoKind.{IoKind}
use Rattle.pulsar_wire.specs.declared.error.IoKind.TheVariants as io_kind
use Rattle.pulsar_session.specs.declared.states.Asked.{Asked}
use Rattle.pulsar_session.specs.declared.states.Asked.TheVariants as asked
use Rattle.pulsar_wire.specs.Failures.{Fault, fault}
use Rattle.pulsar_session.specs.Link as session
use Rattle.pulsar_requests.specs.Waits.{is_empty}
use Rattle.pulsar_session.specs.Link.{Came, Seen, came, due, ends, is_ready}
use Rattle.pulsar_exchange.specs.Messages.{read}
use Rattle.pulsar_calls.specs.declared.act.Act.{Act}
use Rattle.pulsar_calls.specs.declared.act.Act.TheVariants.{Comes}
use Rattle.pulsar_calls.specs.declared.act.End.{End}
use Rattle.pulsar_calls.specs.declared.act.End.TheVariants.{Unopened, Lost, Overdue, Broken, Idles, Stops}
use Rattle.pulsar_calls.specs.declared.act.LinkAct.TheVariants.{Drains, Ends}
use Rattle.pulsar_calls.specs.declared.act.Notice.{Notice}
use Rattle.pulsar_calls.specs.declared.act.Outcome.{Outcome}
use Rattle.pulsar_calls.specs.declared.act.Outcome.TheVariants as outcome
use Rattle.pulsar_calls.specs.declared.act.Part.{Part}
use Rattle.pulsar_calls.specs.declared.act.Part.TheVariants.{ToLink}
use Rattle.pulsar_calls.specs.declared.act.Place.TheVariants as place
use Rattle.pulsar_calls.specs.declared.act.Who.{Who}
use Rattle.pulsar_links.specs.declared.addresses.Pause.{Pause}
use Rattle.pulsar_links.specs.declared.addresses.Series.{Series}
use Rattle.pulsar_links.specs.declared.addresses.Series.TheVariants.{Nobody, Runs, Pauses, Serves}
use Rattle.pulsar_addresses.specs.Address.{address_key}
use Rattle.pulsar_links.specs.Links.{Change, Remains, Becomes, IsOver, closed_by, line_places, new_places, times_out}
use Rattle.pulsar_calls.specs.Content.{numbers_from}
use Rattle.pulsar_links.specs.Links as links
use Rattle.pulsar_links.specs.Seats.{Addresses, Base, Links, Seat, later}
use Rattle.pulsar_calls.specs.Notices.{notice}
use Rattle.pulsar_calls.specs.Who.{is_same}
use Rattle.pulsar_calls.specs.Order.{below}

-- EVENTS

-- what each live link gives, link by link in their order
abbrev pub on_link : {A : Type 0} → (ℕ → Seat → List A) → (ℕ → Option Seat) → ℕ → List A
on_link f live l = flat_map (f l) (option_to_list (live l))

abbrev pub over_links : {A : Type 0} → (ℕ → Seat → List A) → Links → List A
over_links f ls = flat_map (on_link f ls.live) (numbers_from 0 ls.started)

-- a link that is due ends, and the requests that it has queued so far may time out
abbrev pub due_part : (now link : ℕ) → Seat → List Part
due_part now l seat = if due now seat.seen then ToLink l (Ends (Overdue seat.seen.waits.queued)) ∷ [] else []

-- what one who asks for a request is told at once
abbrev pub told_at : Result Asked ConnectionError → Outcome
told_at (Ok (asked.Queued place)) = outcome.Queued
told_at (Ok (asked.Waiting place)) = outcome.InLine
told_at (Err e) = outcome.Refused (fault e)

-- every live link ends, and who stops the client is told
abbrev pub stop_act : ℕ → Seat → List Act
stop_act l seat = Comes (ToLink l (Ends Stops)) ∷ []

-- a link is pinged, unless the earlier ping still waits
abbrev pub may_ping : Option Seat → Bool
may_ping None = false
may_ping (Some seat) = is_none seat.ping

-- CAUSES OF THEIR OWN

-- who asked for a place is told
abbrev pub tells_asker : (ℕ → Outcome) → (ℕ → Option Who) → ℕ → Option Notice
tells_asker says askers place = option_map (λ who. notice who (says place)) (askers place)

-- those whose requests a frame settles
abbrev pub answered_by : Came → (ℕ → Option Who) → List Notice
answered_by session.Nothing askers = []
answered_by session.Readied askers = []
answered_by (session.Settles places reply) askers = filter_map (tells_asker (λ place. outcome.Replied (read reply)) askers) places
answered_by (session.Gives consumer reply) askers = []
answered_by session.Challenged askers = []
answered_by session.Dropped askers = []
answered_by (session.Bad cause) askers = []

abbrev pub answered_on : Option Seat → List Notice
answered_on None = []
answered_on (Some seat) = answered_by (came seat.seen) seat.askers

-- those who wait for an address, as its link becomes ready
abbrev pub served_by : ℕ → Change → List Who → List Notice
served_by l Remains ws = []
served_by l Becomes ws = map (λ who. notice who (outcome.GotLink l)) ws
served_by l IsOver ws = []

-- what those are told whose requests end with a link: that they timed out, or are lost, or that the client is stopped
abbrev pub lost_so : (is_timed_out : Bool) → Outcome
lost_so is_timed_out = if is_timed_out then outcome.TimedOut else outcome.Disconnected

abbrev pub lost_with : End → (is_timed_out : Bool) → Outcome
lost_with (Unopened kind) is_timed_out = outcome.Disconnected
lost_with Lost is_timed_out = outcome.Disconnected
lost_with (Overdue below) is_timed_out = lost_so is_timed_out
lost_with (Broken cause) is_timed_out = outcome.Disconnected
lost_with Idles is_timed_out = outcome.Disconnected
lost_with Stops is_timed_out = outcome.Cut

abbrev pub lost : End → (now : ℕ) → Seen → ℕ → Outcome
lost end now s place = lost_with end (times_out end now s place)

-- those whose frames stand in the line
abbrev pub dropped : End → Outcome
dropped (Unopened kind) = outcome.Disconnected
dropped Lost = outcome.Disconnected
dropped (Overdue below) = outcome.Disconnected
dropped (Broken cause) = outcome.Disconnected
dropped Idles = outcome.Disconnected
dropped Stops = outcome.Stopped

-- Those who wait for a link of an address, where no other attempt is to follow: the one that started the series is told why it failed, and the others that it is
-- canceled. Another first frame than `connected`, and bad bytes, fail it as its loss does.
abbrev pub failed_so : IoKind → (is_starter : Bool) → Outcome
failed_so kind is_starter = if is_starter then outcome.Failed kind else outcome.Canceled

abbrev pub fails_so : End → (is_starter : Bool) → Outcome
fails_so (Unopened kind) is_starter = failed_so kind is_starter
fails_so Lost is_starter = failed_so io_kind.Other is_starter
fails_so (Overdue below) is_starter = failed_so io_kind.TimedOut is_starter
fails_so (Broken cause) is_starter = failed_so io_kind.Other is_starter
fails_so Idles is_starter = failed_so io_kind.Other is_starter
fails_so Stops is_starter = outcome.Stopped

abbrev pub failed : End → Who → Who → Notice
failed end starter who = notice who (fails_so end (is_same who starter))

abbrev pub failed_at : End → Series → List Who → List Notice
failed_at end Nobody ws = []
failed_at end (Runs starter retries link) ws = map (failed end starter) ws
failed_at end (Pauses link) ws = []
failed_at end (Serves link) ws = []

-- all who asked on a link that ends
abbrev pub ended_places : End → (now : ℕ) → Seen → (ℕ → Option Who) → List Notice
ended_places end now s askers =
    filter_map (tells_asker (lost end now s) askers) (ends s) ++ filter_map (tells_asker (λ place. dropped end) askers) (line_places s)

abbrev pub ended_by : End → (now : ℕ) → Option Fault → Seat → List Notice
ended_by end now None seat = []
ended_by end now (Some cause) seat = ended_places end now seat.seen seat.askers

abbrev pub ended_on : End → (now : ℕ) → Option Seat → List Notice
ended_on end now None = []
ended_on end now (Some seat) = ended_by end now (closed_by end now seat.seen) seat

-- and all who wait for its address, unless another attempt is to follow
abbrev pub failed_over : End → Option Pause → Base → List Notice
failed_over end None b = failed_at end b.series b.waiting
failed_over end (Some p) b = []

-- those whose frames moved up from the line, in their order
abbrev pub moved_up : (ℕ → Option Who) → (before after : Seen) → List Notice
moved_up askers s s' = filter_map (tells_asker (λ place. outcome.Queued) askers) (new_places s s')

abbrev pub moved_on : (most now : ℕ) → Option Seat → List Notice
moved_on most now None = []
moved_on most now (Some seat) = moved_up seat.askers seat.seen (links.after (Drains most) now seat.seen)

-- those who wait for a moment, or for an attempt that is to follow, are told that the client is stopped
abbrev pub stopped_at : Addresses → Option Pause → List Notice
stopped_at known None = []
stopped_at known (Some p) = map (λ who. notice who outcome.Stopped) (known.base (address_key p.address)).waiting

-- a ready link that was not got for so long, on which no request waits and no frame stands in the line
abbrev pub is_resting_at : (now most : ℕ) → Seat → Bool
is_resting_at now most seat =
    is_ready seat.seen.stage && (nat_le (later seat.got most) now && (is_empty seat.seen.waits.waiting && (length seat.seen.line == 0)))

abbrev pub resting_at : (now most : ℕ) → ℕ → Seat → List ℕ
resting_at now most l seat = if is_resting_at now most seat then l ∷ [] else []
