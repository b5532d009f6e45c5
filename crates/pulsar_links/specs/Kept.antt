-- For the code's contracts alone: the links, the addresses and the alarms, as the code keeps them, and what is read of a link that may have
-- ended.
use Rattle.std.specs.Prelude.{◌≡◌, ℕ, ◌≤◌, Bool, true, false, List, Option, Some, None, String}
use Rattle.std.specs.BTreeMap.{BTreeMap, IsOrdered, get, get_by_text}
use Rattle.std.specs.BTreeSet.{BTreeSet, contains}
use Rattle.std.specs.Global.{Vec}
use Rattle.std.specs.Option.{is_none, option_map}
use Rattle.std.specs.Ordering.{nat_cmp}
use Rattle.pulsar_requests.specs.Soonest.{has_come}
use Rattle.pulsar_wire.specs.Failures.{Fault}
use Rattle.pulsar_session.specs.Link.{due}
use Rattle.pulsar_addresses.specs.Address.{Place, address_key}
use Rattle.pulsar_calls.specs.declared.act.Alarm.{Alarm}
use Rattle.pulsar_calls.specs.declared.act.End.{End}
use Rattle.pulsar_calls.specs.declared.act.Notice.{Notice}
use Rattle.pulsar_links.specs.declared.addresses.Addresses.{Addresses as KeptAddresses}
use Rattle.pulsar_links.specs.declared.addresses.Base.{Base as Kept}
use Rattle.pulsar_links.specs.declared.addresses.Pause.{Pause}
use Rattle.pulsar_links.specs.declared.alarms.Alarms.TheInside.{Inside}
use Rattle.pulsar_links.specs.declared.row.Row.{Row}
use Rattle.pulsar_links.specs.Alarms.{alarm_cmp, moment_of}
use Rattle.pulsar_links.specs.Due.{is_moment, moment_at}
use Rattle.pulsar_links.specs.LinkRules.{ended_on}
use Rattle.pulsar_links.specs.Seats.{Addresses, Base, Links, Seat, askers_left, closing, may_retry, nobody, pause_with, ping_left}

abbrev pub seat_of : Row → Seat
seat_of r = record { address = r.address; seen = r.connection; askers = get nat_cmp r.askers; got = r.got; ping = r.ping }

-- the requests of some places are settled on a link
abbrev pub settled : List ℕ → Seat → Seat
settled places seat = record seat { askers = askers_left places seat.askers; ping = ping_left places seat.ping }

abbrev pub live_in : BTreeMap ℕ Row → ℕ → Option Seat
live_in live l = option_map seat_of (get nat_cmp live l)

abbrev pub links_in : ℕ → BTreeMap ℕ Row → Links
links_in started live = record { started = started; live = live_in live }

-- a link is due
abbrev pub is_due : (now : ℕ) → Option Seat → Bool
is_due now None = false
is_due now (Some seat) = due now seat.seen

-- the moments are those at which the links are due
abbrev pub AreTimed : List (ℕ × ℕ) → BTreeMap ℕ Row → Type 0
AreTimed moments live = (l now : ℕ) → has_come now (moment_at moments l) ≡ is_due now (live_in live l)

-- a link that was not started is none
abbrev pub AreStarted : ℕ → BTreeMap ℕ Row → Type 0
AreStarted started live = (l : ℕ) → started ≤ l → is_none (live_in live l) ≡ true

-- the address and the notices of an end, if it is one
abbrev pub IsEnd : Option (Place × Vec Notice) → End → (now : ℕ) → Option Seat → Type 0
IsEnd None end now row = closing end now row ≡ None
IsEnd (Some r) end now row =
    (cause : Fault) × (closing end now row ≡ Some cause) × (option_map (λ seat. seat.address) row ≡ Some r.0) × (r.1.items ≡ ended_on end now row)

-- THE ADDRESSES

abbrev pub base_of : Kept → Base
base_of b = record { series = b.series; waiting = b.waiting.items }

-- nothing is kept of an address for which nothing runs
abbrev pub base_or_nobody : Option Kept → Base
base_or_nobody None = nobody
base_or_nobody (Some b) = base_of b

abbrev pub base_at : {Z : Type 0} → BTreeMap (String Z) Kept → (key : List ℕ) → Base
base_at bases key = base_or_nobody (get_by_text bases key)

abbrev pub pause_at : BTreeMap ℕ Pause → ℕ → Option Pause
pause_at pauses l = get nat_cmp pauses l

-- the attempt that is to follow one to an address that ends so
abbrev pub follows_at : {Z : Type 0} → (most : ℕ) → End → Place → BTreeMap (String Z) Kept → Option Pause
follows_at most end p bases = option_map (pause_with p) (may_retry most end (base_at bases (address_key p)).series)

abbrev pub addresses_of : KeptAddresses → Addresses
addresses_of a = record { base = base_at a.bases; pause = pause_at a.pauses }

-- THE ALARMS

-- an alarm is listed at a moment
abbrev pub is_in : Alarm → Option (BTreeSet Alarm) → Bool
is_in a None = false
is_in a (Some alarms) = contains alarm_cmp alarms a

-- each alarm is listed at its moment, and at no other
pub record AreSet (i : Inside) : Type 0 where
  pub listed : (m : ℕ) (a : Alarm) → is_in a (get nat_cmp i.alarms m) ≡ is_moment m (moment_of a i.moments.entries)
  pub ordered : IsOrdered alarm_cmp i.moments
