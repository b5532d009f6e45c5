-- Which connection serves an address: the one that is ready, or that comes of the series of attempts that runs.  (Pulsar binary
-- protocol, Connection establishment; Topic lookup)
use Rattle.std.specs.Prelude.{◌≡◌, ℕ, ◌+◌, ◌-◌, ◌^◌, nat_le, Bool, true, false, ◌&&◌, List, Option, Some, None, ◌==◌, if◌then◌else◌}
use Rattle.std.specs.BTreeMap.{get}
use Rattle.std.specs.Option.{option_map}
use Rattle.std.specs.Ordering.{nat_cmp}
use Rattle.pulsar_wire.specs.declared.error.ConnectionError.{ConnectionError}
use Rattle.pulsar_wire.specs.declared.error.ConnectionError.TheVariants as error
use Rattle.pulsar_messages.specs.Content.{authentication_values}
use Rattle.pulsar_wire.specs.Failures.{Fault, NotFound, NoMemory, fault}
use Rattle.pulsar_session.specs.Link as session
use Rattle.pulsar_session.specs.Series as rule
use Rattle.pulsar_session.specs.declared.states.Stage.{Stage}
use Rattle.pulsar_session.specs.declared.states.Stage.TheVariants.{Dialing, Handshaking, Ready, Over}
use Rattle.pulsar_addresses.specs.Address.{Place, behind, is_reachable}
use Rattle.pulsar_addresses.specs.Backoff.{capped, connection_id, one_more}
use Rattle.pulsar_searches.specs.declared.turn.Ways.{Ways}
use Rattle.pulsar_discovery.specs.declared.manager.ConnectionManager.{ConnectionManager}
use Rattle.pulsar_discovery.specs.declared.manager.Got.{Got}
use Rattle.pulsar_discovery.specs.declared.manager.Got.TheVariants as got
use Rattle.pulsar_discovery.specs.declared.addresses.Phase.{Phase}
use Rattle.pulsar_discovery.specs.declared.addresses.Phase.TheVariants.{Runs, Pauses, Serves}
use Rattle.pulsar_discovery.specs.declared.addresses.Seat.{Seat}
use Rattle.pulsar_discovery.specs.declared.manager.Seen.{Seen}
use Rattle.pulsar_discovery.specs.declared.manager.Seen.TheVariants as seen
use Rattle.pulsar_discovery.specs.declared.manager.Terms.{Terms}
use Rattle.pulsar_discovery.specs.Series.{IsSeries, Series, begun, in_phase, no_series, put_at, reseated, series, standing, without}

-- WHAT IS KNOWN

-- how connections are made, and how many were started; the series of their addresses; and what is seen of those that have not ended
pub record Known : Type 0 where
  pub terms : Terms
  pub links : ℕ
  pub series : Series
  pub connection : ℕ → Option session.Seen

abbrev pub known : ConnectionManager → Known
known m =
    record { terms = m.terms; links = m.links; series = series m.addresses; connection = λ l. get nat_cmp m.connections l }

-- the same is known
pub record Is (a b : Known) : Type 0 where
  pub terms : a.terms ≡ b.terms
  pub links : a.links ≡ b.links
  pub series : IsSeries a.series b.series
  pub connection : (l : ℕ) → a.connection l ≡ b.connection l

-- nothing is known of a connection yet
abbrev pub fresh : Terms → Known
fresh t = record { terms = t; links = 0; series = no_series; connection = λ l. None }

-- where the client looks first
abbrev pub ways_of : Terms → Ways
ways_of t = record { base = t.base; retry_delay = t.operation.retry_delay; max_retries = t.operation.max_retries }

-- a manager is refused where there is no such address, or for want of memory
abbrev pub IsNoAddress : ConnectionError → Option Place → Type 0
IsNoAddress error.NoMemory base = Unit {0}
IsNoAddress error.NotFound base = base ≡ None
IsNoAddress _ base = ⊥

-- GET

-- what one who wants a connection gets: one that is ready, one that he starts, or the end of the attempts that run
pub data GotValues : Type 0 where
  GotReady : ℕ → GotValues
  GotStarted : ℕ → GotValues
  GotWaiting : GotValues
  GotRefused : Fault → GotValues

abbrev pub got_values : Got → GotValues
got_values (got.Ready l) = GotReady l
got_values (got.Started l) = GotStarted l
got_values got.Waiting = GotWaiting
got_values (got.Refused e) = GotRefused (fault e)

-- something is said of an answer that is no want of memory. The greatest number is never given: a manager whose numbers are spent lacks memory.
abbrev pub OnValues : GotValues → Type 0 → Type 0
OnValues (GotRefused NoMemory) said = Unit {0}
OnValues _ said = said

abbrev pub OnGot : Got → Type 0 → Type 0
OnGot g said = OnValues (got_values g) said

abbrev pub got_by : Option (ℕ × Phase) → (links : ℕ) → GotValues
got_by None n = GotStarted n
got_by (Some (l, Runs r)) n = GotWaiting
got_by (Some (l, Pauses r)) n = GotWaiting
got_by (Some (l, Serves since)) n = GotReady l

abbrev pub gets : Place → Known → GotValues
gets p k = if is_reachable p then got_by (standing p k.series) k.links else GotRefused NotFound

-- a connection that is started: its id is drawn, and behind a proxy it tells the broker that it wants
abbrev pub setup : Terms → Place → (link now : ℕ) → session.Setup
setup t p l now =
    record {
      id = connection_id t.seed l;
      url = p.url;
      auth = option_map authentication_values t.auth;
      proxy = behind p;
      connection_timeout = t.connection.connection_timeout;
      operation_timeout = t.operation.operation_timeout;
      outbound = t.outbound;
      first_number = t.first_number;
      made = now;
    }

abbrev pub starts : Place → (retries now : ℕ) → Known → Known
starts p r now k =
    record {
      terms = k.terms;
      links = k.links + 1;
      series = begun k.links p r k.series;
      connection = put_at k.links (Some (session.fresh (setup k.terms p k.links now))) k.connection;
    }

-- a ready connection is marked as got now
abbrev pub after_got : Place → (now : ℕ) → Option (ℕ × Phase) → Known → Known
after_got p now None k = starts p 0 now k
after_got p now (Some (l, Runs r)) k = k
after_got p now (Some (l, Pauses r)) k = k
after_got p now (Some (l, Serves since)) k = record k { series = in_phase l p (Serves now) k.series }

abbrev pub after_get : Place → (now : ℕ) → Known → Known
after_get p now k = if is_reachable p then after_got p now (standing p k.series) k else k

-- LOOK: what a connection has become

abbrev pub seen_failed : Terms → (link retries : ℕ) → Option Fault → Seen
seen_failed t l r e =
    if rule.is_followed t.connection.max_retries r (rule.is_retryable e) then seen.Retry (rule.delay t.connection t.seed l r) else seen.Failed

abbrev pub seen_running : Terms → (link retries : ℕ) → Stage → Option Fault → Seen
seen_running t l r Dialing e = seen.Same
seen_running t l r Handshaking e = seen.Same
seen_running t l r Ready e = seen.Ready
seen_running t l r Over e = seen_failed t l r e

abbrev pub seen_by : Terms → (link : ℕ) → Phase → session.Seen → Seen
seen_by t l (Runs r) c = seen_running t l r c.stage c.error
seen_by t l (Pauses r) c = seen.Same
seen_by t l (Serves since) c = if session.is_over c.stage then seen.Ended else seen.Same

abbrev pub seen_at : Terms → (link : ℕ) → Option Seat → Option session.Seen → Seen
seen_at t l None c = seen.Same
seen_at t l (Some s) None = seen.Same
seen_at t l (Some s) (Some c) = seen_by t l s.phase c

abbrev pub looks : (link : ℕ) → Known → Seen
looks l k = seen_at k.terms l (k.series.seat l) (k.connection l)

abbrev pub retries_of : Phase → ℕ
retries_of (Runs r) = r
retries_of (Pauses r) = r
retries_of (Serves since) = 0

-- where a series stands then, if it goes on; from the moment at which it is ready a connection counts as got
abbrev pub phase_after : (now : ℕ) → Phase → Seen → Option Phase
phase_after now phase seen.Same = Some phase
phase_after now phase seen.Ready = Some (Serves now)
phase_after now phase (seen.Retry delay) = Some (Pauses (retries_of phase))
phase_after now phase seen.Failed = None
phase_after now phase seen.Ended = None

-- the connection itself has ended
abbrev pub is_over : Seen → Bool
is_over seen.Same = false
is_over seen.Ready = false
is_over (seen.Retry delay) = true
is_over seen.Failed = true
is_over seen.Ended = true

-- nothing is kept of a connection that has ended
abbrev pub left_of : (link : ℕ) → (over : Bool) → (ℕ → Option session.Seen) → ℕ → Option session.Seen
left_of l over f n = if over then put_at l None f n else f n

abbrev pub after_seen : (link now : ℕ) → Option Seat → Seen → Known → Known
after_seen l now None what k = k
after_seen l now (Some s) what k =
    record k {
      series = reseated l s.address (phase_after now s.phase what) k.series;
      connection = left_of l (is_over what) k.connection;
    }

abbrev pub after_look : (link now : ℕ) → Known → Known
after_look l now k = after_seen l now (k.series.seat l) (looks l k) k

-- AGAIN: the next attempt of a series

abbrev pub is_pause : Phase → Bool
is_pause (Runs r) = false
is_pause (Pauses r) = true
is_pause (Serves since) = false

-- the next attempt of this connection's series is waited for
abbrev pub is_pausing : Option Seat → Bool
is_pausing None = false
is_pausing (Some s) = is_pause s.phase

abbrev pub after_again_at : (link now : ℕ) → Option Seat → Known → Known
after_again_at l now None k = k
after_again_at l now (Some s) k =
    starts s.address (one_more (retries_of s.phase)) now (record k { series = without l k.series })

abbrev pub after_again : (link now : ℕ) → Known → Known
after_again l now k = after_again_at l now (k.series.seat l) k

-- THE IDLE CHECK

abbrev pub is_unused_since : Terms → (now : ℕ) → Phase → Bool
is_unused_since t now (Runs r) = false
is_unused_since t now (Pauses r) = false
is_unused_since t now (Serves since) = nat_le (capped (since + t.connection.connection_max_idle)) now

abbrev pub is_idle_by : Terms → (now : ℕ) → Phase → session.Seen → Bool
is_idle_by t now phase c = session.is_ready c.stage && is_unused_since t now phase

abbrev pub is_idle_at : Terms → (now : ℕ) → Option Seat → Option session.Seen → Bool
is_idle_at t now None c = false
is_idle_at t now (Some s) None = false
is_idle_at t now (Some s) (Some c) = is_idle_by t now s.phase c

-- a ready connection was not got for so long
abbrev pub is_idle : (link now : ℕ) → Known → Bool
is_idle l now k = is_idle_at k.terms now (k.series.seat l) (k.connection l)
