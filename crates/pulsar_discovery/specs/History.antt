-- The whole history of a manager: what was done to it, and what its answers told of addresses and connections. Lists are newest first,
-- but those of what was told are in order.  (Pulsar binary protocol, Connection establishment; Topic lookup)
use Rattle.std.specs.Prelude.{◌≡◌, ℕ, ◌+◌, ◌^◌, ◌<◌, bytes_eq, Bool, true, false, ◌||◌, IsTrue, List, [], ◌∷◌, ◌++◌, Option, Some, None, ◌==◌, if◌then◌else◌}
use Rattle.std.specs.Option.{option_map}
use Rattle.pulsar_session.specs.Link as session
use Rattle.pulsar_addresses.specs.Address.{Place, address_key}
use Rattle.pulsar_discovery.specs.declared.addresses.Seat.{Seat}
use Rattle.pulsar_discovery.specs.declared.manager.Seen.{Seen}
use Rattle.pulsar_discovery.specs.declared.manager.Terms.{Terms}
use Rattle.pulsar_discovery.specs.declared.manager.Seen.TheVariants as seen
use Rattle.pulsar_discovery.specs.Manager.{Known, GotValues, GotReady, GotStarted, GotWaiting, GotRefused, after_again, after_get, after_look, fresh, gets, is_pausing, looks}
use Rattle.pulsar_discovery.specs.Series.{put_at}

-- WHAT IS DONE TO A MANAGER: an event for each call that changes it

pub data Event : Type 0 where
  -- a connection of an address is wanted
  Wants : Place → (now : ℕ) → Event
  -- a connection is lent, and this is done to it
  Does : (link : ℕ) → session.Act → Event
  -- it is looked at what a connection has become
  Looks : (link now : ℕ) → Event
  -- the next attempt of the series of a connection is started
  Retries : (link now : ℕ) → Event

abbrev pub after_done : (link : ℕ) → session.Act → Known → Known
after_done l act k = record k { connection = put_at l (option_map (session.after act) (k.connection l)) k.connection }

abbrev pub after : Event → Known → Known
after (Wants p now) k = after_get p now k
after (Does l act) k = after_done l act k
after (Looks l now) k = after_look l now k
after (Retries l now) k = after_again l now k

-- a next attempt is started only where it is waited for
abbrev pub IsAllowed : Event → Known → Type 0
IsAllowed (Wants p now) k = Unit {0}
IsAllowed (Does l act) k = Unit {0}
IsAllowed (Looks l now) k = Unit {0}
IsAllowed (Retries l now) k = IsTrue (is_pausing (k.series.seat l))

-- what is known after a history
abbrev pub known_after : Terms → List Event → Known
known_after t [] = fresh t
known_after t (e ∷ h) = after e (known_after t h)

-- a number of retries has 32 bits
abbrev pub IsHistory : Terms → List Event → Type 0
IsHistory t [] = t.connection.max_retries < 2 ^ 32
IsHistory t (e ∷ h) = IsAllowed e (known_after t h) × IsHistory t h

-- WHAT WAS STARTED

-- the connection that an event starts, and its address
abbrev pub got_started : Place → GotValues → Option (ℕ × Place)
got_started p (GotReady l) = None
got_started p (GotStarted l) = Some (l, p)
got_started p GotWaiting = None
got_started p (GotRefused e) = None

abbrev pub started : Event → Known → Option (ℕ × Place)
started (Wants p now) k = got_started p (gets p k)
started (Does l act) k = None
started (Looks l now) k = None
started (Retries l now) k = option_map (λ s. (k.links, s.address)) (k.series.seat l)

-- the address for which a connection was started
abbrev pub address_or : (link : ℕ) → Option (ℕ × Place) → Option Place → Option Place
address_or l None earlier = earlier
address_or l (Some s) earlier = if l == s.0 then Some s.1 else earlier

abbrev pub address_of : Terms → (link : ℕ) → List Event → Option Place
address_of t l [] = None
address_of t l (e ∷ h) = address_or l (started e (known_after t h)) (address_of t l h)

-- the retries that were made in the series of a connection up to its attempt
abbrev pub retries_by : (link : ℕ) → Event → Known → (of : ℕ → ℕ) → ℕ
retries_by l (Wants p now) k of = of l
retries_by l (Does m act) k of = of l
retries_by l (Looks m now) k of = of l
retries_by l (Retries m now) k of = if l == k.links then of m + 1 else of l

abbrev pub retries_made : Terms → List Event → (link : ℕ) → ℕ
retries_made t [] l = 0
retries_made t (e ∷ h) l = retries_by l e (known_after t h) (retries_made t h)

-- the next attempt behind that of a connection was started
abbrev pub was_retried : (link : ℕ) → List Event → Bool
was_retried l [] = false
was_retried l (Wants p now ∷ h) = was_retried l h
was_retried l (Does m act ∷ h) = was_retried l h
was_retried l (Looks m now ∷ h) = was_retried l h
was_retried l (Retries m now ∷ h) = l == m || was_retried l h

-- WHAT WAS TOLD

-- a change
abbrev pub change : Seen → List Seen
change seen.Same = []
change what = what ∷ []

abbrev pub told_by : (link : ℕ) → Event → Known → List Seen
told_by l (Wants p now) k = []
told_by l (Does m act) k = []
told_by l (Looks m now) k = if l == m then change (looks m k) else []
told_by l (Retries m now) k = []

-- all changes of a connection that were told, in order
abbrev pub told_of : Terms → (link : ℕ) → List Event → List Seen
told_of t l [] = []
told_of t l (e ∷ h) = told_of t l h ++ told_by l e (known_after t h)

-- its attempt runs, or it is ready and has not ended
abbrev pub IsLive : List Seen → Type 0
IsLive [] = Unit {0}
IsLive (seen.Ready ∷ []) = Unit {0}
IsLive _ = ⊥

-- its attempt failed, and another is to follow
abbrev pub IsRetried : List Seen → Type 0
IsRetried (seen.Retry delay ∷ []) = Unit {0}
IsRetried _ = ⊥

-- its attempt failed, or it was ready and has ended
abbrev pub IsOver : List Seen → Type 0
IsOver (seen.Retry delay ∷ []) = Unit {0}
IsOver (seen.Failed ∷ []) = Unit {0}
IsOver (seen.Ready ∷ seen.Ended ∷ []) = Unit {0}
IsOver _ = ⊥

-- WHO WAITS

-- what an event is to those that wait for an address: a series of attempts begins, one more waits for its end, or it is told how it ended
pub data Mark : Type 0 where
  Begins : Mark
  Waits : Mark
  Ends : Seen → Mark

abbrev pub got_marks : GotValues → List Mark
got_marks (GotReady l) = []
got_marks (GotStarted l) = Begins ∷ []
got_marks GotWaiting = Waits ∷ []
got_marks (GotRefused e) = []

-- a connection is ready, or an attempt failed and no other follows
abbrev pub seen_marks : Seen → List Mark
seen_marks seen.Same = []
seen_marks seen.Ready = Ends seen.Ready ∷ []
seen_marks (seen.Retry delay) = []
seen_marks seen.Failed = Ends seen.Failed ∷ []
seen_marks seen.Ended = []

abbrev pub is_at : Place → Option Seat → Bool
is_at p None = false
is_at p (Some s) = bytes_eq (address_key s.address) (address_key p)

abbrev pub marks_by : Place → Event → Known → List Mark
marks_by p (Wants q now) k = if bytes_eq (address_key q) (address_key p) then got_marks (gets q k) else []
marks_by p (Does l act) k = []
marks_by p (Looks l now) k = if is_at p (k.series.seat l) then seen_marks (looks l k) else []
marks_by p (Retries l now) k = []

abbrev pub marks_of : Terms → Place → List Event → List Mark
marks_of t p [] = []
marks_of t p (e ∷ h) = marks_by p e (known_after t h) ++ marks_of t p h

-- a series of attempts has begun, and its end was not told
abbrev pub is_running : List Mark → Bool
is_running [] = false
is_running (Begins ∷ marks) = true
is_running (Waits ∷ marks) = is_running marks
is_running (Ends what ∷ marks) = false

-- a series begins where none runs; one waits, and its end is told, where one runs
abbrev pub InTurn : List Mark → Type 0
InTurn [] = Unit {0}
InTurn (Begins ∷ marks) = (is_running marks ≡ false) × InTurn marks
InTurn (Waits ∷ marks) = (is_running marks ≡ true) × InTurn marks
InTurn (Ends what ∷ marks) = (is_running marks ≡ true) × InTurn marks
