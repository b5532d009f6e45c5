-- What holds of machines, of the manager, and of its whole histories.
use Rattle.std.specs.Prelude.{◌≡◌, ◌↔◌, ℕ, ◌<◌, ◌^◌, List, ◌∷◌, length, ◌≤◌, true, false, IsTrue, [], Option, Some, None, if◌then◌else◌, ◌⊎◌}
use Rattle.url.specs.Parts.{serialize}
use Rattle.pulsar_addresses.specs.Address.{IsSame, Place, address_key, is_reachable}
use Rattle.pulsar_searches.specs.declared.plan.Sought.{Sought}
use Rattle.pulsar_searches.specs.declared.turn.Ways.{Ways}
use Rattle.pulsar_discovery.specs.Machine.{Refuse, lost, next_after, stage_after}
use Rattle.pulsar_discovery.specs.Manager.{Known, after_look, looks, GotReady, GotStarted, GotWaiting, Is, fresh, gets, is_pausing, seen_running}
use Rattle.pulsar_discovery.specs.declared.machine.MachineStage.TheVariants.{Over}
use Rattle.pulsar_discovery.specs.declared.outcome.Told.{Told}
use Rattle.pulsar_discovery.specs.declared.manager.Seen.{Seen}
use Rattle.pulsar_discovery.specs.declared.manager.Terms.{Terms}
use Rattle.pulsar_discovery.specs.History.{Event, InTurn, IsHistory, IsLive, IsOver, IsRetried, address_of, after, known_after, marks_of, retries_made, told_of, was_retried}
use Rattle.pulsar_session.specs.Link as session
use Rattle.pulsar_session.specs.declared.states.Stage.TheVariants as stages
use Rattle.pulsar_discovery.specs.declared.manager.Seen.TheVariants as seen

-- behind the end of its procedure a machine says that what was waited for is lost, whatever it is told, and stays over
abbrev pub LostBehindTheEnd : Type 0
LostBehindTheEnd =
    (w : Ways) (p : Sought) (o : Told) (outcomes : List Told) → stage_after w p outcomes ≡ Over
    → (next_after w p o outcomes ≡ Refuse lost) × (stage_after w p (o ∷ outcomes) ≡ Over)

-- each change of a connection is told once
abbrev pub ToldOnce : Type 0
ToldOnce = (l now : ℕ) (k : Known) → looks l (after_look l now k) ≡ seen.Same

-- two addresses with one key are the same
abbrev pub KeysDiffer : Type 0
KeysDiffer =
    (a b : Place) → length (serialize a.url) < 2 ^ 64 → length (serialize b.url) < 2 ^ 64 → address_key a ≡ address_key b
    → IsSame a b

-- WHOLE HISTORIES OF A MANAGER

-- what is known is what a history makes known
abbrev pub Follows : Known → Terms → List Event → Type 0
Follows k t h = Is k (known_after t h)

-- so it is from the beginning, and after each event
abbrev pub HistoryGoesOn : Type 0
HistoryGoesOn = ((t : Terms) → Follows (fresh t) t [])
    × ((t : Terms) (h : List Event) (e : Event) (old new : Known) → Follows old t h → Is new (after e old) → Follows new t (e ∷ h))

-- A connection is told of at most twice: that it is ready, and then that it has ended; or once, that its attempt failed, with a retry or
-- without.
abbrev pub IsCourse : List Seen → Type 0
IsCourse [] = Unit {0}
IsCourse (seen.Ready ∷ []) = Unit {0}
IsCourse (seen.Ready ∷ seen.Ended ∷ []) = Unit {0}
IsCourse (seen.Retry delay ∷ []) = Unit {0}
IsCourse (seen.Failed ∷ []) = Unit {0}
IsCourse _ = ⊥

abbrev pub ChangesAreToldOnce : Type 0
ChangesAreToldOnce = (t : Terms) (h : List Event) → IsHistory t h → (l : ℕ) → IsCourse (told_of t l h)

-- a connection was started for this address, which another with the same key is too
abbrev pub IsFor : Place → Option Place → Type 0
IsFor p None = ⊥
IsFor p (Some q) = address_key q ≡ address_key p

-- its attempt runs, its retry is waited for, or it is ready
abbrev pub IsOpen : Terms → (link : ℕ) → List Event → Type 0
IsOpen t l h = IsLive (told_of t l h) ⊎ IsTrue (is_pausing ((known_after t h).series.seat l))

-- An address has at most one connection at a time, and at most one attempt.
abbrev pub OneAtATime : Type 0
OneAtATime = (t : Terms) (h : List Event) → IsHistory t h → (p : Place) (l m : ℕ) → IsFor p (address_of t l h) → IsFor p (address_of t m h) →
    IsOpen t l h → IsOpen t m h → l ≡ m

-- The next attempt of a series is waited for exactly where a retry was told, and no attempt was started since.
abbrev pub RetriesAreWaitedFor : Type 0
RetriesAreWaitedFor = (t : Terms) (h : List Event) → IsHistory t h → (l : ℕ) →
    IsTrue (is_pausing ((known_after t h).series.seat l)) ↔ (IsRetried (told_of t l h) × (was_retried l h ≡ false))

-- The connection of an address is got exactly where it was told that it is ready, and not that it has ended.
abbrev pub ReadyIsGot : Type 0
ReadyIsGot = (t : Terms) (h : List Event) → IsHistory t h → (p : Place) (l : ℕ) → is_reachable p ≡ true →
    (IsFor p (address_of t l h) → told_of t l h ≡ seen.Ready ∷ [] → gets p (known_after t h) ≡ GotReady l)
    × (gets p (known_after t h) ≡ GotReady l → IsFor p (address_of t l h) × (told_of t l h ≡ seen.Ready ∷ []))

-- its attempt runs, or its retry is waited for
abbrev pub IsUnderWay : Terms → (link : ℕ) → List Event → Type 0
IsUnderWay t l h = (told_of t l h ≡ []) ⊎ IsTrue (is_pausing ((known_after t h).series.seat l))

-- One waits exactly where an attempt for the address runs, or its retry is waited for.
abbrev pub RunningIsWaitedFor : Type 0
RunningIsWaitedFor = (t : Terms) (h : List Event) → IsHistory t h → (p : Place) → is_reachable p ≡ true →
    ((l : ℕ) → IsFor p (address_of t l h) → IsUnderWay t l h → gets p (known_after t h) ≡ GotWaiting)
    × (gets p (known_after t h) ≡ GotWaiting → (l : ℕ) × IsFor p (address_of t l h) × IsUnderWay t l h)

-- An attempt is started only where every connection of the address has failed or ended, and under a number that no other had.
abbrev pub StartsWhereNoneIs : Type 0
StartsWhereNoneIs = (t : Terms) (h : List Event) → IsHistory t h → (p : Place) (l : ℕ) → gets p (known_after t h) ≡ GotStarted l →
    (address_of t l h ≡ None) × ((m : ℕ) → IsFor p (address_of t m h) → IsOver (told_of t m h))

-- A connection that is got is ready, unless a change of it was not looked at yet.
abbrev pub GotIsReady : Type 0
GotIsReady = (t : Terms) (h : List Event) → IsHistory t h → (p : Place) (l : ℕ) → gets p (known_after t h) ≡ GotReady l →
    looks l (known_after t h) ≡ seen.Same → (c : session.Seen) × ((known_after t h).connection l ≡ Some c) × (c.stage ≡ stages.Ready)

-- Whoever began a series of attempts for an address, and whoever waits for it, is told its end once: a series begins where none runs, one
-- waits only for one that runs, and its one end is told before the next begins.
abbrev pub WaitersAreToldOnce : Type 0
WaitersAreToldOnce = (t : Terms) (h : List Event) → IsHistory t h → (p : Place) → InTurn (marks_of t p h)

-- What is seen of a connection whose attempt runs is told by the retries that were made in its series, and of one that is ready that it
-- has ended. Nothing is told of one that is over.
abbrev pub SeenByHistory : Type 0
SeenByHistory = (t : Terms) (h : List Event) → IsHistory t h → (l : ℕ) (c : session.Seen) → (known_after t h).connection l ≡ Some c →
    (told_of t l h ≡ [] → looks l (known_after t h) ≡ seen_running t l (retries_made t h l) c.stage c.error)
    × (told_of t l h ≡ seen.Ready ∷ [] → looks l (known_after t h) ≡ (if session.is_over c.stage then seen.Ended else seen.Same))

-- A series has no more retries than the most that the options allow.
abbrev pub RetriesHaveAMost : Type 0
RetriesHaveAMost = (t : Terms) (h : List Event) → IsHistory t h → (l : ℕ) → retries_made t h l ≤ t.connection.max_retries

-- Nothing is kept of a connection that is over, and nothing more is told of it.
abbrev pub NothingIsKept : Type 0
NothingIsKept = (t : Terms) (h : List Event) → IsHistory t h → (l : ℕ) → IsOver (told_of t l h) →
    ((known_after t h).connection l ≡ None) × (looks l (known_after t h) ≡ seen.Same)
