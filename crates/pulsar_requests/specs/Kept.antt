-- The requests that wait, as the code keeps them: each under its place, and an index of the places by what is waited for.
use Rattle.std.specs.Prelude.{◌≡◌, ℕ, ◌+◌, ◌≤◌, ◌==◌, ◌&&◌, ◌||◌, not, Bool, false, List, [], ◌∷◌, map, filter, Option, Some, None}
use Rattle.std.specs.Ordering.{nat_cmp}
use Rattle.std.specs.BTreeMap.{BTreeMap, IsOrdered, get, is_at}
use Rattle.std.specs.BTreeSet.{BTreeSet, contains}
use Rattle.std.specs.Map.{lookup}
use Rattle.std.specs.Global.{Vec}
use Rattle.pulsar_wire.specs.Sink.{capped}
use Rattle.pulsar_wire.specs.declared.awaited.Awaited.{Awaited}
use Rattle.pulsar_wire.specs.declared.awaited.Awaited.TheVariants.{Reply}
use Rattle.pulsar_requests.specs.declared.requests.Waiter.{Waiter}
use Rattle.pulsar_requests.specs.declared.requests.Requests.TheInside.{Inside}
use Rattle.pulsar_wire.specs.Awaited.{awaited_cmp, is_same}
use Rattle.pulsar_requests.specs.Waits.{Pending, Waits, is_excused, others}

abbrev pub pending_at : ℕ × Waiter → Pending
pending_at e = record { awaits = e.1.awaits; place = e.0; deadline = e.1.deadline; creates = e.1.creates }

abbrev pub all_pending : List (ℕ × Waiter) → List Pending
all_pending es = map pending_at es

abbrev pub waits_of : Inside → Waits
waits_of i =
    record {
      clock = i.clock;
      timeout = i.timeout;
      queued = i.queued;
      waiting = all_pending i.waiters.entries;
      excused = i.excused.keys;
    }

-- the places of those that wait for this
abbrev pub places_of : Awaited → List (ℕ × Waiter) → List ℕ
places_of a es = map (λ e. e.0) (filter (λ e. is_same a e.1.awaits) es)

abbrev pub listed : Option (Vec ℕ) → List ℕ
listed None = []
listed (Some places) = places.items

abbrev pub AllFrom : ℕ → List Pending → Type 0
AllFrom d [] = Unit {0}
AllFrom d (p ∷ ps) = (d ≤ p.deadline) × AllFrom d ps

abbrev pub AllUpTo : ℕ → List Pending → Type 0
AllUpTo d [] = Unit {0}
AllUpTo d (p ∷ ps) = (p.deadline ≤ d) × AllUpTo d ps

-- each deadline is at most those behind it
abbrev pub Ascends : List Pending → Type 0
Ascends [] = Unit {0}
Ascends (p ∷ ps) = AllFrom p.deadline ps × Ascends ps

-- one that waits, and is not excused
abbrev pub is_timed : List ℕ → Option Waiter → Bool
is_timed excused None = false
is_timed excused (Some w) = not (is_excused excused w.creates w.awaits)

-- one that makes a producer under this number
abbrev pub excuses : ℕ → Option Waiter → Bool
excuses n None = false
excuses n (Some w) = w.creates && is_same (Reply n) w.awaits

-- this place is timed too, or not
abbrev pub IsTimedToo : (place : ℕ) (timed : Bool) → BTreeSet ℕ → BTreeSet ℕ → Type 0
IsTimedToo place timed old new = (n : ℕ) → contains nat_cmp new n ≡ (contains nat_cmp old n || ((place == n) && timed))

-- those at some places that make a producer under this number are timed no longer
abbrev pub AreUntimed : (at : ℕ → Bool) (number : ℕ) → BTreeMap ℕ Waiter → BTreeSet ℕ → BTreeSet ℕ → Type 0
AreUntimed at number waiters old new =
    (n : ℕ) → contains nat_cmp new n ≡ (contains nat_cmp old n && not (at n && excuses number (get nat_cmp waiters n)))

-- the timed places are those of the waiters that are not excused
abbrev pub AreTimed : List ℕ → BTreeSet ℕ → BTreeMap ℕ Waiter → Type 0
AreTimed excused timed waiters = (n : ℕ) → contains nat_cmp timed n ≡ is_timed excused (get nat_cmp waiters n)

-- No frame has a place that is still to come, the index lists the places, the deadlines ascend, up to that of a frame that
-- would be queued now, the places are kept in order, and the timed ones are those of the waiters that are not excused.
pub record IsWhole (i : Inside) : Type 0 where
  pub fresh : (n : ℕ) → i.queued ≤ n → get nat_cmp i.waiters n ≡ None
  pub indexed : (a : Awaited) → listed (get awaited_cmp i.index a) ≡ places_of a i.waiters.entries
  pub ascends : Ascends (all_pending i.waiters.entries)
  pub so_far : AllUpTo (capped (i.clock + i.timeout)) (all_pending i.waiters.entries)
  pub ordered : IsOrdered nat_cmp i.waiters
  pub are_timed : AreTimed i.excused.keys i.timed i.waiters

-- Some that waited for this were taken out; at these places further ones wait for it.
pub record Taken (a : Awaited) (old new : List (ℕ × Waiter)) (left : List ℕ) : Type 0 where
  pub left_are : places_of a new ≡ left
  pub others_are : others (Some a) (all_pending new) ≡ others (Some a) (all_pending old)
  pub others_listed : (b : Awaited) → is_same a b ≡ false → places_of b new ≡ places_of b old
  pub absent : (n : ℕ) → lookup (is_at (nat_cmp n)) old ≡ None → lookup (is_at (nat_cmp n)) new ≡ None
