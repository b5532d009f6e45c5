-- The requests of a connection that wait for an answer, and when they are due.  (Pulsar binary protocol, Simple commands)
use Rattle.std.specs.Prelude.{ℕ, ◌+◌, nat_lt, nat_le, ◌==◌, ◌&&◌, not, Bool, true, false, if◌then◌else◌, List, [], ◌∷◌, ◌++◌, map, filter, Option, Some, None}
use Rattle.std.specs.List.{list_any}
use Rattle.std.specs.Ordering.{nat_cmp}
use Rattle.std.specs.BTreeMap.{is_at}
use Rattle.std.specs.BTreeSet.{insert_key}
use Rattle.std.specs.Set.{remove_key}
use Rattle.pulsar_wire.specs.Sink.{capped}
use Rattle.pulsar_wire.specs.declared.awaited.Awaited.{Awaited}
use Rattle.pulsar_wire.specs.declared.awaited.Awaited.TheVariants.{Pong, Reply, Receipt}
use Rattle.pulsar_wire.specs.declared.awaited.Claim.{Claim}
use Rattle.pulsar_wire.specs.Awaited.{is_same, is_one}

-- A request that waits: what for, its place on the connection, when it is due, and whether it makes a producer.
pub record Pending : Type 0 where
  pub awaits : Awaited
  pub place : ℕ
  pub deadline : ℕ
  pub creates : Bool

-- The clock of a connection is the greatest moment that it was told. `queued` is how many frames were queued; `waiting` has the
-- requests that wait, in the order of their places; `excused` the numbers of those that a producer_success has named which says
-- that the producer is not ready yet.
pub record Waits : Type 0 where
  pub clock : ℕ
  pub timeout : ℕ
  pub queued : ℕ
  pub waiting : List Pending
  pub excused : List ℕ

abbrev pub later_of : ℕ → ℕ → ℕ
later_of a b = if nat_lt a b then b else a

abbrev pub told : ℕ → Waits → Waits
told now w = record w { clock = later_of w.clock now }

-- the request that a claim makes at a place: it is due a timeout after it was queued
abbrev pub request_of : (place : ℕ) → Waits → Claim → Pending
request_of place w c = record { awaits = c.awaits; place = place; deadline = capped (w.clock + w.timeout); creates = c.creates }

-- the request of the frame that is queued next, where that waits for an answer
abbrev pub waits_for : Option Claim → Waits → List Pending
waits_for None w = []
waits_for (Some c) w = request_of w.queued w c ∷ []

abbrev pub with_next : Option Claim → Waits → Waits
with_next c w = record w { queued = w.queued + 1; waiting = w.waiting ++ waits_for c w }

abbrev pub is_empty : List Pending → Bool
is_empty [] = true
is_empty (p ∷ ps) = false

-- the requests that wait for one thing, and the others
abbrev pub found : Option Awaited → List Pending → List Pending
found a ps = filter (λ p. is_one a p.awaits) ps

abbrev pub others : Option Awaited → List Pending → List Pending
others a ps = filter (λ p. not (is_one a p.awaits)) ps

abbrev pub places : List Pending → List ℕ
places ps = map (λ p. p.place) ps

-- a number that is answered is excused no longer
abbrev pub without : Option Awaited → List ℕ → List ℕ
without None ns = ns
without (Some Pong) ns = ns
without (Some (Reply n)) ns = remove_key (is_at (nat_cmp n)) ns
without (Some (Receipt p s)) ns = ns

abbrev pub answered_by : Option Awaited → Waits → Waits
answered_by a w = record w { waiting = others a w.waiting; excused = without a w.excused }

abbrev pub named : ℕ → Waits → Waits
named n w =
    if list_any (λ p. is_same (Reply n) p.awaits) w.waiting then record w { excused = insert_key nat_cmp w.excused n } else w

abbrev pub ended : Waits → Waits
ended w = record w { waiting = []; excused = [] }

-- DEADLINES

abbrev pub is_listed : List ℕ → Awaited → Bool
is_listed excused Pong = false
is_listed excused (Reply n) = list_any (is_at (nat_cmp n)) excused
is_listed excused (Receipt p s) = false

-- A request that makes a producer is due at no moment once it was named.
abbrev pub is_excused : List ℕ → (creates : Bool) → Awaited → Bool
is_excused excused creates a = creates && is_listed excused a

abbrev pub is_due : (now : ℕ) → List ℕ → Pending → Bool
is_due now excused p = nat_le p.deadline now && not (is_excused excused p.creates p.awaits)

abbrev pub any_due : ℕ → Waits → Bool
any_due now w = list_any (is_due now w.excused) w.waiting

abbrev pub request_at : ℕ → List Pending → Option Pending
request_at place [] = None
request_at place (p ∷ ps) = if p.place == place then Some p else request_at place ps

abbrev pub is_some_due : ℕ → List ℕ → Option Pending → Bool
is_some_due now excused None = false
is_some_due now excused (Some p) = is_due now excused p

abbrev pub is_overdue : (place now : ℕ) → Waits → Bool
is_overdue place now w = is_some_due now w.excused (request_at place w.waiting)
