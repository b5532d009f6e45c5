-- The series of addresses. An address has a series of attempts: one runs, or its next one is waited for, or its connection is ready.
-- (Pulsar binary protocol, Connection establishment; Topic lookup)
use Rattle.std.specs.Prelude.{◌≡◌, ℕ, List, bytes_eq, Option, Some, None, ◌==◌, if◌then◌else◌}
use Rattle.std.specs.BTreeMap.{get, get_by_text}
use Rattle.std.specs.Option.{option_map}
use Rattle.std.specs.Ordering.{nat_cmp}
use Rattle.pulsar_addresses.specs.Address.{Place, address_key}
use Rattle.pulsar_discovery.specs.declared.addresses.Addresses.{Addresses}
use Rattle.pulsar_discovery.specs.declared.addresses.Phase.{Phase}
use Rattle.pulsar_discovery.specs.declared.addresses.Phase.TheVariants.{Runs}
use Rattle.pulsar_discovery.specs.declared.addresses.Seat.{Seat}

-- the newest connection of an address, by the address's key; and where a connection's series stands
pub record Series : Type 0 where
  pub link_of : (key : List ℕ) → Option ℕ
  pub seat : ℕ → Option Seat

abbrev pub series : Addresses → Series
series a = record { link_of = λ key. get_by_text a.link_of key; seat = λ l. get nat_cmp a.seats l }

-- the same series
pub record IsSeries (a b : Series) : Type 0 where
  pub link_of : (key : List ℕ) → a.link_of key ≡ b.link_of key
  pub seat : (l : ℕ) → a.seat l ≡ b.seat l

abbrev pub put_at : {A : Type 0} → ℕ → Option A → (ℕ → Option A) → ℕ → Option A
put_at n x f l = if l == n then x else f l

abbrev pub put_key : List ℕ → Option ℕ → (List ℕ → Option ℕ) → List ℕ → Option ℕ
put_key key x f k = if bytes_eq key k then x else f k

abbrev pub no_series : Series
no_series = record { link_of = λ key. None; seat = λ l. None }

abbrev pub seat_of : Place → Phase → Seat
seat_of p phase = record { address = p; phase = phase }

-- where the series of a key stands
abbrev pub standing_at : Option ℕ → (ℕ → Option Seat) → Option (ℕ × Phase)
standing_at None seats = None
standing_at (Some l) seats = option_map (λ s. (l, s.phase)) (seats l)

abbrev pub standing : Place → Series → Option (ℕ × Phase)
standing p k = standing_at (k.link_of (address_key p)) k.seat

-- an attempt of this number runs, behind so many retries
abbrev pub begun : (link : ℕ) → Place → (retries : ℕ) → Series → Series
begun l p r k =
    record { link_of = put_key (address_key p) (Some l) k.link_of; seat = put_at l (Some (seat_of p (Runs r))) k.seat }

abbrev pub in_phase : (link : ℕ) → Place → Phase → Series → Series
in_phase l p phase k = record { link_of = k.link_of; seat = put_at l (Some (seat_of p phase)) k.seat }

abbrev pub without : (link : ℕ) → Series → Series
without l k = record { link_of = k.link_of; seat = put_at l None k.seat }

-- where a series goes on it stands in this phase, and where not its address is free
abbrev pub reseated : (link : ℕ) → Place → Option Phase → Series → Series
reseated l p (Some phase) k = in_phase l p phase k
reseated l p None k = record { link_of = put_key (address_key p) None k.link_of; seat = put_at l None k.seat }
