-- What is put at one number, or under one key, and what stands at the others; and what is left of a connection behind a change.
use Rattle.std.proofs.Common.{◌≡◌, ◌≢◌, ap, refl, ℕ, Bool, true, false, List, [], ◌++◌, ◌⊎◌, inl, inr, Option, Some, None, ◌==◌, if◌then◌else◌, append-nil, bytes_eq}
use Rattle.std.proofs.lemmas.Bool.{cases_Bool}
use Rattle.std.proofs.lemmas.Bool.Decides.{Decides-eqb}
use Rattle.std.proofs.lemmas.Slice.Eq.{bytes_eq-Decides}
use Rattle.pulsar_session.specs.Link as session
use Rattle.pulsar_addresses.specs.Address.{Place}
use Rattle.pulsar_discovery.specs.declared.addresses.Phase.{Phase}
use Rattle.pulsar_discovery.specs.declared.addresses.Seat.{Seat}
use Rattle.pulsar_discovery.specs.Manager.{left_of}
use Rattle.pulsar_discovery.specs.Series.{Series, put_at, put_key, reseated, seat_of}

pub same : (n : ℕ) → (n == n) ≡ true
same n = (Decides-eqb n n).1 refl

pub which : (l n : ℕ) → (l ≡ n) ⊎ ((l == n) ≡ false)
which l n = elim (cases_Bool (l == n)) [
  | inl e ↦ inl ((Decides-eqb l n).0 e)
  | inr e ↦ inr e
]

pub apart : (l n : ℕ) → l ≢ n → (l == n) ≡ false
apart l n other = elim (cases_Bool (l == n)) [
  | inl e ↦ absurd (other ((Decides-eqb l n).0 e))
  | inr e ↦ e
]

pub at : {A : Type 0} (l : ℕ) (x : Option A) (f : ℕ → Option A) → put_at l x f l ≡ x
at l x f = ap (λ t. if t then x else f l) (same l)

pub off : {A : Type 0} (l n : ℕ) (x : Option A) (f : ℕ → Option A) → (l == n) ≡ false → put_at n x f l ≡ f l
off l n x f e = ap (λ t. if t then x else f l) e

pub which_key : (k key : List ℕ) → (k ≡ key) ⊎ (bytes_eq k key ≡ false)
which_key k key = elim (cases_Bool (bytes_eq k key)) [
  | inl e ↦ inl ((bytes_eq-Decides k key).0 e)
  | inr e ↦ inr e
]

pub under : (key : List ℕ) (x : Option ℕ) (f : List ℕ → Option ℕ) → put_key key x f key ≡ x
under key x f = ap (λ t. if t then x else f key) ((bytes_eq-Decides key key).1 refl)

pub beside : (key k : List ℕ) (x : Option ℕ) (f : List ℕ → Option ℕ) → bytes_eq key k ≡ false → put_key key x f k ≡ f k
beside key k x f e = ap (λ t. if t then x else f k) e

-- the seat that is left behind a change
abbrev pub seat_left : Place → Option Phase → Option Seat
seat_left p None = None
seat_left p (Some phase) = Some (seat_of p phase)

pub reseated_at : (l : ℕ) (p : Place) (phase : Option Phase) (k : Series) → (reseated l p phase k).seat l ≡ seat_left p phase
reseated_at l p None k = at l None k.seat
reseated_at l p (Some phase) k = at l (Some (seat_of p phase)) k.seat

pub reseated_off : (m l : ℕ) (p : Place) (phase : Option Phase) (k : Series) → (m == l) ≡ false → (reseated l p phase k).seat m ≡ k.seat m
reseated_off m l p None k two = off m l None k.seat two
reseated_off m l p (Some phase) k two = off m l (Some (seat_of p phase)) k.seat two

pub left_at : (l : ℕ) (over : Bool) (f : ℕ → Option session.Seen) → left_of l over f l ≡ (if over then None else f l)
left_at l true f = at l None f
left_at l false f = refl

-- nothing is told of one that is not looked at, and of one that has not changed
pub nothing_more : {A : Type 0} (b : Bool) (xs : List A) → xs ++ (if b then [] else []) ≡ xs
nothing_more true xs = append-nil xs
nothing_more false xs = append-nil xs
