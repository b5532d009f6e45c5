-- The two tables of series agree: the newest connection of a key has a seat at an address of that key, and each seat is that of the
-- newest connection of its key.
use Rattle.std.proofs.Common.{◌≡◌, ◌≢◌, ◌∙◌, sym, ap, subst, ℕ, ◌+◌, ◌<◌, false, List, ◌⊎◌, inl, inr, Option, Some, None, ◌==◌, bytes_eq, arith}
use Rattle.std.proofs.lemmas.Slice.Eq.{bytes_eq-Decides}
use Rattle.pulsar_addresses.specs.Address.{Place, address_key}
use Rattle.pulsar_discovery.specs.declared.addresses.Phase.{Phase}
use Rattle.pulsar_discovery.specs.declared.addresses.Phase.TheVariants.{Runs}
use Rattle.pulsar_discovery.specs.declared.addresses.Seat.{Seat}
use Rattle.pulsar_discovery.specs.Series.{Series, begun, in_phase, no_series, put_at, put_key, reseated, seat_of, without}
use Rattle.pulsar_discovery.proofs.Cases.{apart, at, beside, off, same, under, which, which_key}

pub record Books (links : ℕ) (k : Series) : Type 0 where
  pub linked : (l : ℕ) (s : Seat) → k.seat l ≡ Some s → k.link_of (address_key s.address) ≡ Some l
  pub seated : (key : List ℕ) (l : ℕ) → k.link_of key ≡ Some l → (s : Seat) × (k.seat l ≡ Some s) × (address_key s.address ≡ key)
  pub below : (l : ℕ) (s : Seat) → k.seat l ≡ Some s → l < links

pub empty : Books 0 no_series
empty = record { linked = λ l s e. absurd cc; seated = λ key l e. absurd cc; below = λ l s e. absurd cc }

-- the seat that a connection has behind a change of that of another, or of its own
pub seat_is : (l n : ℕ) (s : Seat) (x : Option Seat) (f : ℕ → Option Seat) → put_at n x f l ≡ Some s → ((l ≡ n) × (x ≡ Some s)) ⊎ (((l == n) ≡ false) × (f l ≡ Some s))
seat_is l n s x f e = elim (which l n) [
  | inl same ↦ inl (same, sym (at n x f) ∙ subst (λ m. put_at n x f m ≡ Some s) same e)
  | inr other ↦ inr (other, sym (off l n x f other) ∙ e)
]

pub link_is : (key k : List ℕ) (l : ℕ) (x : Option ℕ) (f : List ℕ → Option ℕ) → put_key key x f k ≡ Some l → ((key ≡ k) × (x ≡ Some l)) ⊎ ((bytes_eq key k ≡ false) × (f k ≡ Some l))
link_is key k l x f e = elim (which_key key k) [
  | inl same ↦ inl (same, sym (under key x f) ∙ subst (λ m. put_key key x f m ≡ Some l) (sym same) e)
  | inr other ↦ inr (other, sym (beside key k x f other) ∙ e)
]

-- two connections with other keys are not one
pub other_key : (key : List ℕ) (l m : ℕ) (s x : Seat) (k : Series) → bytes_eq (address_key s.address) key ≡ false → k.seat l ≡ Some s → k.seat m ≡ Some x → address_key x.address ≡ key → m ≢ l
other_key key l m s x k apart here there is same =
    let one : s ≡ x = (let here_too = subst (λ y. k.seat y ≡ Some x) same there in cc) in
    let key_is : address_key s.address ≡ key = ap (λ y. address_key y.address) one ∙ is in
    let yes = (bytes_eq-Decides (address_key s.address) key).1 key_is in
    absurd (let no = apart in cc)

-- a key has one newest connection
one_link : (l m : ℕ) (a b : List ℕ) (k : Series) → k.link_of a ≡ Some l → k.link_of b ≡ Some m → a ≡ b → (m == l) ≡ false → ⊥
one_link l m a b k mine his one apart =
    let two = subst (λ y. k.link_of y ≡ Some l) one mine in
    let is : m ≡ l = cc in
    let really : (l == l) ≡ false = subst (λ y. (y == l) ≡ false) is apart in
    let yes = same l in cc

-- an attempt starts for an address that has none
pub first : (n : ℕ) (p : Place) (k : Series) → k.link_of (address_key p) ≡ None → Books n k → Books (n + 1) (begun n p 0 k)
first n p k none b =
    record {
      linked = λ l s e. elim (seat_is l n s (Some (seat_of p (Runs 0))) k.seat e) [
        | inl is ↦ (let q : seat_of p (Runs 0) ≡ s = cc in
            subst (λ m. put_key (address_key p) (Some n) k.link_of (address_key m.address) ≡ Some l) q (under (address_key p) (Some n) k.link_of ∙ ap Some (sym is.0)))
        | inr is ↦ (elim (which_key (address_key p) (address_key s.address)) [
          | inl one ↦ absurd (let no = b.linked l s is.1 in let free = subst (λ m. k.link_of m ≡ None) one none in cc)
          | inr two ↦ beside (address_key p) (address_key s.address) (Some n) k.link_of two ∙ b.linked l s is.1
        ])
      ];
      seated = λ key l e. elim (link_is (address_key p) key l (Some n) k.link_of e) [
        | inl is ↦ (seat_of p (Runs 0), subst (λ m. put_at n (Some (seat_of p (Runs 0))) k.seat m ≡ Some (seat_of p (Runs 0))) (let q : n ≡ l = cc in q) (at n (Some (seat_of p (Runs 0))) k.seat), is.0)
        | inr is ↦ (let x = b.seated key l is.1 in
            let less = b.below l x.0 x.1 in
            (x.0, off l n (Some (seat_of p (Runs 0))) k.seat (apart l n (λ same. omega (arith, less, same))) ∙ x.1, x.2))
      ];
      below = λ l s e. elim (seat_is l n s (Some (seat_of p (Runs 0))) k.seat e) [
        | inl is ↦ (let q = is.0 in omega (arith, q))
        | inr is ↦ (let less = b.below l s is.1 in omega (arith, less))
      ];
    }

-- the next attempt starts in place of one whose retry was waited for
pub next : (n l r : ℕ) (s : Seat) (k : Series) → k.seat l ≡ Some s → Books n k → Books (n + 1) (begun n s.address r (without l k))
next n l r s k here b =
    let mine = b.linked l s here in
    record {
      linked = λ m x e. elim (seat_is m n x (Some (seat_of s.address (Runs r))) (put_at l None k.seat) e) [
        | inl is ↦ (let q : seat_of s.address (Runs r) ≡ x = cc in
            subst (λ y. put_key (address_key s.address) (Some n) k.link_of (address_key y.address) ≡ Some m) q (under (address_key s.address) (Some n) k.link_of ∙ ap Some (sym is.0)))
        | inr is ↦ (elim (seat_is m l x None k.seat is.1) [
          | inl own ↦ absurd (let gone = own.1 in cc)
          | inr was ↦ (elim (which_key (address_key s.address) (address_key x.address)) [
            | inl one ↦ absurd (one_link l m (address_key s.address) (address_key x.address) k mine (b.linked m x was.1) one was.0)
            | inr two ↦ beside (address_key s.address) (address_key x.address) (Some n) k.link_of two ∙ b.linked m x was.1
          ])
        ])
      ];
      seated = λ key m e. elim (link_is (address_key s.address) key m (Some n) k.link_of e) [
        | inl is ↦ (seat_of s.address (Runs r), subst (λ y. put_at n (Some (seat_of s.address (Runs r))) (put_at l None k.seat) y ≡ Some (seat_of s.address (Runs r))) (let q : n ≡ m = cc in q) (at n (Some (seat_of s.address (Runs r))) (put_at l None k.seat)), is.0)
        | inr is ↦ (let x = b.seated key m is.1 in
            let less = b.below m x.0 x.1 in
            let other = other_key key l m s x.0 k is.0 here x.1 x.2 in
            (x.0, off m n (Some (seat_of s.address (Runs r))) (put_at l None k.seat) (apart m n (λ same. omega (arith, less, same))) ∙ off m l None k.seat (apart m l other) ∙ x.1, x.2))
      ];
      below = λ m x e. elim (seat_is m n x (Some (seat_of s.address (Runs r))) (put_at l None k.seat) e) [
        | inl is ↦ (let q = is.0 in omega (arith, q))
        | inr is ↦ (elim (seat_is m l x None k.seat is.1) [
          | inl own ↦ absurd (let gone = own.1 in cc)
          | inr was ↦ (let less = b.below m x was.1 in omega (arith, less))
        ])
      ];
    }

-- a series goes on in another phase, at an address of the same key
pub moved : (n l : ℕ) (p : Place) (phase : Phase) (s : Seat) (k : Series) → k.seat l ≡ Some s → address_key p ≡ address_key s.address → Books n k → Books n (in_phase l p phase k)
moved n l p phase s k here key_is b =
    record {
      linked = λ m x e. elim (seat_is m l x (Some (seat_of p phase)) k.seat e) [
        | inl is ↦ (let q : seat_of p phase ≡ x = cc in
            subst (λ y. k.link_of (address_key y.address) ≡ Some m) q (ap k.link_of key_is ∙ b.linked l s here ∙ ap Some (sym is.0)))
        | inr is ↦ b.linked m x is.1
      ];
      seated = λ key m e. elim (which m l) [
        | inl one ↦ (let x = b.seated key m e in
            let was = subst (λ y. k.seat y ≡ Some x.0) one x.1 in
            let q : s ≡ x.0 = cc in
            (seat_of p phase, subst (λ y. put_at l (Some (seat_of p phase)) k.seat y ≡ Some (seat_of p phase)) (sym one) (at l (Some (seat_of p phase)) k.seat), key_is ∙ ap (λ y. address_key y.address) q ∙ x.2))
        | inr two ↦ (let x = b.seated key m e in
            (x.0, off m l (Some (seat_of p phase)) k.seat two ∙ x.1, x.2))
      ];
      below = λ m x e. elim (seat_is m l x (Some (seat_of p phase)) k.seat e) [
        | inl is ↦ (let less = b.below l s here in
            let q = is.0 in omega (arith, less, q))
        | inr is ↦ b.below m x is.1
      ];
    }

-- a series is over
pub freed : (n l : ℕ) (s : Seat) (k : Series) → k.seat l ≡ Some s → Books n k → Books n (reseated l s.address None k)
freed n l s k here b =
    record {
      linked = λ m x e. elim (seat_is m l x None k.seat e) [
        | inl is ↦ absurd (let gone = is.1 in cc)
        | inr is ↦ (elim (which_key (address_key s.address) (address_key x.address)) [
          | inl one ↦ absurd (one_link l m (address_key s.address) (address_key x.address) k (b.linked l s here) (b.linked m x is.1) one is.0)
          | inr two ↦ beside (address_key s.address) (address_key x.address) None k.link_of two ∙ b.linked m x is.1
        ])
      ];
      seated = λ key m e. elim (link_is (address_key s.address) key m None k.link_of e) [
        | inl is ↦ absurd (let gone = is.1 in cc)
        | inr is ↦ (let x = b.seated key m is.1 in
            (x.0, off m l None k.seat (apart m l (λ same. other_key key l m s x.0 k is.0 here x.1 x.2 same)) ∙ x.1, x.2))
      ];
      below = λ m x e. elim (seat_is m l x None k.seat e) [
        | inl is ↦ absurd (let gone = is.1 in cc)
        | inr is ↦ b.below m x is.1
      ];
    }
