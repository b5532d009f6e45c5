-- The requests that wait on a link: those that wait for the same are found by their places.
use Rattle.std.proofs.Common.{◌+◌, length, suc, ◌≡◌, ℕ, ◌≤◌, ◌<◌, ◌∙◌, sym, ap, List, [], ◌∷◌, ◌++◌, refl, arith, map, filter, Bool, true, false, not, cond, ◌==◌, nat_lt, nat_le, Option, Some, None, inl, inr, append-nil, subst}
use Rattle.std.proofs.lemmas.Bool.{cases_Bool, eq-eqb}
use Rattle.std.proofs.lemmas.Bool.Decides.{nat_tests}
use Rattle.std.proofs.lemmas.List.{map-append}
use Rattle.std.proofs.lemmas.List.Elements.{filter-append}
use Rattle.std.specs.List.{list_any}
use Rattle.std.specs.Ordering.{nat_cmp}
use Rattle.std.specs.BTreeMap.{is_at, insert_entry}
use Rattle.std.specs.Map.{lookup, remove_entry}
use Rattle.std.specs.Global.{Vec}
use Rattle.pulsar_wire.specs.declared.awaited.Awaited.{Awaited}
use Rattle.pulsar_requests.specs.declared.requests.Waiter.{Waiter}
use Rattle.pulsar_wire.specs.Awaited.{is_same}
use Rattle.pulsar_wire.specs.Sink.{capped}
use Rattle.pulsar_requests.specs.Waits.{Pending, found, is_due, is_excused, later_of, others, places, request_at}
use Rattle.pulsar_requests.specs.Kept.{AllFrom, AllUpTo, Ascends, Taken, all_pending, listed, pending_at, places_of}
use Rattle.pulsar_requests.proofs.Awaiting.{is_at-eqb, same_is, same_refl, same_symm}

abbrev Entries : Type 0
Entries = List (ℕ × Waiter)

-- NUMBERS

inserted-next : (k : ℕ) (e : ℕ × Waiter) (es : Entries) (w : Waiter) → e.0 < k → insert_entry nat_cmp es k w ≡ es ++ (k, w) ∷ [] → insert_entry nat_cmp (e ∷ es) k w ≡ e ∷ (es ++ (k, w) ∷ [])
inserted-next k e es w lt more =
    let above : nat_lt k e.0 ≡ false = grind (arith, nat_tests) in
    let other : (k == e.0) ≡ false = grind (arith, nat_tests) in
    rw (above, other) (ap (λ t. e ∷ t) more)

below-or : (k : ℕ) (e : ℕ × Waiter) (es : Entries) (b : Bool) → nat_le k e.0 ≡ b → ((id : ℕ) → k ≤ id → lookup (is_at (nat_cmp id)) (e ∷ es) ≡ None) → e.0 < k
below-or k e es false h fresh = grind (arith, nat_tests)
below-or k e es true h fresh =
    let le : k ≤ e.0 = grind (arith, nat_tests) in
    let same : is_at (nat_cmp e.0) e.0 ≡ true = is_at-eqb e.0 e.0 ∙ eq-eqb e.0 e.0 refl in
    let none = rw same at (fresh e.0 le) in absurd cc

tail-none : (id : ℕ) (e : ℕ × Waiter) (es : Entries) (b : Bool) → (id == e.0) ≡ b → is_at (nat_cmp id) e.0 ≡ (id == e.0) → lookup (is_at (nat_cmp id)) (e ∷ es) ≡ None → lookup (is_at (nat_cmp id)) es ≡ None
tail-none id e es true h same none = absurd (let found = rw (same, h) at none in cc)
tail-none id e es false h same none = rw (same, h) at none

first-below : (k : ℕ) (e : ℕ × Waiter) (es : Entries) → ((id : ℕ) → k ≤ id → lookup (is_at (nat_cmp id)) (e ∷ es) ≡ None) → e.0 < k
first-below k e es fresh = below-or k e es (nat_le k e.0) refl fresh

-- a place that is greater than all others goes to the end
pub inserted : (k : ℕ) (es : Entries) (w : Waiter) → ((id : ℕ) → k ≤ id → lookup (is_at (nat_cmp id)) es ≡ None) → insert_entry nat_cmp es k w ≡ es ++ (k, w) ∷ []
inserted k [] w fresh = refl
inserted k (e ∷ es) w fresh = inserted-next k e es w (first-below k e es fresh) (inserted k es w (λ id le. tail-none id e es (id == e.0) refl (is_at-eqb id e.0) (fresh id le)))

-- ONE THAT IS TAKEN OUT

-- what the places list is there
listed_there : (a : Awaited) (n : ℕ) (rest : List ℕ) (es : Entries) → places_of a es ≡ n ∷ rest → lookup (is_at (nat_cmp n)) es ≡ None → ⊥
listed_there a n rest [] h none = cc
listed_there a n rest (e ∷ es) h none = elim (cases_Bool (is_same a e.1.awaits)) [
  | inl t ↦ (
      let g : e.0 ∷ places_of a es ≡ n ∷ rest = rw t at h in
      let first_is : e.0 ≡ n = cc in
      let same : is_at (nat_cmp n) e.0 ≡ true = is_at-eqb n e.0 ∙ eq-eqb n e.0 (sym first_is) in
      let no = rw same at none in cc)
  | inr f ↦ (
      let g : places_of a es ≡ n ∷ rest = rw f at h in
      elim (cases_Bool (is_at (nat_cmp n) e.0)) [
        | inl here ↦ (let no = rw here at none in cc)
        | inr other ↦ listed_there a n rest es g (rw other at none)
      ])
]

record OneTaken (a : Awaited) (n : ℕ) (rest : List ℕ) (es : Entries) : Type 0 where
  others_same : others (Some a) (all_pending (remove_entry (is_at (nat_cmp n)) es)) ≡ others (Some a) (all_pending es)
  rest_is : places_of a (remove_entry (is_at (nat_cmp n)) es) ≡ rest
  listed_same : (b : Awaited) → is_same a b ≡ false → places_of b (remove_entry (is_at (nat_cmp n)) es) ≡ places_of b es

module _ (a : Awaited) (n : ℕ) (rest : List ℕ) (e : ℕ × Waiter) (es : Entries) (h : places_of a (e ∷ es) ≡ n ∷ rest) where
  taken_here : is_same a e.1.awaits ≡ true → OneTaken a n rest (e ∷ es)
  taken_here t =
      let g : e.0 ∷ places_of a es ≡ n ∷ rest = rw t at h in
      let first_is : e.0 ≡ n = cc in
      let same : is_at (nat_cmp n) e.0 ≡ true = is_at-eqb n e.0 ∙ eq-eqb n e.0 (sym first_is) in
      let rest_same : places_of a es ≡ rest = cc in
      record {
        others_same = rw (same, t) refl;
        rest_is = rw same rest_same;
        listed_same = λ b f. rw (same, other b f) refl;
      }
    where
      other : (b : Awaited) → is_same a b ≡ false → is_same b e.1.awaits ≡ false
      other b f = elim (cases_Bool (is_same b e.1.awaits)) [
        | inl y ↦ (let is : a ≡ b = same_is a e.1.awaits t ∙ sym (same_is b e.1.awaits y) in
            let no : true ≡ false = sym (same_refl a) ∙ ap (λ x. is_same a x) is ∙ f in absurd cc)
        | inr y ↦ y
      ]

  not_here : is_same a e.1.awaits ≡ false → lookup (is_at (nat_cmp n)) (remove_entry (is_at (nat_cmp n)) (e ∷ es)) ≡ None → is_at (nat_cmp n) e.0 ≡ false
  not_here f none = elim (cases_Bool (is_at (nat_cmp n) e.0)) [
    | inl here ↦ absurd (listed_there a n rest es (rw f at h) (rw here at none))
    | inr other ↦ other
  ]

  taken_later : is_same a e.1.awaits ≡ false → is_at (nat_cmp n) e.0 ≡ false → OneTaken a n rest es → OneTaken a n rest (e ∷ es)
  taken_later f other w = record {
    others_same = rw (other, f) (ap (λ t. pending_at e ∷ t) w.others_same);
    rest_is = rw (other, f) w.rest_is;
    listed_same = λ b g. elim (cases_Bool (is_same b e.1.awaits))
        [ inl y ↦ rw (other, y) (ap (λ t. e.0 ∷ t) (w.listed_same b g)) | inr y ↦ rw (other, y) (w.listed_same b g) ];
  }

one_taken : (a : Awaited) (n : ℕ) (rest : List ℕ) (es : Entries) → places_of a es ≡ n ∷ rest → lookup (is_at (nat_cmp n)) (remove_entry (is_at (nat_cmp n)) es) ≡ None → OneTaken a n rest es
one_taken a n rest [] h none = absurd cc
one_taken a n rest (e ∷ es) h none = elim (cases_Bool (is_same a e.1.awaits)) [
  | inl t ↦ taken_here a n rest e es h t
  | inr f ↦ (let other = not_here a n rest e es h f none in taken_later a n rest e es h f other (one_taken a n rest es (rw f at h) (rw (other, other) at none)))
]

-- ALL THAT ARE TAKEN OUT

pub taken_first : (a : Awaited) (es : Entries) (ns : List ℕ) → places_of a es ≡ ns → Taken a es es ns
taken_first a es ns h = record { left_are = h; others_are = refl; others_listed = λ b f. refl; absent = λ n none. none }

absent_on : (n m : ℕ) (b : Bool) (now new : Option Waiter) → new ≡ cond b None now → now ≡ None → new ≡ None
absent_on n m true now new is h = is
absent_on n m false now new is h = is ∙ h

module _ (a : Awaited) (old now new : Entries) (n : ℕ) (rest : List ℕ) (t : Taken a old now (n ∷ rest))
    (removed : new ≡ remove_entry (is_at (nat_cmp n)) now)
    (updates : (m : ℕ) → lookup (is_at (nat_cmp m)) new ≡ cond (is_at (nat_cmp n) m) None (lookup (is_at (nat_cmp m)) now))
    (none : lookup (is_at (nat_cmp n)) new ≡ None) where
  one : OneTaken a n rest now
  one = one_taken a n rest now t.left_are (subst (λ es. lookup (is_at (nat_cmp n)) es ≡ None) removed none)

  pub taken_next : Taken a old new rest
  taken_next =
      record {
        left_are = ap (places_of a) removed ∙ one.rest_is;
        others_are = ap (λ x. others (Some a) (all_pending x)) removed ∙ one.others_same ∙ t.others_are;
        others_listed = λ b f. ap (places_of b) removed ∙ one.listed_same b f ∙ t.others_listed b f;
        absent = λ m h. absent_on n m (is_at (nat_cmp n) m) (lookup (is_at (nat_cmp m)) now) (lookup (is_at (nat_cmp m)) new) (updates m) (t.absent m h);
      }

-- the places of those that wait for it
pub places_found : (a : Awaited) (es : Entries) → places_of a es ≡ places (found (Some a) (all_pending es))
places_found a [] = refl
places_found a (e ∷ es) = elim (cases_Bool (is_same a e.1.awaits))
    [ inl y ↦ rw y (ap (λ t. e.0 ∷ t) (places_found a es)) | inr y ↦ rw y (places_found a es) ]

pub all_taken : (a : Awaited) (old new : Entries) → Taken a old new [] → all_pending new ≡ others (Some a) (all_pending old)
all_taken a old new t = sym (all_others new t.left_are) ∙ t.others_are
  where
    all_others : (es : Entries) → places_of a es ≡ [] → others (Some a) (all_pending es) ≡ all_pending es
    all_others [] h = refl
    all_others (e ∷ es) h = elim (cases_Bool (is_same a e.1.awaits))
        [ inl y ↦ absurd (let no = rw y at h in cc) | inr y ↦ rw y (ap (λ t. pending_at e ∷ t) (all_others es (rw y at h))) ]

-- THE INDEX

-- without those that were taken out
pub index_left : (a b : Awaited) (old new : Entries) (ns : Option (Vec ℕ)) (t : Bool) → is_same a b ≡ t →
    Taken a old new [] → listed ns ≡ places_of b old → listed (cond t None ns) ≡ places_of b new
index_left a b old new ns true is t h = sym (ap (λ x. places_of x new) (sym (same_is a b is)) ∙ t.left_are)
index_left a b old new ns false is t h = h ∙ sym (t.others_listed b is)

-- with one more
places_with : (b : Awaited) (es : Entries) (n : ℕ) (w : Waiter) → places_of b (es ++ (n, w) ∷ []) ≡ places_of b es ++ cond (is_same b w.awaits) (n ∷ []) []
places_with b es n w =
    ap (map (λ e. e.0)) (filter-append (λ e. is_same b e.1.awaits) es ((n, w) ∷ []))
    ∙ map-append (λ e. e.0) (filter (λ e. is_same b e.1.awaits) es) (filter (λ e. is_same b e.1.awaits) ((n, w) ∷ []))
    ∙ ap (λ x. places_of b es ++ x) (elim (cases_Bool (is_same b w.awaits)) [ inl y ↦ rw y refl | inr y ↦ rw y refl ])

pub index_with : (b : Awaited) (es : Entries) (n : ℕ) (w : Waiter) (before : List ℕ) (v : Vec ℕ) (ns : Option (Vec ℕ)) (t : Bool) →
    is_same w.awaits b ≡ t → v.items ≡ before ++ n ∷ [] → before ≡ places_of w.awaits es → listed ns ≡ places_of b es →
    listed (cond t (Some v) (cond t None ns)) ≡ places_of b (es ++ (n, w) ∷ [])
index_with b es n w before v ns true is items here h =
    let same : w.awaits ≡ b = same_is w.awaits b is in
    let back : is_same b w.awaits ≡ true = sym (same_symm w.awaits b) ∙ is in
    items ∙ ap (λ x. x ++ n ∷ []) (here ∙ ap (λ x. places_of x es) same) ∙ sym (places_with b es n w ∙ ap (λ t. places_of b es ++ cond t (n ∷ []) []) back)
index_with b es n w before v ns false is items here h =
    let back : is_same b w.awaits ≡ false = sym (same_symm w.awaits b) ∙ is in
    h ∙ sym (places_with b es n w ∙ ap (λ t. places_of b es ++ cond t (n ∷ []) []) back ∙ append-nil (places_of b es))

-- a place above the next one is free
pub fresh_on : (n next : ℕ) (now before : Option Waiter) (w : Waiter) → now ≡ cond (is_at (nat_cmp next) n) (Some w) before → before ≡ None → next < n → now ≡ None
fresh_on n next now before w is none lt =
    let apart : (next == n) ≡ false = grind (arith, nat_tests) in
    let other : is_at (nat_cmp next) n ≡ false = is_at-eqb next n ∙ apart in
    is ∙ ap (λ b. cond b (Some w) before) other ∙ none

-- whether somebody waits

abbrev pub has_any : List ℕ → Bool
has_any [] = false
has_any (n ∷ ns) = true

pub has_some : (n : ℕ) (ns : List ℕ) → n ≡ length ns → not (n == 0) ≡ has_any ns
has_some n [] h = rw h refl
has_some n (x ∷ xs) h =
    let some : (suc (length xs) == 0) ≡ false = grind (arith, nat_tests) in
    rw (h, some) refl

pub somebody : (a : Awaited) (es : Entries) → list_any (λ p. is_same a p.awaits) (all_pending es) ≡ has_any (places_of a es)
somebody a [] = refl
somebody a (e ∷ es) = elim (cases_Bool (is_same a e.1.awaits)) [ inl y ↦ rw y refl | inr y ↦ rw y (somebody a es) ]

-- the one of a place
abbrev pub pending_of : ℕ → Option Waiter → Option Pending
pending_of n None = None
pending_of n (Some w) = Some (pending_at (n, w))

pub at_place : (n : ℕ) (es : Entries) → request_at n (all_pending es) ≡ pending_of n (lookup (is_at (nat_cmp n)) es)
at_place n [] = refl
at_place n (e ∷ es) = elim (cases_Bool (e.0 == n)) [
  | inl y ↦ (let same : e.0 ≡ n = grind (arith, nat_tests) in
      let here : is_at (nat_cmp n) e.0 ≡ true = is_at-eqb n e.0 ∙ eq-eqb n e.0 (sym same) in
      rw (y, here) (ap (λ x. Some (pending_at (x, e.1))) same))
  | inr y ↦ (let other : (n == e.0) ≡ false = grind (arith, nat_tests) in
      let there : is_at (nat_cmp n) e.0 ≡ false = is_at-eqb n e.0 ∙ other in
      rw (y, there) (at_place n es))
]

-- DEADLINES

pub from_filter : (test : Pending → Bool) (d : ℕ) (ps : List Pending) → AllFrom d ps → AllFrom d (filter test ps)
from_filter test d [] h = tt
from_filter test d (p ∷ ps) h = elim (cases_Bool (test p)) [ inl y ↦ rw y (h.0, from_filter test d ps h.1) | inr y ↦ rw y (from_filter test d ps h.1) ]

pub up_to_filter : (test : Pending → Bool) (d : ℕ) (ps : List Pending) → AllUpTo d ps → AllUpTo d (filter test ps)
up_to_filter test d [] h = tt
up_to_filter test d (p ∷ ps) h = elim (cases_Bool (test p)) [ inl y ↦ rw y (h.0, up_to_filter test d ps h.1) | inr y ↦ rw y (up_to_filter test d ps h.1) ]

pub ascends_filter : (test : Pending → Bool) (ps : List Pending) → Ascends ps → Ascends (filter test ps)
ascends_filter test [] h = tt
ascends_filter test (p ∷ ps) h = elim (cases_Bool (test p)) [ inl y ↦ rw y (from_filter test p.deadline ps h.0, ascends_filter test ps h.1) | inr y ↦ rw y (ascends_filter test ps h.1) ]

pub up_to_later : (d e : ℕ) (ps : List Pending) → d ≤ e → AllUpTo d ps → AllUpTo e ps
up_to_later d e [] le h = tt
up_to_later d e (p ∷ ps) le h = (omega (arith, le, h.0), up_to_later d e ps le h.1)

from_append : (d : ℕ) (ps : List Pending) (q : Pending) → d ≤ q.deadline → AllFrom d ps → AllFrom d (ps ++ q ∷ [])
from_append d [] q le h = (le, tt)
from_append d (p ∷ ps) q le h = (h.0, from_append d ps q le h.1)

pub up_to_append : (d : ℕ) (ps : List Pending) (q : Pending) → q.deadline ≤ d → AllUpTo d ps → AllUpTo d (ps ++ q ∷ [])
up_to_append d [] q le h = (le, tt)
up_to_append d (p ∷ ps) q le h = (h.0, up_to_append d ps q le h.1)

pub ascends_append : (ps : List Pending) (q : Pending) → AllUpTo q.deadline ps → Ascends ps → Ascends (ps ++ q ∷ [])
ascends_append [] q up h = (tt, tt)
ascends_append (p ∷ ps) q up h = (from_append p.deadline ps q up.0 h.0, ascends_append ps q up.1 h.1)

-- capped moments
pub capped_later : (clock now t : ℕ) → capped (clock + t) ≤ capped (later_of clock now + t)
capped_later clock now t = capped_on clock now t (nat_lt clock now) refl
  where
    capped_on : (clock now t : ℕ) (b : Bool) → nat_lt clock now ≡ b → capped (clock + t) ≤ capped (later_of clock now + t)
    capped_on clock now t true h = let lt : clock < now = grind (arith, nat_tests) in rw h (omega (arith, lt))
    capped_on clock now t false h = rw h (omega arith)

-- where the first that is not excused isn't due yet, none is
none_from : (now d : ℕ) (excused : List ℕ) (ps : List Pending) → now < d → AllFrom d ps → list_any (is_due now excused) ps ≡ false
none_from now d excused [] lt h = refl
none_from now d excused (p ∷ ps) lt h =
    let late : nat_le p.deadline now ≡ false = grind (arith, nat_tests, lt, h.0) in
    rw late (none_from now d excused ps lt h.1)

pub decides : (now : ℕ) (excused : List ℕ) (p : Pending) (ps : List Pending) → AllFrom p.deadline ps → is_excused excused p.creates p.awaits ≡ false →
    list_any (is_due now excused) (p ∷ ps) ≡ nat_le p.deadline now
decides now excused p ps h ready = on (nat_le p.deadline now) refl
  where
    on : (b : Bool) → nat_le p.deadline now ≡ b → list_any (is_due now excused) (p ∷ ps) ≡ b
    on true e = rw (e, ready) refl
    on false e = let lt : now < p.deadline = grind (arith, nat_tests) in rw e (none_from now p.deadline excused ps lt h)

pub ascends_tail : (xs ys : List Pending) → Ascends (xs ++ ys) → Ascends ys
ascends_tail [] ys h = h
ascends_tail (x ∷ xs) ys h = ascends_tail xs ys h.1

-- one that is excused is passed over
pub skips : (now : ℕ) (excused : List ℕ) (p : Pending) (ps : List Pending) → is_excused excused p.creates p.awaits ≡ true →
    list_any (is_due now excused) (p ∷ ps) ≡ list_any (is_due now excused) ps
skips now excused p ps h = on (nat_le p.deadline now) refl
  where
    on : (b : Bool) → nat_le p.deadline now ≡ b → list_any (is_due now excused) (p ∷ ps) ≡ list_any (is_due now excused) ps
    on true e = rw (e, h) refl
    on false e = rw e refl
