-- What acts do to a link, and by which act each of it was done. So what is so of a link at its birth, and stays so by each, is so of it.
use Rattle.std.proofs.Common.{◌≡◌, ◌∙◌, sym, ap, subst, ℕ, ◌==◌, List, [], ◌∷◌, map, refl, Bool, true, false, cond, Option, Some, None, inl, inr}
use Rattle.std.proofs.lemmas.Bool.{cases_Bool, eqb-true}
use Rattle.std.specs.Option.{is_some, option_to_list}
use Rattle.pulsar_laws.proofs.ActWords.{Act, Ask, Bytes, Comes, Dials, Does, Drains, End, Ends, Get, Heard, LinkAct, Opens, Pings, Reads, ToLink, Who}
use Rattle.pulsar_laws.proofs.RunWords.{after, begun, begun_live, begun_same, dialed, is_live, link_got, rules, View}
use Rattle.pulsar_laws.proofs.LinkWords.{closing, Fault, Place, Seat, seat_fed}
use Rattle.pulsar_acts.specs.Things.{links}
use Rattle.pulsar_acts.specs.View.{is_at, link_acts, link_born, link_gone, link_heard}
use Rattle.pulsar_links.specs.Asks.{Deed, IsAsked, IsClosed, IsDrained, IsFed, IsGot, IsOpened, IsPinged, IsRead, comes_by, got_by, is_end, seat_by}
use Rattle.pulsar_run.specs.Things.{Keeps, row_after, row_by}
use Rattle.pulsar_session.specs.Link.{feeds, is_open}
use Rattle.pulsar_laws.proofs.Cases.{cond_when, some_is}

-- A piece that is not fed does nothing to it.

pub unfed : (piece : List ℕ) (row : Option Seat) → is_at is_open row ≡ false → row ≡ row_by seat_by (IsFed piece ∷ []) row
unfed piece None d = refl
unfed piece (Some r) d = let e : feeds piece r.seen ≡ r.seen = rw d refl in ap (λ s. Some (record r { seen = s })) (sym e)

begins_so : (e : Heard) (v : View) (l : ℕ) → (begun e v).links.live l ≡ row_by seat_by (link_heard l e) (v.links.live l)
begins_so (Bytes k piece) v l = by (is_at is_open (v.links.live k)) refl
  where
    by : (b : Bool) → is_at is_open (v.links.live k) ≡ b →
        (cond b (begun_live (Bytes k piece) v) v).links.live l ≡ row_by seat_by (link_heard l (Bytes k piece)) (v.links.live l)
    by true h = refl
    by false h =
        cond_when (λ es. v.links.live l ≡ row_by seat_by es (v.links.live l)) (l == k) (IsFed piece ∷ []) []
        (λ e. unfed piece (v.links.live l) (ap (λ m. is_at is_open (v.links.live m)) (eqb-true l k e) ∙ h)) (λ e. refl)
begins_so e v l = begun_same (λ w. w.links.live l) e v refl

pub links_keep : Keeps rules links
links_keep = record { none = λ o l. refl; begins = begins_so; then_so = λ a v l. refl }

-- WHAT WAS DONE TO ONE THAT STAYS, AND BY WHICH ACT

abbrev pub CameFrom : View → (link : ℕ) → Act → Deed → Type 0
CameFrom v l a (IsFed piece) = ⊥
CameFrom v l a (IsOpened now) = (a ≡ Comes (ToLink l Opens)) × (now ≡ v.now)
CameFrom v l a (IsRead now) = (a ≡ Comes (ToLink l Reads)) × (now ≡ v.now)
CameFrom v l a (IsDrained most now) = (a ≡ Comes (ToLink l (Drains most))) × (now ≡ v.now)
CameFrom v l a (IsPinged now) = (a ≡ Comes (ToLink l Pings)) × (now ≡ v.now)
CameFrom v l a (IsAsked who now request) = (a ≡ Does who (Ask l request)) × (now ≡ v.now)
CameFrom v l a (IsGot now) = (who : Who) × (p : Place) × (a ≡ Does who (Get p)) × (now ≡ v.now)
CameFrom v l a (IsClosed cause) = ⊥

-- an act does one thing to a link, at most
abbrev pub One : (Deed → Type 0) → List Deed → Type 0
One P [] = Unit {0}
One P (d ∷ []) = P d
One P (d ∷ e ∷ es) = ⊥

none_closed : (P : Deed → Type 0) (cause : Option Fault) → is_some cause ≡ false → One P (map IsClosed (option_to_list cause))
none_closed P None g = tt
none_closed P (Some c) g = absurd cc

came : (v : View) (l : ℕ) (x : LinkAct) → is_end x v.now (v.links.live l) ≡ false →
    One (CameFrom v l (Comes (ToLink l x))) (comes_by x v.now (v.links.live l))
came v l Opens g = (refl, refl)
came v l Reads g = (refl, refl)
came v l (Drains most) g = (refl, refl)
came v l Pings g = (refl, refl)
came v l (Ends end) g = none_closed (CameFrom v l (Comes (ToLink l (Ends end)))) (closing end v.now (v.links.live l)) g

pub came_from : (v : View) (l : ℕ) (a : Act) → link_gone v l a ≡ false → One (CameFrom v l a) (link_acts v l a)
came_from v l (Comes (ToLink k x)) g =
    cond_when (One (CameFrom v l (Comes (ToLink k x)))) (l == k) (comes_by x v.now (v.links.live l)) []
    (λ e. subst (λ j. One (CameFrom v l (Comes (ToLink j x))) (comes_by x v.now (v.links.live l))) (eqb-true l k e) (came v l x (rw e at g))) (λ e. tt)
came_from v l (Does who (Ask k request)) g =
    cond_when (One (CameFrom v l (Does who (Ask k request)))) (l == k) (IsAsked who v.now request ∷ []) []
    (λ e. (ap (λ j. Does who (Ask j request)) (sym (eqb-true l k e)), refl)) (λ e. tt)
came_from v l (Does who (Get p)) g =
    elim (link_got v.addresses (Does who (Get p))) as (λ link. One (CameFrom v l (Does who (Get p))) (got_by l link v.now)) [
      | None ↦ tt
      | Some k ↦ cond_when (One (CameFrom v l (Does who (Get p)))) (l == k) (IsGot v.now ∷ []) [] (λ e. (who, p, refl, refl)) (λ e. tt)
    ]
came_from v l _ g = tt

-- and the act by which it was born, or ended
pub record IsDialed (v : View) (l : ℕ) (a : Act) (seat : Seat) : Type 0 where
  pub place : Place
  pub starter : Who
  pub retries : ℕ
  pub is_act : a ≡ Dials place starter retries
  pub is_next : (l == v.links.started) ≡ true
  pub is_it : dialed v.chosen v.links.started v.now place ≡ seat

pub born_by : (v : View) (l : ℕ) (a : Act) (seat : Seat) → link_born v l a ≡ Some seat → IsDialed v l a seat
born_by v l (Dials p starter n) seat h = elim (cases_Bool (l == v.links.started)) [
  | inl e ↦ record { place = p; starter = starter; retries = n; is_act = refl; is_next = e; is_it = some_is (rw e at h) }
  | inr e ↦ (let is : None ≡ Some seat = rw e at h in absurd cc)
]
born_by v l a seat h = absurd cc

pub record IsEnded (v : View) (l : ℕ) (a : Act) : Type 0 where
  pub end : End
  pub is_act : a ≡ Comes (ToLink l (Ends end))
  pub closes : is_some (closing end v.now (v.links.live l)) ≡ true

pub gone_by : (v : View) (l : ℕ) (a : Act) → link_gone v l a ≡ true → IsEnded v l a
gone_by v l (Comes (ToLink k x)) g = elim (cases_Bool (l == k)) [
  | inl e ↦ by e x (rw e at g)
  | inr e ↦ (let is : false ≡ true = rw e at g in absurd cc)
]
  where
    by : (l == k) ≡ true → (x : LinkAct) → is_end x v.now (v.links.live l) ≡ true → IsEnded v l (Comes (ToLink k x))
    by e (Ends end) h = record { end = end; is_act = ap (λ j. Comes (ToLink j (Ends end))) (sym (eqb-true l k e)); closes = h }
    by e x h = absurd cc
gone_by v l a g = absurd cc

-- So an act leaves a link in one of these ways.
module _ (Q : Option Seat → List Deed → Option Seat → Type 0) (v : View) (l : ℕ) (a : Act)
    (born : (seat : Seat) → IsDialed v l a seat → Q (Some seat) (link_acts v l a) (Some seat))
    (gone : IsEnded v l a → Q None (link_acts v l a) None)
    (still : Q None [] (v.links.live l))
    (absent : (d : Deed) → CameFrom v l a d → v.links.live l ≡ None → Q None (d ∷ []) None)
    (more : (d : Deed) → CameFrom v l a d → (seat : Seat) → v.links.live l ≡ Some seat → Q None (d ∷ []) (Some (seat_by d seat))) where
  by_one : (d : Deed) → CameFrom v l a d → (row : Option Seat) → v.links.live l ≡ row → Q None (d ∷ []) (row_by seat_by (d ∷ []) row)
  by_one d c None e = absent d c e
  by_one d c (Some seat) e = more d c seat e

  by_acts : (es : List Deed) → One (CameFrom v l a) es → Q None es (row_by seat_by es (v.links.live l))
  by_acts [] c = still
  by_acts (d ∷ []) c = by_one d c (v.links.live l) refl
  by_acts (d ∷ e ∷ es) c = absurd c

  pub after_so : Q (link_born v l a) (link_acts v l a) ((after a v).links.live l)
  after_so = by (link_born v l a) refl (link_gone v l a) refl
    where
      by : (b : Option Seat) → link_born v l a ≡ b → (g : Bool) → link_gone v l a ≡ g →
          Q b (link_acts v l a) (row_after seat_by b g (link_acts v l a) (v.links.live l))
      by (Some seat) e g f = born seat (born_by v l a seat e)
      by None e true f = gone (gone_by v l a f)
      by None e false f = by_acts (link_acts v l a) (came_from v l a f)

-- WHAT IS SO OF A ROW at its birth, and stays so by each thing that is done to it, is so after an act, and after an event begins.
module _ (P : Option Seat → Type 0) (v : View) (l : ℕ) where
  pub after_holds : (a : Act) → ((seat : Seat) → IsDialed v l a seat → P (Some seat)) → (IsEnded v l a → P None) →
      ((d : Deed) → CameFrom v l a d → (seat : Seat) → v.links.live l ≡ Some seat → P (Some seat) → P (Some (seat_by d seat))) →
      P (v.links.live l) → P ((after a v).links.live l)
  after_holds a born gone more h =
      after_so (λ b es row. P row) v l a born gone h (λ d c e. subst P e h) (λ d c seat e. more d c seat e (subst P e h))

  pub begun_holds : (e : Heard) →
      ((piece : List ℕ) → e ≡ Bytes l piece → (seat : Seat) → v.links.live l ≡ Some seat → P (Some seat) → P (Some (seat_fed piece seat))) →
      P (v.links.live l) → P ((begun e v).links.live l)
  begun_holds (Bytes k piece) fed h =
      cond_when (λ (w : View). P (w.links.live l)) (is_live v (Bytes k piece)) (begun_live (Bytes k piece) v) v
      (λ live. cond_when (λ es. P (row_by seat_by es (v.links.live l))) (l == k) (IsFed piece ∷ []) []
      (λ e. by (ap (λ j. Bytes j piece) (sym (eqb-true l k e))) (v.links.live l) refl) (λ e. h)) (λ dead. h)
    where
      by : Bytes k piece ≡ Bytes l piece → (row : Option Seat) → v.links.live l ≡ row → P (row_by seat_by (IsFed piece ∷ []) row)
      by is None e = subst P e h
      by is (Some seat) e = fed piece is seat e (subst P e h)
  begun_holds e fed h = subst P (sym (begun_same (λ w. w.links.live l) e v refl)) h
