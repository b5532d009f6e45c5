-- When links are due, and which were started, as one of them is looked at anew; and what all of them give.
use Rattle.std.proofs.Common.{◌≡◌, ℕ, ◌<◌, ◌==◌, ◌∙◌, sym, ap, subst, refl, List, [], ◌∷◌, ◌++◌, map, arith, Bool, true, false, cond, Option, Some, None, inl, inr}
use Rattle.std.proofs.lemmas.Bool.{cases_Bool, cases_lt, eq-eqb, false≢true}
use Rattle.std.proofs.lemmas.Bool.Decides.{nat_tests}
use Rattle.std.proofs.lemmas.Cmp.{nat_cmp_total}
use Rattle.std.proofs.lemmas.List.Elements.{recursion_from_All}
use Rattle.std.proofs.lemmas.Map.Views.{All-found}
use Rattle.std.specs.BTreeMap.{BTreeMap, IsOrdered, get, is_at, keys}
use Rattle.std.specs.BTreeSet.{BTreeSet, contains}
use Rattle.std.specs.List.{AllByRecursion, flat_map, list_any}
use Rattle.std.specs.List.Sorted.{IsStrictlySortedBy}
use Rattle.std.specs.Map.{keys_of, lookup}
use Rattle.std.specs.Option.{is_none, is_some, option_map, option_to_list}
use Rattle.std.specs.Ordering.{nat_cmp}
use Rattle.pulsar_requests.proofs.Awaiting.{is_at-eqb}
use Rattle.pulsar_requests.specs.Soonest.{has_come}
use Rattle.pulsar_wire.specs.Failures.{Fault}
use Rattle.pulsar_addresses.specs.Address.{Place}
use Rattle.pulsar_calls.specs.declared.act.Act.{Act}
use Rattle.pulsar_calls.specs.declared.act.Act.TheVariants.{Comes}
use Rattle.pulsar_calls.specs.declared.act.End.{End}
use Rattle.pulsar_calls.specs.declared.act.End.TheVariants.{Stops}
use Rattle.pulsar_calls.specs.declared.act.LinkAct.TheVariants.{Ends}
use Rattle.pulsar_calls.specs.declared.act.Notice.{Notice}
use Rattle.pulsar_calls.specs.declared.act.Part.TheVariants.{ToLink}
use Rattle.pulsar_links.specs.declared.row.Row.{Row}
use Rattle.pulsar_links.specs.Due.{moment_at}
use Rattle.pulsar_links.specs.Kept.{AreStarted, AreTimed, is_due, links_in, live_in, seat_of}
use Rattle.pulsar_links.specs.Links.{closed_by}
use Rattle.pulsar_links.specs.LinkRules.{due_part, ended_by, ended_on, ended_places, on_link, over_links, stop_act}
use Rattle.pulsar_links.specs.Seats.{Seat, closing}
use Rattle.pulsar_calls.proofs.Places.{by_keys}

is_this : (l link : ℕ) → (l == link) ≡ true → l ≡ link
is_this l link h = grind (arith, nat_tests)

pub still_timed : (link : ℕ) (old new : List (ℕ × ℕ)) (before after : BTreeMap ℕ Row) → AreTimed old before →
    ((now : ℕ) → has_come now (moment_at new link) ≡ is_due now (live_in after link)) →
    ((l : ℕ) → (l == link) ≡ false → moment_at new l ≡ moment_at old l) →
    ((l : ℕ) → (l == link) ≡ false → live_in after l ≡ live_in before l) → AreTimed new after
still_timed link old new before after timed here others same = λ l now. elim (cases_Bool (l == link)) [
  | inl e ↦ (subst (λ k. has_come now (moment_at new k) ≡ is_due now (live_in after k)) (sym (is_this l link e)) (here now))
  | inr e ↦ (ap (has_come now) (others l e) ∙ timed l now ∙ ap (is_due now) (sym (same l e)))
]

pub still_started : (link started : ℕ) (before after : BTreeMap ℕ Row) → AreStarted started before →
    (is_none (live_in before link) ≡ true → is_none (live_in after link) ≡ true) →
    ((l : ℕ) → (l == link) ≡ false → live_in after l ≡ live_in before l) → AreStarted started after
still_started link started before after none here same = λ l from. elim (cases_Bool (l == link)) [
  | inl e ↦ (subst (λ k. is_none (live_in after k) ≡ true) (sym (is_this l link e))
      (here (subst (λ k. is_none (live_in before k) ≡ true) (is_this l link e) (none l from))))
  | inr e ↦ (ap is_none (same l e) ∙ none l from)
]

-- ONE LINK IS LOOKED AT ANEW

elsewhere : {A : Type 0} (b : Bool) (x y z : A) → z ≡ cond b x y → b ≡ false → z ≡ y
elsewhere b x y z h e = h ∙ ap (λ t. cond t x y) e

none_of : (f : Option Seat → Option Seat) (row : Option Seat) → f None ≡ None → is_none row ≡ true → is_none (f row) ≡ true
none_of f None same h = ap is_none same
none_of f (Some seat) same h = absurd (false≢true h)

module _ (f : Option Seat → Option Seat) (link : ℕ) (before after : BTreeMap ℕ Row)
    (change : (l : ℕ) → live_in after l ≡ cond (l == link) (f (live_in before l)) (live_in before l)) where
  others : (l : ℕ) → (l == link) ≡ false → live_in after l ≡ live_in before l
  others l e = elsewhere (l == link) (f (live_in before l)) (live_in before l) (live_in after l) (change l) e

  pub timed_after : (old new : List (ℕ × ℕ)) → AreTimed old before →
      ((now : ℕ) → has_come now (moment_at new link) ≡ is_due now (live_in after link)) → ((l : ℕ) → (l == link) ≡ false → moment_at new l ≡ moment_at old l) →
      AreTimed new after
  timed_after old new timed here elsewhere_same = still_timed link old new before after timed here elsewhere_same others

  pub started_after : (started : ℕ) → f None ≡ None → AreStarted started before → AreStarted started after
  started_after started same fresh = still_started link started before after fresh
      (λ none. ap is_none (change link) ∙ ap (λ b. is_none (cond b (f (live_in before link)) (live_in before link))) (eq-eqb link link refl) ∙ none_of f (live_in before link) same none)
      others

-- WHAT ALL LINKS GIVE

any_key : {X : Type 0} (test : ℕ → Bool) (es : List (ℕ × X)) → list_any test (keys_of es) ≡ is_some (lookup test es)
any_key test [] = refl
any_key test (e ∷ es) = elim (cases_Bool (test e.0)) [ inl y ↦ rw y refl | inr y ↦ rw y (any_key test es) ]

-- one that has not ended was started
is_started : (started l : ℕ) (live : BTreeMap ℕ Row) → AreStarted started live → is_none (live_in live l) ≡ false → l < started
is_started started l live fresh some = elim (cases_lt l started) [
  | inl lt ↦ lt
  | inr le ↦ absurd (false≢true (sym some ∙ fresh l le))
]

not_due : (now l : ℕ) (row : Option Seat) → is_due now row ≡ false → flat_map (due_part now l) (option_to_list row) ≡ []
not_due now l None h = refl
not_due now l (Some seat) h = rw h refl

due_some : (now : ℕ) (row : Option Seat) → is_due now row ≡ true → is_none row ≡ false
due_some now None h = absurd (false≢true h)
due_some now (Some seat) h = refl

-- those that are due
pub all_due : (now started : ℕ) (live : BTreeMap ℕ Row) (found : BTreeSet ℕ) → AreStarted started live → IsStrictlySortedBy nat_cmp found.keys →
    ((l : ℕ) → contains nat_cmp found l ≡ is_due now (live_in live l)) →
    flat_map (on_link (due_part now) (live_in live)) found.keys ≡ over_links (due_part now) (links_in started live)
all_due now started live found fresh sorted are = by_keys (on_link (due_part now) (live_in live)) started found.keys sorted
    (λ l h. is_started started l live fresh (due_some now (live_in live l) (sym (are l) ∙ h)))
    (λ l h. not_due now l (live_in live l) (sym (are l) ∙ h))

row_none : (row : Option Row) → is_some row ≡ false → option_map seat_of row ≡ None
row_none None h = refl
row_none (Some r) h = absurd (false≢true (sym h))

row_some : (row : Option Row) → is_some row ≡ true → is_none (option_map seat_of row) ≡ false
row_some None h = absurd (false≢true h)
row_some (Some r) h = refl

-- all that have not ended
pub all_live : {A : Type 0} (f : ℕ → Seat → List A) (started : ℕ) (live : BTreeMap ℕ Row) → AreStarted started live → IsOrdered nat_cmp live →
    flat_map (on_link f (live_in live)) (keys live) ≡ over_links f (links_in started live)
all_live f started live fresh sorted = by_keys (on_link f (live_in live)) started (keys live) sorted
    (λ l h. is_started started l live fresh (row_some (get nat_cmp live l) (sym (any_key (is_at (nat_cmp l)) live.entries) ∙ h)))
    (λ l h. ap (λ row. flat_map (f l) (option_to_list row)) (row_none (get nat_cmp live l) (sym (any_key (is_at (nat_cmp l)) live.entries) ∙ h)))

-- each of them gives one end
abbrev pub stops_it : ℕ × Row → Act
stops_it e = Comes (ToLink e.0 (Ends Stops))

stop_each : (live : BTreeMap ℕ Row) (es : List (ℕ × Row)) → AllByRecursion (λ e. get nat_cmp live e.0 ≡ Some e.1) es →
    map stops_it es ≡ flat_map (on_link stop_act (live_in live)) (keys_of es)
stop_each live [] h = refl
stop_each live (e ∷ es) h =
    ap (λ xs. stops_it e ∷ xs) (stop_each live es h.1)
    ∙ sym (ap (λ row. flat_map (stop_act e.0) (option_to_list (option_map seat_of row)) ++ flat_map (on_link stop_act (live_in live)) (keys_of es)) h.0)

pub stop_all : (live : BTreeMap ℕ Row) → IsOrdered nat_cmp live → map stops_it live.entries ≡ flat_map (on_link stop_act (live_in live)) (keys live)
stop_all live sorted = stop_each live live.entries (recursion_from_All (λ e. get nat_cmp live e.0 ≡ Some e.1) live.entries (All-found nat_cmp_total live sorted))

-- ONE THAT ENDS

pub stays_at : (l link : ℕ) (f : Option Seat → Option Seat) (live : ℕ → Option Seat) → f (live link) ≡ live link → live l ≡ cond (l == link) (f (live l)) (live l)
stays_at l link f live same = elim (cases_Bool (l == link)) [
  | inl e ↦ rw e (sym (subst (λ k. f (live k) ≡ live k) (sym (is_this l link e)) same))
  | inr e ↦ rw e refl
]

-- ONE IS PUT THERE, OR TAKEN AWAY

at_link : (l link : ℕ) (b : Bool) → (l == link) ≡ b → is_at (nat_cmp link) l ≡ b
at_link l link b h = is_at-eqb link l ∙ swapped l link b h
  where
    swapped : (a c : ℕ) (t : Bool) → (a == c) ≡ t → (c == a) ≡ t
    swapped a c true e = grind (arith, nat_tests)
    swapped a c false e = grind (arith, nat_tests)

seats_by : (l link : ℕ) (b : Bool) (w old new : Option Row) → (l == link) ≡ b → new ≡ cond (is_at (nat_cmp link) l) w old →
    option_map seat_of new ≡ cond (l == link) (option_map seat_of w) (option_map seat_of old)
seats_by l link true w old new h is =
    ap (option_map seat_of) (is ∙ ap (λ t. cond t w old) (at_link l link true h)) ∙ sym (ap (λ t. cond t (option_map seat_of w) (option_map seat_of old)) h)
seats_by l link false w old new h is =
    ap (option_map seat_of) (is ∙ ap (λ t. cond t w old) (at_link l link false h)) ∙ sym (ap (λ t. cond t (option_map seat_of w) (option_map seat_of old)) h)

pub seats : (l link : ℕ) (w old new : Option Row) → new ≡ cond (is_at (nat_cmp link) l) w old →
    option_map seat_of new ≡ cond (l == link) (option_map seat_of w) (option_map seat_of old)
seats l link w old new is = seats_by l link (l == link) w old new refl is

-- the seat of one link is changed
pub changed : (l link : ℕ) (f : Option Seat → Option Seat) (before : ℕ → Option Seat) (w : Option Seat) (now : Option Seat) →
    now ≡ cond (l == link) w (before l) → w ≡ f (before link) → now ≡ cond (l == link) (f (before l)) (before l)
changed l link f before w now is same = elim (cases_Bool (l == link)) [
  | inl e ↦ (is ∙ ap (λ t. cond t w (before l)) e ∙ same ∙ ap (λ k. f (before k)) (sym (is_this l link e)) ∙ sym (ap (λ t. cond t (f (before l)) (before l)) e))
  | inr e ↦ (is ∙ ap (λ t. cond t w (before l)) e ∙ sym (ap (λ t. cond t (f (before l)) (before l)) e))
]

-- what an end gives
module _ (end : End) (now : ℕ) (row : Row) (there : Option Row) (address : Place) (notices : List Notice) (found : Some row ≡ there)
    (is_its : address ≡ row.address) (are : notices ≡ ended_places end now row.connection (get nat_cmp row.askers)) where
  ends_by : (o : Option Fault) → closed_by end now row.connection ≡ o → is_some o ≡ true →
      (x : Fault) × (closing end now (option_map seat_of there) ≡ Some x) × (option_map (λ seat. seat.address) (option_map seat_of there) ≡ Some address)
      × (notices ≡ ended_on end now (option_map seat_of there))
  ends_by None e h = absurd (false≢true h)
  ends_by (Some x) e h = (
    x,
    ap (λ r. closing end now (option_map seat_of r)) (sym found) ∙ e,
    ap (λ r. option_map (λ seat. seat.address) (option_map seat_of r)) (sym found) ∙ sym (ap Some is_its),
    are ∙ sym (ap (λ o. ended_by end now o (seat_of row)) e) ∙ ap (λ r. ended_on end now (option_map seat_of r)) found,
  )

  pub ends_so : is_some (closed_by end now row.connection) ≡ true →
      (x : Fault) × (closing end now (option_map seat_of there) ≡ Some x) × (option_map (λ seat. seat.address) (option_map seat_of there) ≡ Some address)
      × (notices ≡ ended_on end now (option_map seat_of there))
  ends_so h = ends_by (closed_by end now row.connection) refl h

-- what is seen of a link, part by part
pub seat_is : (r : Row) (s : Seat) → r.address ≡ s.address → r.connection ≡ s.seen → ((place : ℕ) → get nat_cmp r.askers place ≡ s.askers place) →
    r.got ≡ s.got → r.ping ≡ s.ping → seat_of r ≡ s
seat_is r s address seen askers got ping =
    λ i. record { address = address i; seen = seen i; askers = λ place. askers place i; got = got i; ping = ping i }
