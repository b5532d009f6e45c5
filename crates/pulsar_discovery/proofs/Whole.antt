-- What follows of every history of a manager, of what holds of each connection and of the two tables.
use Rattle.std.proofs.Common.{◌≡◌, ◌∙◌, sym, ap, subst, refl, ℕ, Bool, true, false, IsTrue, List, [], ◌∷◌, ◌⊎◌, inl, inr, Option, Some, None, if◌then◌else◌, arith}
use Rattle.std.proofs.Math.Path.{fun_ext}
use Rattle.std.specs.Option.{option_map}
use Rattle.pulsar_session.specs.Link as session
use Rattle.pulsar_wire.specs.Failures.{NotFound}
use Rattle.pulsar_session.specs.declared.states.Stage.{Stage}
use Rattle.pulsar_session.specs.declared.states.Stage.TheVariants as stages
use Rattle.pulsar_session.specs.declared.states.Stage.TheVariants.{Dialing, Handshaking, Over}
use Rattle.pulsar_addresses.specs.Address.{Place, address_key, is_reachable}
use Rattle.pulsar_discovery.specs.declared.addresses.Phase.{Phase}
use Rattle.pulsar_discovery.specs.declared.addresses.Phase.TheVariants.{Runs, Pauses, Serves}
use Rattle.pulsar_discovery.specs.declared.addresses.Seat.{Seat}
use Rattle.pulsar_discovery.specs.declared.manager.Seen.{Seen}
use Rattle.pulsar_discovery.specs.declared.manager.Terms.{Terms}
use Rattle.pulsar_discovery.specs.declared.manager.Seen.TheVariants as seen
use Rattle.pulsar_discovery.specs.Manager.{GotReady, GotRefused, GotStarted, GotWaiting, Is, Known, fresh, gets, got_by, is_pause, is_pausing, looks, seen_at, seen_by, seen_running}
use Rattle.pulsar_discovery.specs.Series.{IsSeries, Series, standing, standing_at}
use Rattle.pulsar_discovery.specs.History.{Event, IsHistory, IsLive, IsOver, IsRetried, address_of, after, known_after, retries_made, told_of}
use Rattle.pulsar_discovery.specs.Laws.{ChangesAreToldOnce, GotIsReady, HistoryGoesOn, IsCourse, IsFor, NothingIsKept, OneAtATime, ReadyIsGot, RetriesHaveAMost, RunningIsWaitedFor, SeenByHistory, StartsWhereNoneIs}
use Rattle.pulsar_discovery.proofs.Greeted.{IsGreeted}
use Rattle.pulsar_discovery.proofs.Sound.{Fits, Holds, Tries, sound, stands}

-- two that are known alike are one
one_series : (a b : Series) → IsSeries a b → a ≡ b
one_series a b is = ap (λ f. record { link_of = f; seat = a.seat }) (fun_ext is.link_of) ∙ ap (λ f. record { link_of = b.link_of; seat = f }) (fun_ext is.seat)

one_known : (a b : Known) → Is a b → a ≡ b
one_known a b is =
    ap (λ t. record { terms = t; links = a.links; series = a.series; connection = a.connection }) is.terms
    ∙ ap (λ n. record { terms = b.terms; links = n; series = a.series; connection = a.connection }) is.links
    ∙ ap (λ s. record { terms = b.terms; links = b.links; series = s; connection = a.connection }) (one_series a.series b.series is.series)
    ∙ ap (λ f. record { terms = b.terms; links = b.links; series = b.series; connection = f }) (fun_ext is.connection)

is_itself : (k : Known) → Is k k
is_itself k = record { terms = refl; links = refl; series = record { link_of = λ key. refl; seat = λ l. refl }; connection = λ l. refl }

pub history_goes_on : HistoryGoesOn
history_goes_on = (λ t. is_itself (fresh t), λ t h e old new follows is. subst (λ k. Is new (after e k)) (one_known old (known_after t h) follows) is)

-- WHAT WAS TOLD

over_course : (ms : List Seen) → IsOver ms → IsCourse ms
over_course (seen.Ready ∷ seen.Ended ∷ []) h = tt
over_course (seen.Retry delay ∷ []) h = tt
over_course (seen.Failed ∷ []) h = tt
over_course _ h = absurd h

retried_course : (ms : List Seen) → IsRetried ms → IsCourse ms
retried_course (seen.Retry delay ∷ []) h = tt
retried_course _ h = absurd h

held_course : (phase : Phase) (c : Option session.Seen) (ms : List Seen) → Holds phase c ms → IsCourse ms
held_course (Runs r) None ms h = absurd h
held_course (Runs r) (Some c) ms h = subst IsCourse (sym h) tt
held_course (Pauses r) None ms h = retried_course ms h
held_course (Pauses r) (Some c) ms h = absurd h
held_course (Serves since) None ms h = absurd h
held_course (Serves since) (Some c) ms h = subst IsCourse (sym h.0) tt

course : (s : Option Seat) (c : Option session.Seen) (b : Option Place) (ms : List Seen) → Fits s c b ms → IsCourse ms
course None None None ms h = subst IsCourse (sym h) tt
course None None (Some p) ms h = over_course ms h
course None (Some c) b ms h = absurd h
course (Some s) c None ms h = absurd h
course (Some s) c (Some p) ms h = held_course s.phase c ms h.1

pub changes_are_told_once : ChangesAreToldOnce
changes_are_told_once t h ok l = course _ _ _ (told_of t l h) ((sound t h ok).fits l)

pub retries_have_a_most : RetriesHaveAMost
retries_have_a_most t h ok l = (sound t h ok).most l

-- CONNECTIONS THAT ARE OPEN

not_both : (ms : List Seen) → IsOver ms → IsLive ms → ⊥
not_both [] h g = h
not_both (seen.Ready ∷ []) h g = h
not_both (seen.Ready ∷ m ∷ ms) h g = g
not_both (seen.Same ∷ ms) h g = g
not_both (seen.Retry delay ∷ ms) h g = g
not_both (seen.Failed ∷ ms) h g = g
not_both (seen.Ended ∷ ms) h g = g

-- the seat of a connection that is open
seat_of_open : (p : Place) (s : Option Seat) (c : Option session.Seen) (b : Option Place) (ms : List Seen) → Fits s c b ms → IsFor p b → IsLive ms ⊎ IsTrue (is_pausing s) →
    (y : Seat) × (s ≡ Some y) × (address_key y.address ≡ address_key p)
seat_of_open p (Some y) c (Some q) ms h f o = (y, refl, sym h.0 ∙ f)
seat_of_open p (Some y) c None ms h f o = absurd f
seat_of_open p None c None ms h f o = absurd f
seat_of_open p None (Some c) (Some q) ms h f o = absurd h
seat_of_open p None None (Some q) ms h f (inl live) = absurd (not_both ms h live)
seat_of_open p None None (Some q) ms h f (inr paused) = absurd cc

pub one_at_a_time : OneAtATime
one_at_a_time t h ok p l m mine his open_l open_m =
    let x = sound t h ok in
    let k = known_after t h in
    let a = seat_of_open p (k.series.seat l) (k.connection l) (address_of t l h) (told_of t l h) (x.fits l) mine open_l in
    let b = seat_of_open p (k.series.seat m) (k.connection m) (address_of t m h) (told_of t m h) (x.fits m) his open_m in
    let one : k.series.link_of (address_key p) ≡ Some l = subst (λ key. k.series.link_of key ≡ Some l) a.2 (x.books.linked l a.0 a.1) in
    let two : k.series.link_of (address_key p) ≡ Some m = subst (λ key. k.series.link_of key ≡ Some m) b.2 (x.books.linked m b.0 b.1) in
    cc

-- where a series stands, from its seat
standing_is : (t : Terms) (h : List Event) (ok : IsHistory t h) (p : Place) (l : ℕ) (y : Seat) → (known_after t h).series.seat l ≡ Some y → address_key y.address ≡ address_key p →
    standing p (known_after t h).series ≡ Some (l, y.phase)
standing_is t h ok p l y e key =
    let k = known_after t h in
    let one : k.series.link_of (address_key p) ≡ Some l = subst (λ key. k.series.link_of key ≡ Some l) key ((sound t h ok).books.linked l y e) in
    ap (λ o. standing_at o k.series.seat) one ∙ ap (option_map (λ s. (l, s.phase))) e

got_at : (p : Place) (k : Known) (st : Option (ℕ × Phase)) → is_reachable p ≡ true → standing p k.series ≡ st → gets p k ≡ got_by st k.links
got_at p k st can is = ap (λ b. if b then got_by (standing p k.series) k.links else GotRefused NotFound) can ∙ ap (λ s. got_by s k.links) is

-- WHAT IS GOT

abbrev IsAt : Option (ℕ × Phase) → Option (ℕ × Phase) → Type 0
IsAt a b = a ≡ b

ready_stands : (b : Bool) (st : Option (ℕ × Phase)) (n l : ℕ) → (if b then got_by st n else GotRefused NotFound) ≡ GotReady l → (since : ℕ) × IsAt st (Some (l, Serves since))
ready_stands false st n l e = absurd cc
ready_stands true None n l e = absurd cc
ready_stands true (Some (m, Runs r)) n l e = absurd cc
ready_stands true (Some (m, Pauses r)) n l e = absurd cc
ready_stands true (Some (m, Serves since)) n l e = let is : m ≡ l = cc in (since, ap (λ i. Some (i, Serves since)) is)

started_stands : (b : Bool) (st : Option (ℕ × Phase)) (n l : ℕ) → (if b then got_by st n else GotRefused NotFound) ≡ GotStarted l → IsAt st None × (n ≡ l)
started_stands false st n l e = absurd cc
started_stands true None n l e = (refl, cc)
started_stands true (Some (m, Runs r)) n l e = absurd cc
started_stands true (Some (m, Pauses r)) n l e = absurd cc
started_stands true (Some (m, Serves since)) n l e = absurd cc

abbrev IsPending : Phase → Type 0
IsPending (Runs r) = Unit {0}
IsPending (Pauses r) = Unit {0}
IsPending (Serves since) = ⊥

waiting_stands : (b : Bool) (st : Option (ℕ × Phase)) (n : ℕ) → (if b then got_by st n else GotRefused NotFound) ≡ GotWaiting → (l : ℕ) × (phase : Phase) × IsAt st (Some (l, phase)) × IsPending phase
waiting_stands false st n e = absurd cc
waiting_stands true None n e = absurd cc
waiting_stands true (Some (m, Runs r)) n e = (m, Runs r, refl, tt)
waiting_stands true (Some (m, Pauses r)) n e = (m, Pauses r, refl, tt)
waiting_stands true (Some (m, Serves since)) n e = absurd cc

-- what holds of a seat
held : (s : Option Seat) (c : Option session.Seen) (b : Option Place) (ms : List Seen) (y : Seat) → Fits s c b ms → s ≡ Some y → (p : Place) → address_key y.address ≡ address_key p → IsFor p b × Holds y.phase c ms
held None c b ms y h e p key = absurd cc
held (Some s) c None ms y h e p key = absurd h
held (Some s) c (Some q) ms y h e p key = let is : s ≡ y = cc in (h.0 ∙ ap (λ z. address_key z.address) is ∙ key, subst (λ z. Holds z.phase c ms) is h.1)

ready_phase : (phase : Phase) (c : Option session.Seen) (ms : List Seen) → Holds phase c ms → ms ≡ seen.Ready ∷ [] → (since : ℕ) × (phase ≡ Serves since)
ready_phase (Runs r) None ms h e = absurd h
ready_phase (Runs r) (Some c) ms h e = absurd cc
ready_phase (Pauses r) None ms h e = absurd (subst IsRetried e h)
ready_phase (Pauses r) (Some c) ms h e = absurd h
ready_phase (Serves since) c ms h e = (since, refl)

running_phase : (phase : Phase) (c : Option session.Seen) (ms : List Seen) → Holds phase c ms → ms ≡ [] → (r : ℕ) × (phase ≡ Runs r)
running_phase (Runs r) c ms h e = (r, refl)
running_phase (Pauses r) None ms h e = absurd (subst IsRetried e h)
running_phase (Pauses r) (Some c) ms h e = absurd h
running_phase (Serves since) None ms h e = absurd h
running_phase (Serves since) (Some c) ms h e = absurd (let told = h.0 in cc)

served_told : (since : ℕ) (phase : Phase) (c : Option session.Seen) (ms : List Seen) → phase ≡ Serves since → Holds phase c ms → (ms ≡ seen.Ready ∷ []) × ((d : session.Seen) × (c ≡ Some d) × IsGreeted d.stage)
served_told since (Runs r) c ms e h = absurd cc
served_told since (Pauses r) c ms e h = absurd cc
served_told since (Serves n) None ms e h = absurd h
served_told since (Serves n) (Some d) ms e h = (h.0, (d, refl, h.1))

pub ready_is_got : ReadyIsGot
ready_is_got t h ok p l can = (there, back)
  where
    k : Known
    k = known_after t h

    there : IsFor p (address_of t l h) → told_of t l h ≡ seen.Ready ∷ [] → gets p k ≡ GotReady l
    there mine told =
        let y = seat_of_open p (k.series.seat l) (k.connection l) (address_of t l h) (told_of t l h) ((sound t h ok).fits l) mine (inl (subst IsLive (sym told) tt)) in
        let z = held (k.series.seat l) (k.connection l) (address_of t l h) (told_of t l h) y.0 ((sound t h ok).fits l) y.1 p y.2 in
        let serves = ready_phase y.0.phase (k.connection l) (told_of t l h) z.1 told in
        got_at p k (Some (l, y.0.phase)) can (standing_is t h ok p l y.0 y.1 y.2) ∙ ap (λ phase. got_by (Some (l, phase)) k.links) serves.1

    back : gets p k ≡ GotReady l → IsFor p (address_of t l h) × (told_of t l h ≡ seen.Ready ∷ [])
    back e =
        let st = ready_stands (is_reachable p) (standing p k.series) k.links l e in
        let y = stands t k (λ l. address_of t l h) (λ l. told_of t l h) (retries_made t h) (sound t h ok) p l (Serves st.0) st.1 in
        let z = held (k.series.seat l) (k.connection l) (address_of t l h) (told_of t l h) y.0 ((sound t h ok).fits l) y.1 p (sym y.3) in
        (z.0, (served_told st.0 y.0.phase (k.connection l) (told_of t l h) y.2 z.1).0)

pub got_is_ready : GotIsReady
got_is_ready t h ok p l e looked =
    let k = known_after t h in
    let st = ready_stands (is_reachable p) (standing p k.series) k.links l e in
    let y = stands t k (λ l. address_of t l h) (λ l. told_of t l h) (retries_made t h) (sound t h ok) p l (Serves st.0) st.1 in
    let z = held (k.series.seat l) (k.connection l) (address_of t l h) (told_of t l h) y.0 ((sound t h ok).fits l) y.1 p (sym y.3) in
    let d = (served_told st.0 y.0.phase (k.connection l) (told_of t l h) y.2 z.1).1 in
    let same : seen_at k.terms l (k.series.seat l) (k.connection l) ≡ (if session.is_over d.0.stage then seen.Ended else seen.Same) =
    ap (λ s. seen_at k.terms l s (k.connection l)) y.1 ∙ ap (seen_at k.terms l (Some y.0)) d.1 ∙ ap (λ phase. seen_by k.terms l phase d.0) y.2 in
    (d.0, d.1, by d.0.stage d.2 (sym same ∙ looked))
  where
    by : (stage : Stage) → IsGreeted stage → (if session.is_over stage then seen.Ended else seen.Same) ≡ seen.Same → stage ≡ stages.Ready
    by Dialing g e = absurd g
    by Handshaking g e = absurd g
    by stages.Ready g e = refl
    by Over g e = absurd cc

pub running_is_waited_for : RunningIsWaitedFor
running_is_waited_for t h ok p can = (there, back)
  where
    k : Known
    k = known_after t h

    pauses : (s : Option Seat) (y : Seat) → s ≡ Some y → IsTrue (is_pausing s) → (r : ℕ) × (y.phase ≡ Pauses r)
    pauses None y e g = absurd cc
    pauses (Some s) y e g = let is : s ≡ y = cc in by y.phase (subst (λ z. IsTrue (is_pause z.phase)) is g)
      where
        by : (phase : Phase) → IsTrue (is_pause phase) → (r : ℕ) × (phase ≡ Pauses r)
        by (Runs r) g = absurd cc
        by (Pauses r) g = (r, refl)
        by (Serves since) g = absurd cc

    open_of : (l : ℕ) → (told_of t l h ≡ []) ⊎ IsTrue (is_pausing (k.series.seat l)) → IsLive (told_of t l h) ⊎ IsTrue (is_pausing (k.series.seat l))
    open_of l (inl told) = inl (subst IsLive (sym told) tt)
    open_of l (inr paused) = inr paused

    waits : (l : ℕ) (y : Seat) → k.series.seat l ≡ Some y → Holds y.phase (k.connection l) (told_of t l h) → (told_of t l h ≡ []) ⊎ IsTrue (is_pausing (k.series.seat l)) → got_by (Some (l, y.phase)) k.links ≡ GotWaiting
    waits l y e g (inl told) = let r = running_phase y.phase (k.connection l) (told_of t l h) g told in ap (λ phase. got_by (Some (l, phase)) k.links) r.1
    waits l y e g (inr paused) = let r = pauses (k.series.seat l) y e paused in ap (λ phase. got_by (Some (l, phase)) k.links) r.1

    there : (l : ℕ) → IsFor p (address_of t l h) → (told_of t l h ≡ []) ⊎ IsTrue (is_pausing (k.series.seat l)) → gets p k ≡ GotWaiting
    there l mine o =
        let y = seat_of_open p (k.series.seat l) (k.connection l) (address_of t l h) (told_of t l h) ((sound t h ok).fits l) mine (open_of l o) in
        let z = held (k.series.seat l) (k.connection l) (address_of t l h) (told_of t l h) y.0 ((sound t h ok).fits l) y.1 p y.2 in
        got_at p k (Some (l, y.0.phase)) can (standing_is t h ok p l y.0 y.1 y.2) ∙ waits l y.0 y.1 z.1 o

    pending : (l : ℕ) (s : Option Seat) (y : Seat) (phase : Phase) (c : Option session.Seen) (ms : List Seen) → s ≡ Some y → y.phase ≡ phase → IsPending phase → Holds phase c ms → (ms ≡ []) ⊎ IsTrue (is_pausing s)
    pending l s y (Runs r) None ms e f g held = absurd held
    pending l s y (Runs r) (Some c) ms e f g held = inl held
    pending l s y (Pauses r) c ms e f g held = inr (subst (λ z. IsTrue (is_pausing z)) (sym e) (subst (λ z. IsTrue (is_pause z)) (sym f) refl))
    pending l s y (Serves since) c ms e f g held = absurd g

    back : gets p k ≡ GotWaiting → (l : ℕ) × IsFor p (address_of t l h) × ((told_of t l h ≡ []) ⊎ IsTrue (is_pausing (k.series.seat l)))
    back e =
        let st = waiting_stands (is_reachable p) (standing p k.series) k.links e in
        let y = stands t k (λ l. address_of t l h) (λ l. told_of t l h) (retries_made t h) (sound t h ok) p st.0 st.1 st.2 in
        let z = held (k.series.seat st.0) (k.connection st.0) (address_of t st.0 h) (told_of t st.0 h) y.0 ((sound t h ok).fits st.0) y.1 p (sym y.3) in
        (st.0, z.0, pending st.0 (k.series.seat st.0) y.0 st.1 (k.connection st.0) (told_of t st.0 h) y.1 y.2 st.3 (subst (λ phase. Holds phase (k.connection st.0) (told_of t st.0 h)) y.2 z.1))

over_of : (p : Place) (s : Option Seat) (c : Option session.Seen) (b : Option Place) (ms : List Seen) → Fits s c b ms → IsFor p b → ((y : Seat) → s ≡ Some y → address_key y.address ≡ address_key p → ⊥) → IsOver ms
over_of p None None None ms h f none = absurd f
over_of p None None (Some q) ms h f none = h
over_of p None (Some c) b ms h f none = absurd h
over_of p (Some s) c None ms h f none = absurd h
over_of p (Some s) c (Some q) ms h f none = absurd (none s refl (sym h.0 ∙ f))

pub starts_where_none_is : StartsWhereNoneIs
starts_where_none_is t h ok p l e =
    let k = known_after t h in
    let x = sound t h ok in
    let st = started_stands (is_reachable p) (standing p k.series) k.links l e in
    let new = st.1 in
    ((x.unused l (omega (arith, new))).0, λ m f. over_of p (k.series.seat m) (k.connection m) (address_of t m h) (told_of t m h) (x.fits m) f (λ y here key. stood m y (standing_is t h ok p m y here key) st.0))
  where
    stood : (m : ℕ) (y : Seat) → IsAt (standing p (known_after t h).series) (Some (m, y.phase)) → IsAt (standing p (known_after t h).series) None → ⊥
    stood m y a b = let both : IsAt (Some (m, y.phase)) None = sym a ∙ b in absurd cc

-- WHAT IS SEEN

seat_there : (s : Option Seat) (c : session.Seen) (d : Option session.Seen) (b : Option Place) (ms : List Seen) → d ≡ Some c → Fits s d b ms → (y : Seat) × (s ≡ Some y) × Holds y.phase (Some c) ms
seat_there None c None b ms e h = absurd cc
seat_there None c (Some d) b ms e h = absurd h
seat_there (Some s) c d None ms e h = absurd h
seat_there (Some s) c d (Some p) ms e h = (s, refl, subst (λ z. Holds s.phase z ms) e h.1)

pub seen_by_history : SeenByHistory
seen_by_history t h ok l c here = (running, ready)
  where
    k : Known
    k = known_after t h

    y : (y : Seat) × (k.series.seat l ≡ Some y) × Holds y.phase (Some c) (told_of t l h)
    y = seat_there (k.series.seat l) c (k.connection l) (address_of t l h) (told_of t l h) here ((sound t h ok).fits l)

    seen_so : (phase : Phase) → y.0.phase ≡ phase → looks l k ≡ seen_by k.terms l phase c
    seen_so phase e = ap (λ s. seen_at k.terms l s (k.connection l)) y.1 ∙ ap (seen_at k.terms l (Some y.0)) here ∙ ap (λ phase. seen_by k.terms l phase c) e

    running : told_of t l h ≡ [] → looks l k ≡ seen_running t l (retries_made t h l) c.stage c.error
    running told =
        let r = running_phase y.0.phase (Some c) (told_of t l h) y.2 told in
        let n : r.0 ≡ retries_made t h l = (subst (λ phase. Tries t.connection.max_retries (retries_made t h l) phase) r.1 ((sound t h ok).tries l y.0 y.1)).0 in
        seen_so (Runs r.0) r.1 ∙ ap (λ u. seen_running u l r.0 c.stage c.error) (sound t h ok).terms ∙ ap (λ i. seen_running t l i c.stage c.error) n

    ready : told_of t l h ≡ seen.Ready ∷ [] → looks l k ≡ (if session.is_over c.stage then seen.Ended else seen.Same)
    ready told = let since = ready_phase y.0.phase (Some c) (told_of t l h) y.2 told in seen_so (Serves since.0) since.1

held_over : (phase : Phase) (c : Option session.Seen) (ms : List Seen) → Holds phase c ms → IsOver ms → c ≡ None
held_over (Runs r) None ms h o = refl
held_over (Runs r) (Some c) ms h o = absurd (subst IsOver h o)
held_over (Pauses r) None ms h o = refl
held_over (Pauses r) (Some c) ms h o = absurd h
held_over (Serves since) None ms h o = refl
held_over (Serves since) (Some c) ms h o = absurd (subst IsOver h.0 o)

kept_over : (s : Option Seat) (c : Option session.Seen) (b : Option Place) (ms : List Seen) → Fits s c b ms → IsOver ms → c ≡ None
kept_over None None b ms h o = refl
kept_over None (Some c) b ms h o = absurd h
kept_over (Some s) c None ms h o = absurd h
kept_over (Some s) c (Some p) ms h o = held_over s.phase c ms h.1 o

nothing_seen : (t : Terms) (l : ℕ) (s : Option Seat) → seen_at t l s None ≡ seen.Same
nothing_seen t l None = refl
nothing_seen t l (Some s) = refl

pub nothing_is_kept : NothingIsKept
nothing_is_kept t h ok l over =
    let k = known_after t h in
    let gone = kept_over (k.series.seat l) (k.connection l) (address_of t l h) (told_of t l h) ((sound t h ok).fits l) over in
    (gone, ap (seen_at k.terms l (k.series.seat l)) gone ∙ nothing_seen k.terms l (k.series.seat l))
