-- What holds of a manager after every history: of each connection, its seat, what is seen of it, its address, what was told of it, and
-- the retries that were made.
use Rattle.std.proofs.Common.{◌≡◌, ◌∙◌, sym, ap, subst, refl, ℕ, ◌+◌, ◌^◌, ◌<◌, ◌≤◌, nat_lt, Bool, true, false, ◌&&◌, IsTrue, List, [], ◌∷◌, ◌++◌, inl, inr, Option, Some, None, ◌==◌, if◌then◌else◌, append-nil, arith}
use Rattle.std.proofs.lemmas.Bool.Decides.{nat_tests}
use Rattle.std.proofs.Math.Path.{fun_ext}
use Rattle.std.specs.Option.{option_map}
use Rattle.pulsar_session.specs.Link as session
use Rattle.pulsar_session.specs.Series.{is_retryable}
use Rattle.pulsar_wire.specs.Failures.{NotFound}
use Rattle.pulsar_session.specs.declared.states.Stage.{Stage}
use Rattle.pulsar_session.specs.declared.states.Stage.TheVariants as stages
use Rattle.pulsar_session.specs.declared.states.Stage.TheVariants.{Dialing, Handshaking, Over}
use Rattle.pulsar_addresses.specs.Address.{Place, address_key, is_reachable}
use Rattle.pulsar_addresses.specs.Backoff.{one_more}
use Rattle.pulsar_discovery.specs.declared.addresses.Phase.{Phase}
use Rattle.pulsar_discovery.specs.declared.addresses.Phase.TheVariants.{Runs, Pauses, Serves}
use Rattle.pulsar_discovery.specs.declared.addresses.Seat.{Seat}
use Rattle.pulsar_discovery.specs.declared.manager.Seen.{Seen}
use Rattle.pulsar_discovery.specs.declared.manager.Terms.{Terms}
use Rattle.pulsar_discovery.specs.declared.manager.Seen.TheVariants as seen
use Rattle.pulsar_discovery.specs.Manager.{Known, GotRefused, GotStarted, after_again_at, after_got, after_seen, fresh, got_by, is_pausing, is_over, is_pause, left_of, phase_after, retries_of, seen_at, seen_running, setup, starts}
use Rattle.pulsar_discovery.specs.Series.{in_phase, put_at, reseated, seat_of, standing, standing_at, without}
use Rattle.pulsar_discovery.specs.History.{Event, Wants, Does, Looks, Retries, IsHistory, IsOver, IsRetried, address_of, address_or, after, after_done, change, got_started, known_after, retries_made, told_of}
use Rattle.pulsar_discovery.proofs.Books.{Books, empty, first, freed, moved, next, seat_is}
use Rattle.pulsar_discovery.proofs.Greeted.{IsGreeted, greeted_stays}
use Rattle.pulsar_discovery.proofs.Cases.{apart, at, left_at, nothing_more, off, reseated_at, reseated_off, same, seat_left, which}

abbrev pub Holds : Phase → Option session.Seen → List Seen → Type 0
Holds (Runs r) None ms = ⊥
Holds (Runs r) (Some c) ms = ms ≡ []
Holds (Pauses r) None ms = IsRetried ms
Holds (Pauses r) (Some c) ms = ⊥
Holds (Serves since) None ms = ⊥
Holds (Serves since) (Some c) ms = (ms ≡ seen.Ready ∷ []) × IsGreeted c.stage

abbrev pub Fits : Option Seat → Option session.Seen → Option Place → List Seen → Type 0
Fits None (Some c) a ms = ⊥
Fits None None None ms = ms ≡ []
Fits None None (Some p) ms = IsOver ms
Fits (Some s) c None ms = ⊥
Fits (Some s) c (Some p) ms = (address_key p ≡ address_key s.address) × Holds s.phase c ms

abbrev pub Tries : (most n : ℕ) → Phase → Type 0
Tries most n (Runs r) = (r ≡ n) × (r ≤ most)
Tries most n (Pauses r) = (r ≡ n) × (r < most)
Tries most n (Serves since) = Unit {0}

pub record Sound (t : Terms) (k : Known) (a : ℕ → Option Place) (ms : ℕ → List Seen) (rs : ℕ → ℕ) : Type 0 where
  pub terms : k.terms ≡ t
  pub books : Books k.links k.series
  pub fits : (l : ℕ) → Fits (k.series.seat l) (k.connection l) (a l) (ms l)
  pub unused : (l : ℕ) → k.links ≤ l → (a l ≡ None) × (rs l ≡ 0)
  pub tries : (l : ℕ) (s : Seat) → k.series.seat l ≡ Some s → Tries t.connection.max_retries (rs l) s.phase
  pub most : (l : ℕ) → rs l ≤ t.connection.max_retries

fits_too : (s z : Option Seat) (c d : Option session.Seen) (a b : Option Place) (ms ns : List Seen) → z ≡ s → d ≡ c → b ≡ a → ns ≡ ms → Fits s c a ms → Fits z d b ns
fits_too s z c d a b ms ns e f g h x =
    subst (λ y. Fits y d b ns) (sym e) (subst (λ y. Fits s y b ns) (sym f) (subst (λ y. Fits s c y ns) (sym g) (subst (λ y. Fits s c a y) (sym h) x)))

pub begins : (t : Terms) → Sound t (fresh t) (λ l. None) (λ l. []) (λ l. 0)
begins t =
    record {
      terms = refl;
      books = empty;
      fits = λ l. refl;
      unused = λ l e. (refl, refl);
      tries = λ l s e. absurd cc;
      most = λ l. omega arith;
    }

-- a retry more, below the most
counts : (r n most : ℕ) → most < 2 ^ 32 → r ≡ n → r < most → (one_more r ≡ n + 1) × (one_more r ≤ most)
counts r n most small is less = (grind (arith, small, is, less), grind (arith, small, less))

-- what fits a connection behind a change, by what it was and what is told
abbrev After : Terms → (l now : ℕ) → Seat → Option session.Seen → Option Place → List Seen → Seen → Type 0
After u l now s c b ns what = Fits (seat_left s.address (phase_after now s.phase what)) (if is_over what then None else c) b (ns ++ change what)

look_fits : (u : Terms) (l now : ℕ) (s : Seat) (c : Option session.Seen) (b : Option Place) (ns : List Seen) → Fits (Some s) c b ns → After u l now s c b ns (seen_at u l (Some s) c)
look_fits u l now s c None ns h = absurd h
look_fits u l now s c (Some p) ns h = by s.phase refl c h.1
  where
    failed : (r : ℕ) (d : session.Seen) (delay : ℕ) (b : Bool) → s.phase ≡ Runs r → ns ≡ [] → After u l now s (Some d) (Some p) ns (if b then seen.Retry delay else seen.Failed)
    failed r d delay true e none = (h.0, subst (λ ms. IsRetried (ms ++ seen.Retry delay ∷ [])) (sym none) tt)
    failed r d delay false e none = subst (λ ms. IsOver (ms ++ seen.Failed ∷ [])) (sym none) tt

    ran : (r : ℕ) (d : session.Seen) (stage : Stage) → s.phase ≡ Runs r → d.stage ≡ stage → ns ≡ [] → After u l now s (Some d) (Some p) ns (seen_running u l r stage d.error)
    ran r d Dialing e f none = (h.0, subst (λ y. Holds y (Some d) (ns ++ [])) (sym e) (ap (λ ms. ms ++ []) none))
    ran r d Handshaking e f none = (h.0, subst (λ y. Holds y (Some d) (ns ++ [])) (sym e) (ap (λ ms. ms ++ []) none))
    ran r d stages.Ready e f none = (h.0, (ap (λ ms. ms ++ seen.Ready ∷ []) none, subst IsGreeted (sym f) tt))
    ran r d Over e f none = failed r d _ _ e none

    serves : (since : ℕ) (d : session.Seen) (over : Bool) → s.phase ≡ Serves since → ns ≡ seen.Ready ∷ [] → IsGreeted d.stage → After u l now s (Some d) (Some p) ns (if over then seen.Ended else seen.Same)
    serves since d true e told g = subst (λ ms. IsOver (ms ++ seen.Ended ∷ [])) (sym told) tt
    serves since d false e told g = (h.0, subst (λ y. Holds y (Some d) (ns ++ [])) (sym e) (ap (λ ms. ms ++ []) told, g))

    by : (phase : Phase) → s.phase ≡ phase → (c : Option session.Seen) → Holds phase c ns → After u l now s c (Some p) ns (seen_at u l (Some (seat_of s.address phase)) c)
    by (Runs r) e None g = absurd g
    by (Runs r) e (Some d) g = ran r d d.stage e refl g
    by (Pauses r) e None g = (h.0, subst (λ y. Holds y None (ns ++ [])) (sym e) (subst IsRetried (sym (append-nil ns)) g))
    by (Pauses r) e (Some d) g = absurd g
    by (Serves since) e None g = absurd g
    by (Serves since) e (Some d) g = serves since d (session.is_over d.stage) e g.0 g.1

below : (r : ℕ) (b : Bool) (m most : ℕ) → m ≡ most → (b && nat_lt r m) ≡ true → r < most
below r true m most is h = grind (arith, nat_tests, is, h)
below r false m most is h = absurd cc

look_tries : (u : Terms) (l now most n : ℕ) (s : Seat) (c : Option session.Seen) (y : Seat) → u.connection.max_retries ≡ most → Tries most n s.phase →
    seat_left s.address (phase_after now s.phase (seen_at u l (Some s) c)) ≡ Some y → Tries most n y.phase
look_tries u l now most n s c y is h = by s.phase refl c h
  where
    same_seat : (phase : Phase) → Tries most n phase → Some (seat_of s.address phase) ≡ Some y → Tries most n y.phase
    same_seat phase g e = let q : seat_of s.address phase ≡ y = cc in subst (λ z. Tries most n z.phase) q g

    failed : (r delay : ℕ) (b : Bool) → s.phase ≡ Runs r → (b ≡ true → r < most) → Tries most n (Runs r) → seat_left s.address (phase_after now s.phase (if b then seen.Retry delay else seen.Failed)) ≡ Some y → Tries most n y.phase
    failed r delay true e less g f = same_seat (Pauses (retries_of s.phase)) (subst (λ z. Tries most n (Pauses (retries_of z))) (sym e) (g.0, less refl)) f
    failed r delay false e less g f = absurd cc

    ran : (r : ℕ) (d : session.Seen) (stage : Stage) → s.phase ≡ Runs r → Tries most n (Runs r) → seat_left s.address (phase_after now s.phase (seen_running u l r stage d.error)) ≡ Some y → Tries most n y.phase
    ran r d Dialing e g f = same_seat s.phase h f
    ran r d Handshaking e g f = same_seat s.phase h f
    ran r d stages.Ready e g f = same_seat (Serves now) tt f
    ran r d Over e g f = failed r _ (is_retryable d.error && nat_lt r u.connection.max_retries) e (below r (is_retryable d.error) u.connection.max_retries most is) g f

    serves : (over : Bool) → seat_left s.address (phase_after now s.phase (if over then seen.Ended else seen.Same)) ≡ Some y → Tries most n y.phase
    serves true f = absurd cc
    serves false f = same_seat s.phase h f

    by : (phase : Phase) → s.phase ≡ phase → (c : Option session.Seen) → Tries most n phase → seat_left s.address (phase_after now s.phase (seen_at u l (Some (seat_of s.address phase)) c)) ≡ Some y → Tries most n y.phase
    by phase e None g f = same_seat s.phase h f
    by (Runs r) e (Some d) g f = ran r d d.stage e g f
    by (Pauses r) e (Some d) g f = same_seat s.phase h f
    by (Serves since) e (Some d) g f = serves (session.is_over d.stage) f

module _ (t : Terms) (k : Known) (a : ℕ → Option Place) (ms : ℕ → List Seen) (rs : ℕ → ℕ) (x : Sound t k a ms rs) where
  -- nothing is told
  pub untold : Sound t k a (λ l. ms l ++ []) rs
  untold = subst (λ ns. Sound t k a ns rs) (fun_ext (λ l. sym (append-nil (ms l)))) x

  no_seat : (l : ℕ) → k.links ≤ l → (s : Option Seat) → k.series.seat l ≡ s → s ≡ None
  no_seat l le None e = refl
  no_seat l le (Some s) e = absurd (let less = x.books.below l s e in omega (arith, less, le))

  -- a connection that was not started yet
  nothing_yet : (l : ℕ) → k.links ≤ l → ms l ≡ []
  nothing_yet l le = by (k.series.seat l) (k.connection l) (a l) (no_seat l le (k.series.seat l) refl) (x.unused l le).0 (x.fits l)
    where
      by : (s : Option Seat) (c : Option session.Seen) (b : Option Place) → s ≡ None → b ≡ None → Fits s c b (ms l) → ms l ≡ []
      by None None None e f h = h
      by None (Some c) b e f h = absurd h
      by None None (Some p) e f h = absurd cc
      by (Some s) c b e f h = absurd cc

  -- a first attempt starts
  pub started_first : (p : Place) (now : ℕ) → k.series.link_of (address_key p) ≡ None → Sound t (starts p 0 now k) (λ l. address_or l (Some (k.links, p)) (a l)) ms rs
  started_first p now free =
      record {
        terms = x.terms;
        books = first k.links p k.series free x.books;
        fits = λ l. elim (which l k.links) [
          | inl one ↦ fits_too (Some (seat_of p (Runs 0))) (put_at k.links (Some (seat_of p (Runs 0))) k.series.seat l) (Some (session.fresh (setup k.terms p k.links now))) (put_at k.links (Some (session.fresh (setup k.terms p k.links now))) k.connection l)
              (Some p) (address_or l (Some (k.links, p)) (a l)) [] (ms l)
              (subst (λ m. put_at k.links (Some (seat_of p (Runs 0))) k.series.seat m ≡ Some (seat_of p (Runs 0))) (sym one) (at k.links (Some (seat_of p (Runs 0))) k.series.seat))
              (subst (λ m. put_at k.links (Some (session.fresh (setup k.terms p k.links now))) k.connection m ≡ Some (session.fresh (setup k.terms p k.links now))) (sym one) (at k.links (Some (session.fresh (setup k.terms p k.links now))) k.connection))
              (subst (λ m. address_or m (Some (k.links, p)) (a m) ≡ Some p) (sym one) (at k.links (Some p) a))
              (nothing_yet l (omega (arith, one)))
              (refl, refl)
          | inr two ↦ fits_too (k.series.seat l) (put_at k.links (Some (seat_of p (Runs 0))) k.series.seat l) (k.connection l) (put_at k.links (Some (session.fresh (setup k.terms p k.links now))) k.connection l)
              (a l) (address_or l (Some (k.links, p)) (a l)) (ms l) (ms l)
              (off l k.links (Some (seat_of p (Runs 0))) k.series.seat two) (off l k.links (Some (session.fresh (setup k.terms p k.links now))) k.connection two) (off l k.links (Some p) a two) refl (x.fits l)
        ];
        unused = λ l le. let far : k.links ≤ l = omega (arith, le) in
            let u = x.unused l far in (off l k.links (Some p) a (apart l k.links (λ one. omega (arith, le, one))) ∙ u.0, u.1);
        tries = λ l s e. elim (seat_is l k.links s (Some (seat_of p (Runs 0))) k.series.seat e) [
          | inl is ↦ (let q : seat_of p (Runs 0) ≡ s = cc in
              let far : k.links ≤ l = (let one = is.0 in omega (arith, one)) in
              subst (λ y. Tries t.connection.max_retries (rs l) y.phase) q (sym (x.unused l far).1, omega arith))
          | inr is ↦ x.tries l s is.1
        ];
        most = x.most;
      }

  -- a connection that serves is got
  pub served : (l : ℕ) (p : Place) (now since : ℕ) (s : Seat) → k.series.seat l ≡ Some s → s.phase ≡ Serves since → address_key p ≡ address_key s.address →
      Sound t (record k { series = in_phase l p (Serves now) k.series }) a ms rs
  served l p now since s here serves key_is =
      record {
        terms = x.terms;
        books = moved k.links l p (Serves now) s k.series here key_is x.books;
        fits = λ m. elim (which m l) [
          | inl one ↦ (let old = subst (λ y. Fits y (k.connection m) (a m) (ms m)) (subst (λ y. k.series.seat y ≡ Some s) (sym one) here) (x.fits m) in
              fits_too (Some (seat_of p (Serves now))) (put_at l (Some (seat_of p (Serves now))) k.series.seat m) (k.connection m) (k.connection m) (a m) (a m) (ms m) (ms m)
              (subst (λ y. put_at l (Some (seat_of p (Serves now))) k.series.seat y ≡ Some (seat_of p (Serves now))) (sym one) (at l (Some (seat_of p (Serves now))) k.series.seat))
              refl refl refl (by (k.connection m) (a m) (ms m) old))
          | inr two ↦ fits_too (k.series.seat m) (put_at l (Some (seat_of p (Serves now))) k.series.seat m) (k.connection m) (k.connection m) (a m) (a m) (ms m) (ms m)
              (off m l (Some (seat_of p (Serves now))) k.series.seat two) refl refl refl (x.fits m)
        ];
        unused = x.unused;
        tries = λ m y e. elim (seat_is m l y (Some (seat_of p (Serves now))) k.series.seat e) [
          | inl is ↦ (let q : seat_of p (Serves now) ≡ y = cc in subst (λ z. Tries t.connection.max_retries (rs m) z.phase) q tt)
          | inr is ↦ x.tries m y is.1
        ];
        most = x.most;
      }
    where
      phased : (c : Option session.Seen) (ns : List Seen) → Holds (Serves since) c ns → Holds (Serves now) c ns
      phased None ns old = old
      phased (Some c) ns old = old

      by : (c : Option session.Seen) (b : Option Place) (ns : List Seen) → Fits (Some s) c b ns → Fits (Some (seat_of p (Serves now))) c b ns
      by c None ns old = old
      by c (Some q) ns old = (old.0 ∙ sym key_is, phased c ns (subst (λ y. Holds y c ns) serves old.1))

  -- what is done to a connection that was lent
  pub done : (l : ℕ) (act : session.Act) → Sound t (after_done l act k) a ms rs
  done l act =
      record {
        terms = x.terms;
        books = x.books;
        fits = λ m. elim (which m l) [
          | inl one ↦ fits_too (k.series.seat m) (k.series.seat m) (option_map (session.after act) (k.connection m)) (put_at l (option_map (session.after act) (k.connection l)) k.connection m) (a m) (a m) (ms m) (ms m) refl
              (subst (λ y. put_at l (option_map (session.after act) (k.connection l)) k.connection y ≡ option_map (session.after act) (k.connection y)) (sym one) (at l (option_map (session.after act) (k.connection l)) k.connection))
              refl refl (by (k.series.seat m) (k.connection m) (a m) (ms m) (x.fits m))
          | inr two ↦ fits_too (k.series.seat m) (k.series.seat m) (k.connection m) (put_at l (option_map (session.after act) (k.connection l)) k.connection m) (a m) (a m) (ms m) (ms m) refl
              (off m l (option_map (session.after act) (k.connection l)) k.connection two) refl refl (x.fits m)
        ];
        unused = x.unused;
        tries = x.tries;
        most = x.most;
      }
    where
      in_phase_too : (phase : Phase) (c : Option session.Seen) (ns : List Seen) → Holds phase c ns → Holds phase (option_map (session.after act) c) ns
      in_phase_too (Runs r) None ns h = h
      in_phase_too (Runs r) (Some c) ns h = h
      in_phase_too (Pauses r) None ns h = h
      in_phase_too (Pauses r) (Some c) ns h = h
      in_phase_too (Serves since) None ns h = h
      in_phase_too (Serves since) (Some c) ns h = (h.0, greeted_stays act c h.1)

      by : (s : Option Seat) (c : Option session.Seen) (b : Option Place) (ns : List Seen) → Fits s c b ns → Fits s (option_map (session.after act) c) b ns
      by None None b ns h = h
      by None (Some c) b ns h = h
      by (Some s) c None ns h = h
      by (Some s) c (Some p) ns h = (h.0, in_phase_too s.phase c ns h.1)

  -- the next attempt of a series starts
  pub retried : (l now r : ℕ) (s : Seat) → t.connection.max_retries < 2 ^ 32 → k.series.seat l ≡ Some s → s.phase ≡ Pauses r →
      Sound t (starts s.address (one_more r) now (record k { series = without l k.series })) (λ m. address_or m (Some (k.links, s.address)) (a m)) ms (λ m. if m == k.links then rs l + 1 else rs m)
  retried l now r s small here pauses =
      record {
        terms = x.terms;
        books = next k.links l (one_more r) s k.series here x.books;
        fits = λ m. elim (which m k.links) [
          | inl one ↦ fits_too (Some new) (put_at k.links (Some new) gone m) (Some (session.fresh (setup k.terms s.address k.links now))) (put_at k.links (Some (session.fresh (setup k.terms s.address k.links now))) k.connection m)
              (Some s.address) (address_or m (Some (k.links, s.address)) (a m)) [] (ms m)
              (subst (λ y. put_at k.links (Some new) gone y ≡ Some new) (sym one) (at k.links (Some new) gone))
              (subst (λ y. put_at k.links (Some (session.fresh (setup k.terms s.address k.links now))) k.connection y ≡ Some (session.fresh (setup k.terms s.address k.links now))) (sym one) (at k.links (Some (session.fresh (setup k.terms s.address k.links now))) k.connection))
              (subst (λ y. address_or y (Some (k.links, s.address)) (a y) ≡ Some s.address) (sym one) (at k.links (Some s.address) a))
              (nothing_yet m (omega (arith, one)))
              (refl, refl)
          | inr two ↦ (elim (which m l) [
            | inl mine ↦ fits_too None (put_at k.links (Some new) gone m) None (put_at k.links (Some (session.fresh (setup k.terms s.address k.links now))) k.connection m) (a m) (address_or m (Some (k.links, s.address)) (a m)) (ms m) (ms m)
                (off m k.links (Some new) gone two ∙ subst (λ y. put_at l None k.series.seat y ≡ None) (sym mine) (at l None k.series.seat))
                (off m k.links (Some (session.fresh (setup k.terms s.address k.links now))) k.connection two ∙ (paused m mine).0)
                (off m k.links (Some s.address) a two) refl (paused m mine).1
            | inr other ↦ fits_too (k.series.seat m) (put_at k.links (Some new) gone m) (k.connection m) (put_at k.links (Some (session.fresh (setup k.terms s.address k.links now))) k.connection m) (a m) (address_or m (Some (k.links, s.address)) (a m)) (ms m) (ms m)
                (off m k.links (Some new) gone two ∙ off m l None k.series.seat other) (off m k.links (Some (session.fresh (setup k.terms s.address k.links now))) k.connection two) (off m k.links (Some s.address) a two) refl (x.fits m)
          ])
        ];
        unused = λ m le. let far : k.links ≤ m = omega (arith, le) in
            let u = x.unused m far in
            let other = apart m k.links (λ one. omega (arith, le, one)) in
            (off m k.links (Some s.address) a other ∙ u.0, ap (λ b. if b then rs l + 1 else rs m) other ∙ u.1);
        tries = λ m y e. elim (seat_is m k.links y (Some new) gone e) [
          | inl is ↦ (let q : new ≡ y = cc in
              let yes = subst (λ z. (z == k.links) ≡ true) (sym is.0) (same k.links) in
              let n : (if m == k.links then rs l + 1 else rs m) ≡ rs l + 1 = ap (λ b. if b then rs l + 1 else rs m) yes in
              let old = before in
              let r_is = old.0 in
              let less = old.1 in
              subst (λ z. Tries t.connection.max_retries (if m == k.links then rs l + 1 else rs m) z.phase) q
              (subst (λ i. (one_more r ≡ i) × (one_more r ≤ t.connection.max_retries)) (sym n) (counts r (rs l) t.connection.max_retries small r_is less)))
          | inr is ↦ (elim (seat_is m l y None k.series.seat is.1) [
            | inl own ↦ absurd (let no_seat = own.1 in cc)
            | inr was ↦ subst (λ i. Tries t.connection.max_retries i y.phase) (sym (ap (λ b. if b then rs l + 1 else rs m) is.0)) (x.tries m y was.1)
          ])
        ];
        most = λ m. elim (which m k.links) [
          | inl one ↦ (let yes = subst (λ z. (z == k.links) ≡ true) (sym one) (same k.links) in
              let old = before in
              let r_is = old.0 in
              let less = old.1 in
              subst (λ i. i ≤ t.connection.max_retries) (sym (ap (λ b. if b then rs l + 1 else rs m) yes)) (omega (arith, r_is, less)))
          | inr two ↦ subst (λ i. i ≤ t.connection.max_retries) (sym (ap (λ b. if b then rs l + 1 else rs m) two)) (x.most m)
        ];
      }
    where
      new : Seat
      new = seat_of s.address (Runs (one_more r))

      gone : ℕ → Option Seat
      gone = put_at l None k.series.seat

      before : Tries t.connection.max_retries (rs l) (Pauses r)
      before = subst (λ y. Tries t.connection.max_retries (rs l) y) pauses (x.tries l s here)

      by : (c : Option session.Seen) (b : Option Place) (ns : List Seen) (phase : Phase) → phase ≡ Pauses r → Fits (Some (seat_of s.address phase)) c b ns → (c ≡ None) × Fits None None b ns
      by c None ns phase e h = absurd h
      by None (Some q) ns (Pauses n) e h = (refl, over ns h.1)
        where
          over : (ns : List Seen) → IsRetried ns → IsOver ns
          over [] h = absurd h
          over (seen.Retry delay ∷ []) h = tt
          over (seen.Retry delay ∷ n ∷ ns) h = absurd h
          over (seen.Same ∷ ns) h = absurd h
          over (seen.Ready ∷ ns) h = absurd h
          over (seen.Failed ∷ ns) h = absurd h
          over (seen.Ended ∷ ns) h = absurd h
      by (Some c) (Some q) ns (Pauses n) e h = absurd h.1
      by c (Some q) ns (Runs n) e h = absurd cc
      by c (Some q) ns (Serves n) e h = absurd cc

      paused : (m : ℕ) → m ≡ l → (k.connection m ≡ None) × Fits None None (a m) (ms m)
      paused m mine = by (k.connection m) (a m) (ms m) s.phase pauses (subst (λ y. Fits y (k.connection m) (a m) (ms m)) (subst (λ y. k.series.seat y ≡ Some s) (sym mine) here) (x.fits m))

  -- it is looked at what a connection has become
  pub looked : (l now : ℕ) (st : Option Seat) → k.series.seat l ≡ st →
      Sound t (after_seen l now st (seen_at k.terms l st (k.connection l)) k) a (λ m. ms m ++ (if m == l then change (seen_at k.terms l st (k.connection l)) else [])) rs
  looked l now None here = subst (λ ns. Sound t k a ns rs) (fun_ext (λ m. sym (nothing_more (m == l) (ms m)))) x
  looked l now (Some s) here =
      record {
        terms = x.terms;
        books = freed_or (phase_after now s.phase what);
        fits = λ m. elim (which m l) [
          | inl one ↦ fits_too (seat_left s.address (phase_after now s.phase what)) ((reseated l s.address (phase_after now s.phase what) k.series).seat m) (if is_over what then None else k.connection m) (left_of l (is_over what) k.connection m)
              (a m) (a m) (ms m ++ change what) (ms m ++ (if m == l then change what else []))
              (subst (λ y. (reseated l s.address (phase_after now s.phase what) k.series).seat y ≡ seat_left s.address (phase_after now s.phase what)) (sym one) (reseated_at l s.address (phase_after now s.phase what) k.series))
              (subst (λ y. left_of l (is_over what) k.connection y ≡ (if is_over what then None else k.connection y)) (sym one) (left_at l (is_over what) k.connection))
              refl
              (ap (λ b. ms m ++ (if b then change what else [])) (subst (λ y. (y == l) ≡ true) (sym one) (same l)))
              (subst (λ y. Fits (seat_left s.address (phase_after now s.phase what)) (if is_over what then None else k.connection y) (a y) (ms y ++ change what)) (sym one)
              (look_fits k.terms l now s (k.connection l) (a l) (ms l) (subst (λ y. Fits y (k.connection l) (a l) (ms l)) here (x.fits l))))
          | inr two ↦ fits_too (k.series.seat m) ((reseated l s.address (phase_after now s.phase what) k.series).seat m) (k.connection m) (left_of l (is_over what) k.connection m)
              (a m) (a m) (ms m) (ms m ++ (if m == l then change what else []))
              (reseated_off m l s.address (phase_after now s.phase what) k.series two) (connection_off m two (is_over what)) refl
              (ap (λ b. ms m ++ (if b then change what else [])) two ∙ append-nil (ms m)) (x.fits m)
        ];
        unused = x.unused;
        tries = λ m y e. elim (which m l) [
          | inl one ↦ look_tries k.terms l now t.connection.max_retries (rs m) s (k.connection l) y (ap (λ z. z.connection.max_retries) x.terms)
              (subst (λ i. Tries t.connection.max_retries i s.phase) (ap rs (sym one)) (x.tries l s here))
              (sym (reseated_at l s.address (phase_after now s.phase what) k.series) ∙ subst (λ i. (reseated l s.address (phase_after now s.phase what) k.series).seat i ≡ Some y) one e)
          | inr two ↦ x.tries m y (sym (reseated_off m l s.address (phase_after now s.phase what) k.series two) ∙ e)
        ];
        most = x.most;
      }
    where
      what : Seen
      what = seen_at k.terms l (Some s) (k.connection l)

      freed_or : (ph : Option Phase) → Books k.links (reseated l s.address ph k.series)
      freed_or None = freed k.links l s k.series here x.books
      freed_or (Some phase) = moved k.links l s.address phase s k.series here refl x.books

      connection_off : (m : ℕ) → (m == l) ≡ false → (over : Bool) → left_of l over k.connection m ≡ k.connection m
      connection_off m two true = off m l None k.connection two
      connection_off m two false = refl

  -- where no series stands its address is free, and where one does its connection has a seat there
  pub free : (p : Place) → standing p k.series ≡ None → k.series.link_of (address_key p) ≡ None
  free p = by (k.series.link_of (address_key p)) refl
    where
      there : (l : ℕ) (s : Seat) → k.series.seat l ≡ Some s → standing_at (Some l) k.series.seat ≡ Some (l, s.phase)
      there l s e = ap (option_map (λ s. (l, s.phase))) e

      by : (o : Option ℕ) → k.series.link_of (address_key p) ≡ o → standing_at o k.series.seat ≡ None → k.series.link_of (address_key p) ≡ None
      by None e none = e
      by (Some l) e none = let y = x.books.seated (address_key p) l e in absurd (let full = there l y.0 y.1 in cc)

  pub stands : (p : Place) (l : ℕ) (phase : Phase) → standing p k.series ≡ Some (l, phase) → (s : Seat) × (k.series.seat l ≡ Some s) × (s.phase ≡ phase) × (address_key p ≡ address_key s.address)
  stands p l phase = by (k.series.link_of (address_key p)) refl
    where
      by : (o : Option ℕ) → k.series.link_of (address_key p) ≡ o → standing_at o k.series.seat ≡ Some (l, phase) → (s : Seat) × (k.series.seat l ≡ Some s) × (s.phase ≡ phase) × (address_key p ≡ address_key s.address)
      by None e some = absurd cc
      by (Some m) e some =
          let y = x.books.seated (address_key p) m e in
          let full : standing_at (Some m) k.series.seat ≡ Some (m, y.0.phase) = ap (option_map (λ s. (m, s.phase))) y.1 in
          let is : ◌≡◌ {A = Option (ℕ × Phase)} (Some (m, y.0.phase)) (Some (l, phase)) = sym full ∙ some in
          let pair : ◌≡◌ {A = ℕ × Phase} (m, y.0.phase) (l, phase) = cc in
          let first_is : m ≡ l = ap (λ z. z.0) pair in
          let phase_is : y.0.phase ≡ phase = ap (λ z. z.1) pair in
          (y.0, subst (λ z. k.series.seat z ≡ Some y.0) first_is y.1, phase_is, sym y.2)

  -- a connection is wanted
  pub wanted : (p : Place) (now : ℕ) (b : Bool) (st : Option (ℕ × Phase)) → standing p k.series ≡ st →
      Sound t (if b then after_got p now st k else k) (λ l. address_or l (got_started p (if b then got_by st k.links else GotRefused NotFound)) (a l)) ms rs
  wanted p now false st e = x
  wanted p now true None e = started_first p now (free p e)
  wanted p now true (Some (l, Runs r)) e = x
  wanted p now true (Some (l, Pauses r)) e = x
  wanted p now true (Some (l, Serves since)) e = let y = stands p l (Serves since) e in served l p now since y.0 y.1 y.2 y.3

  -- a next attempt is started where it is waited for
  pub tried : (l now : ℕ) (st : Option Seat) → t.connection.max_retries < 2 ^ 32 → k.series.seat l ≡ st → IsTrue (is_pausing st) →
      Sound t (after_again_at l now st k) (λ m. address_or m (option_map (λ s. (k.links, s.address)) st) (a m)) ms (λ m. if m == k.links then rs l + 1 else rs m)
  tried l now None small e p = absurd cc
  tried l now (Some s) small e p = by s.phase refl p
    where
      by : (phase : Phase) → s.phase ≡ phase → IsTrue (is_pause phase) → Sound t (after_again_at l now (Some s) k) (λ m. address_or m (Some (k.links, s.address)) (a m)) ms (λ m. if m == k.links then rs l + 1 else rs m)
      by (Runs r) is p = absurd cc
      by (Pauses r) is p = subst (λ z. Sound t (starts s.address (one_more (retries_of z)) now (record k { series = without l k.series })) (λ m. address_or m (Some (k.links, s.address)) (a m)) ms (λ m. if m == k.links then rs l + 1 else rs m)) (sym is) (retried l now r s small e is)
      by (Serves since) is p = absurd cc

pub small : (t : Terms) (h : List Event) → IsHistory t h → t.connection.max_retries < 2 ^ 32
small t [] ok = ok
small t (e ∷ h) ok = small t h ok.1

pub sound : (t : Terms) (h : List Event) → IsHistory t h → Sound t (known_after t h) (λ l. address_of t l h) (λ l. told_of t l h) (retries_made t h)
sound t [] ok = begins t
sound t (Wants p now ∷ h) ok =
    let k = known_after t h in
    untold t (after (Wants p now) k) _ _ _ (wanted t k (λ l. address_of t l h) (λ l. told_of t l h) (retries_made t h) (sound t h ok.1) p now (is_reachable p) (standing p k.series) refl)
sound t (Does l act ∷ h) ok =
    untold t (after (Does l act) (known_after t h)) _ _ _ (done t (known_after t h) (λ l. address_of t l h) (λ l. told_of t l h) (retries_made t h) (sound t h ok.1) l act)
sound t (Looks l now ∷ h) ok =
    looked t (known_after t h) (λ l. address_of t l h) (λ l. told_of t l h) (retries_made t h) (sound t h ok.1) l now ((known_after t h).series.seat l) refl
sound t (Retries l now ∷ h) ok =
    untold t (after (Retries l now) (known_after t h)) _ _ _
    (tried t (known_after t h) (λ l. address_of t l h) (λ l. told_of t l h) (retries_made t h) (sound t h ok.1) l now ((known_after t h).series.seat l) (small t h ok.1) refl ok.0)
