-- Those that wait for an address: series of attempts follow one another, and the end of each is told once.
use Rattle.std.proofs.Common.{◌≡◌, ◌∙◌, sym, ap, subst, refl, ℕ, Bool, true, false, IsTrue, List, [], ◌∷◌, ◌++◌, inl, inr, Option, Some, None, ◌==◌, if◌then◌else◌, bytes_eq, arith}
use Rattle.std.proofs.lemmas.Bool.{cases_Bool}
use Rattle.std.proofs.lemmas.Slice.Eq.{bytes_eq-Decides}
use Rattle.std.specs.Option.{option_map}
use Rattle.pulsar_session.specs.Link as session
use Rattle.pulsar_wire.specs.Failures.{NotFound}
use Rattle.pulsar_session.specs.declared.states.Stage.{Stage}
use Rattle.pulsar_session.specs.declared.states.Stage.TheVariants as stages
use Rattle.pulsar_session.specs.declared.states.Stage.TheVariants.{Dialing, Handshaking, Over}
use Rattle.pulsar_addresses.specs.Address.{Place, address_key, is_reachable}
use Rattle.pulsar_addresses.specs.Backoff.{one_more}
use Rattle.pulsar_discovery.specs.declared.addresses.Phase.{Phase}
use Rattle.pulsar_discovery.specs.declared.addresses.Phase.TheVariants.{Runs, Pauses, Serves}
use Rattle.pulsar_discovery.specs.declared.addresses.Seat.{Seat}
use Rattle.pulsar_discovery.specs.declared.manager.Seen.{Seen}
use Rattle.pulsar_discovery.specs.declared.manager.Terms.{Terms}
use Rattle.pulsar_discovery.specs.declared.manager.Seen.TheVariants as seen
use Rattle.pulsar_discovery.specs.Manager.{GotRefused, GotStarted, Known, after_again_at, after_got, after_seen, got_by, is_pause, is_pausing, phase_after, retries_of, seen_at, seen_running, starts}
use Rattle.pulsar_discovery.specs.Series.{Series, begun, in_phase, put_at, put_key, reseated, seat_of, standing, standing_at, without}
use Rattle.pulsar_discovery.specs.History.{Begins, Does, Ends, Event, InTurn, IsHistory, Looks, Mark, Retries, Waits, Wants, address_of, got_marks, is_at, is_running, known_after, marks_of, retries_made, seen_marks, told_of}
use Rattle.pulsar_discovery.specs.Laws.{WaitersAreToldOnce}
use Rattle.pulsar_discovery.proofs.Books.{Books, other_key}
use Rattle.pulsar_discovery.proofs.Cases.{apart, at, beside, off, under}
use Rattle.pulsar_discovery.proofs.Sound.{Sound, sound, stands}

-- an attempt runs, or its retry is waited for
abbrev runs : Option (ℕ × Phase) → Bool
runs None = false
runs (Some (l, Runs r)) = true
runs (Some (l, Pauses r)) = true
runs (Some (l, Serves since)) = false

abbrev Rests : Place → Series → List Mark → Type 0
Rests p k marks = (is_running marks ≡ runs (standing p k)) × InTurn marks

abbrev IsAt : Option (ℕ × Phase) → Option (ℕ × Phase) → Type 0
IsAt a b = a ≡ b

-- where a series stands that nothing was done to
stays : (p : Place) (k j : Series) → j.link_of (address_key p) ≡ k.link_of (address_key p) → ((l : ℕ) → k.link_of (address_key p) ≡ Some l → j.seat l ≡ k.seat l) → IsAt (standing p j) (standing p k)
stays p k j links seats = ap (λ o. standing_at o j.seat) links ∙ by (k.link_of (address_key p)) refl
  where
    by : (o : Option ℕ) → k.link_of (address_key p) ≡ o → IsAt (standing_at o j.seat) (standing_at o k.seat)
    by None e = refl
    by (Some l) e = ap (option_map (λ s. (l, s.phase))) (seats l e)

-- where the series of a key stands, by its newest connection
newest : (p : Place) (j : Series) (l : ℕ) (s : Seat) → j.link_of (address_key p) ≡ Some l → j.seat l ≡ Some s → IsAt (standing p j) (Some (l, s.phase))
newest p j l s links seat = ap (λ o. standing_at o j.seat) links ∙ ap (option_map (λ s. (l, s.phase))) seat

same_standing : (p q : Place) (k : Series) → address_key q ≡ address_key p → IsAt (standing p k) (standing q k)
same_standing p q k e = ap (λ key. standing_at (k.link_of key) k.seat) (sym e)

module _ (n : ℕ) (k : Series) (b : Books n k) (p : Place) where
  -- the seat of the newest connection of a key is not one of another key
  not_his : (l m : ℕ) (s : Seat) → k.seat m ≡ Some s → bytes_eq (address_key s.address) (address_key p) ≡ false → k.link_of (address_key p) ≡ Some l → (l == m) ≡ false
  not_his l m s there other e = let y = b.seated (address_key p) l e in apart l m (other_key (address_key p) m l s y.0 k other there y.1 y.2)

  not_new : (l : ℕ) → k.link_of (address_key p) ≡ Some l → (l == n) ≡ false
  not_new l e = let y = b.seated (address_key p) l e in let less = b.below l y.0 y.1 in apart l n (λ one. omega (arith, less, one))

  first_off : (q : Place) → bytes_eq (address_key q) (address_key p) ≡ false → IsAt (standing p (begun n q 0 k)) (standing p k)
  first_off q other = stays p k (begun n q 0 k) (beside (address_key q) (address_key p) (Some n) k.link_of other) (λ l e. off l n (Some (seat_of q (Runs 0))) k.seat (not_new l e))

  first_on : (q : Place) → address_key q ≡ address_key p → IsAt (standing p (begun n q 0 k)) (Some (n, Runs 0))
  first_on q one = newest p (begun n q 0 k) n (seat_of q (Runs 0)) (subst (λ key. put_key (address_key q) (Some n) k.link_of key ≡ Some n) one (under (address_key q) (Some n) k.link_of)) (at n (Some (seat_of q (Runs 0))) k.seat)

  next_off : (l r : ℕ) (s : Seat) → k.seat l ≡ Some s → bytes_eq (address_key s.address) (address_key p) ≡ false → IsAt (standing p (begun n s.address r (without l k))) (standing p k)
  next_off l r s here other = stays p k (begun n s.address r (without l k)) (beside (address_key s.address) (address_key p) (Some n) k.link_of other)
      (λ m e. off m n (Some (seat_of s.address (Runs r))) (put_at l None k.seat) (not_new m e) ∙ off m l None k.seat (not_his m l s here other e))

  next_on : (l r : ℕ) (s : Seat) → address_key s.address ≡ address_key p → IsAt (standing p (begun n s.address r (without l k))) (Some (n, Runs r))
  next_on l r s one = newest p (begun n s.address r (without l k)) n (seat_of s.address (Runs r)) (subst (λ key. put_key (address_key s.address) (Some n) k.link_of key ≡ Some n) one (under (address_key s.address) (Some n) k.link_of)) (at n (Some (seat_of s.address (Runs r))) (put_at l None k.seat))

  moved_off : (l : ℕ) (q : Place) (phase : Phase) (s : Seat) → k.seat l ≡ Some s → bytes_eq (address_key s.address) (address_key p) ≡ false → IsAt (standing p (in_phase l q phase k)) (standing p k)
  moved_off l q phase s here other = stays p k (in_phase l q phase k) refl (λ m e. off m l (Some (seat_of q phase)) k.seat (not_his m l s here other e))

  moved_on : (l : ℕ) (q : Place) (phase : Phase) (s : Seat) → k.seat l ≡ Some s → address_key s.address ≡ address_key p → IsAt (standing p (in_phase l q phase k)) (Some (l, phase))
  moved_on l q phase s here one = newest p (in_phase l q phase k) l (seat_of q phase) (subst (λ key. k.link_of key ≡ Some l) one (b.linked l s here)) (at l (Some (seat_of q phase)) k.seat)

  freed_off : (l : ℕ) (s : Seat) → k.seat l ≡ Some s → bytes_eq (address_key s.address) (address_key p) ≡ false → IsAt (standing p (reseated l s.address None k)) (standing p k)
  freed_off l s here other = stays p k (reseated l s.address None k) (beside (address_key s.address) (address_key p) None k.link_of other) (λ m e. off m l None k.seat (not_his m l s here other e))

  freed_on : (l : ℕ) (s : Seat) → address_key s.address ≡ address_key p → IsAt (standing p (reseated l s.address None k)) None
  freed_on l s one = ap (λ o. standing_at o (put_at l None k.seat)) (subst (λ key. put_key (address_key s.address) None k.link_of key ≡ None) one (under (address_key s.address) None k.link_of))

  stood_on : (l : ℕ) (s : Seat) → k.seat l ≡ Some s → address_key s.address ≡ address_key p → IsAt (standing p k) (Some (l, s.phase))
  stood_on l s here one = newest p k l s (subst (λ key. k.link_of key ≡ Some l) one (b.linked l s here)) here

-- nothing changes for those that wait for an address where its series stands as before
unmarked : (p : Place) (k j : Series) (marks : List Mark) → IsAt (standing p j) (standing p k) → Rests p k marks → Rests p j marks
unmarked p k j marks e x = (x.0 ∙ ap runs (sym e), x.1)

rests : (p : Place) (j : Series) (marks : List Mark) (st : Option (ℕ × Phase)) → IsAt (standing p j) st → is_running marks ≡ runs st → InTurn marks → Rests p j marks
rests p j marks st e r turn = (r ∙ ap runs (sym e), turn)

-- an event at a key is one of the address where the keys are one
at_key : (p : Place) (j : Series) (key : List ℕ) (more marks : List Mark) → (key ≡ address_key p → Rests p j (more ++ marks)) → (bytes_eq key (address_key p) ≡ false → Rests p j marks) →
    Rests p j ((if bytes_eq key (address_key p) then more else []) ++ marks)
at_key p j key more marks there other = elim (cases_Bool (bytes_eq key (address_key p))) [
  | inl e ↦ subst (λ b. Rests p j ((if b then more else []) ++ marks)) (sym e) (there ((bytes_eq-Decides key (address_key p)).0 e))
  | inr e ↦ subst (λ b. Rests p j ((if b then more else []) ++ marks)) (sym e) (other e)
]

module _ (t : Terms) (k : Known) (a : ℕ → Option Place) (ms : ℕ → List Seen) (rs : ℕ → ℕ) (x : Sound t k a ms rs) (p : Place) (marks : List Mark) (r : Rests p k.series marks) where
  unchanged : (q : Place) → Rests p k.series ((if bytes_eq (address_key q) (address_key p) then [] else []) ++ marks)
  unchanged q = at_key p k.series (address_key q) [] marks (λ e. r) (λ e. r)

  runs_so : (st : Option (ℕ × Phase)) → IsAt (standing p k.series) st → is_running marks ≡ runs st
  runs_so st e = r.0 ∙ ap runs e

  pub wanted_rests : (q : Place) (now : ℕ) (b : Bool) (st : Option (ℕ × Phase)) → IsAt (standing q k.series) st →
      Rests p (if b then after_got q now st k else k).series ((if bytes_eq (address_key q) (address_key p) then got_marks (if b then got_by st k.links else GotRefused NotFound) else []) ++ marks)
  wanted_rests q now false st e = unchanged q
  wanted_rests q now true None e =
      at_key p (begun k.links q 0 k.series) (address_key q) (Begins ∷ []) marks
      (λ one. rests p (begun k.links q 0 k.series) (Begins ∷ marks) (Some (k.links, Runs 0)) (first_on k.links k.series x.books p q one) refl (runs_so None (same_standing p q k.series one ∙ e), r.1))
      (λ other. unmarked p k.series (begun k.links q 0 k.series) marks (first_off k.links k.series x.books p q other) r)
  wanted_rests q now true (Some (l, Runs n)) e = at_key p k.series (address_key q) (Waits ∷ []) marks (λ one. (r.0, (runs_so (Some (l, Runs n)) (same_standing p q k.series one ∙ e), r.1))) (λ other. r)
  wanted_rests q now true (Some (l, Pauses n)) e = at_key p k.series (address_key q) (Waits ∷ []) marks (λ one. (r.0, (runs_so (Some (l, Pauses n)) (same_standing p q k.series one ∙ e), r.1))) (λ other. r)
  wanted_rests q now true (Some (l, Serves since)) e =
      let y = stands t k a ms rs x q l (Serves since) e in
      at_key p (in_phase l q (Serves now) k.series) (address_key q) [] marks
      (λ one. rests p (in_phase l q (Serves now) k.series) marks (Some (l, Serves now)) (moved_on k.links k.series x.books p l q (Serves now) y.0 y.1 (sym y.3 ∙ one))
      (runs_so (Some (l, Serves since)) (same_standing p q k.series one ∙ e)) r.1)
      (λ other. unmarked p k.series (in_phase l q (Serves now) k.series) marks (moved_off k.links k.series x.books p l q (Serves now) y.0 y.1 (subst (λ key. bytes_eq key (address_key p) ≡ false) y.3 other)) r)

  pub tried_rests : (l now : ℕ) (st : Option Seat) → k.series.seat l ≡ st → IsTrue (is_pausing st) → Rests p (after_again_at l now st k).series marks
  tried_rests l now None e g = absurd cc
  tried_rests l now (Some s) e g = elim (cases_Bool (bytes_eq (address_key s.address) (address_key p))) [
    | inl is ↦ (let one = (bytes_eq-Decides (address_key s.address) (address_key p)).0 is in
        rests p (begun k.links s.address (one_more (retries_of s.phase)) (without l k.series)) marks (Some (k.links, Runs (one_more (retries_of s.phase)))) (next_on k.links k.series x.books p l (one_more (retries_of s.phase)) s one)
        (runs_so (Some (l, s.phase)) (stood_on k.links k.series x.books p l s e one) ∙ paused s.phase g) r.1)
    | inr other ↦ unmarked p k.series (begun k.links s.address (one_more (retries_of s.phase)) (without l k.series)) marks (next_off k.links k.series x.books p l (one_more (retries_of s.phase)) s e other) r
  ]
    where
      paused : (phase : Phase) → IsTrue (is_pause phase) → runs (Some (l, phase)) ≡ true
      paused (Runs n) g = absurd cc
      paused (Pauses n) g = refl
      paused (Serves since) g = absurd cc

  pub looked_rests : (l now : ℕ) (st : Option Seat) → k.series.seat l ≡ st →
      Rests p (after_seen l now st (seen_at k.terms l st (k.connection l)) k).series ((if is_at p st then seen_marks (seen_at k.terms l st (k.connection l)) else []) ++ marks)
  looked_rests l now None e = r
  looked_rests l now (Some s) e =
      at_key p (reseated l s.address (phase_after now s.phase (seen_at k.terms l (Some s) (k.connection l))) k.series) (address_key s.address) (seen_marks (seen_at k.terms l (Some s) (k.connection l))) marks
      (λ one. turned one s.phase refl (k.connection l))
      (λ other. unmarked p k.series (reseated l s.address (phase_after now s.phase (seen_at k.terms l (Some s) (k.connection l))) k.series) marks (off_it other (phase_after now s.phase (seen_at k.terms l (Some s) (k.connection l)))) r)
    where
      off_it : bytes_eq (address_key s.address) (address_key p) ≡ false → (ph : Option Phase) → IsAt (standing p (reseated l s.address ph k.series)) (standing p k.series)
      off_it other None = freed_off k.links k.series x.books p l s e other
      off_it other (Some phase) = moved_off k.links k.series x.books p l s.address phase s e other

      at_it : address_key s.address ≡ address_key p → (ph : Option Phase) → IsAt (standing p (reseated l s.address ph k.series)) (option_map (λ phase. (l, phase)) ph)
      at_it one None = freed_on k.links k.series x.books p l s one
      at_it one (Some phase) = moved_on k.links k.series x.books p l s.address phase s e one

      -- the series goes on in this phase, or is over, and this is told
      goes : address_key s.address ≡ address_key p → (ph : Option Phase) (more : List Mark) → is_running (more ++ marks) ≡ runs (option_map (λ phase. (l, phase)) ph) → InTurn (more ++ marks) → Rests p (reseated l s.address ph k.series) (more ++ marks)
      goes one ph more run turn = rests p (reseated l s.address ph k.series) (more ++ marks) (option_map (λ phase. (l, phase)) ph) (at_it one ph) run turn

      was : address_key s.address ≡ address_key p → (phase : Phase) → s.phase ≡ phase → is_running marks ≡ runs (Some (l, phase))
      was one phase is = runs_so (Some (l, phase)) (stood_on k.links k.series x.books p l s e one ∙ ap (λ ph. Some (l, ph)) is)

      stays_so : address_key s.address ≡ address_key p → Rests p (reseated l s.address (Some s.phase) k.series) marks
      stays_so one = goes one (Some s.phase) [] (was one s.phase refl) r.1

      failed : address_key s.address ≡ address_key p → (n delay : ℕ) (b : Bool) → s.phase ≡ Runs n →
          Rests p (reseated l s.address (phase_after now s.phase (if b then seen.Retry delay else seen.Failed)) k.series) (seen_marks (if b then seen.Retry delay else seen.Failed) ++ marks)
      failed one n delay true is = goes one (Some (Pauses (retries_of s.phase))) [] (was one (Runs n) is) r.1
      failed one n delay false is = goes one None (Ends seen.Failed ∷ []) refl (was one (Runs n) is, r.1)

      ran : address_key s.address ≡ address_key p → (n : ℕ) (d : session.Seen) (stage : Stage) → s.phase ≡ Runs n →
          Rests p (reseated l s.address (phase_after now s.phase (seen_running k.terms l n stage d.error)) k.series) (seen_marks (seen_running k.terms l n stage d.error) ++ marks)
      ran one n d Dialing is = stays_so one
      ran one n d Handshaking is = stays_so one
      ran one n d stages.Ready is = goes one (Some (Serves now)) (Ends seen.Ready ∷ []) refl (was one (Runs n) is, r.1)
      ran one n d Over is = failed one n _ _ is

      served_so : address_key s.address ≡ address_key p → (since : ℕ) (over : Bool) → s.phase ≡ Serves since →
          Rests p (reseated l s.address (phase_after now s.phase (if over then seen.Ended else seen.Same)) k.series) (seen_marks (if over then seen.Ended else seen.Same) ++ marks)
      served_so one since true is = goes one None [] (was one (Serves since) is) r.1
      served_so one since false is = stays_so one

      turned : address_key s.address ≡ address_key p → (phase : Phase) → s.phase ≡ phase → (c : Option session.Seen) →
          Rests p (reseated l s.address (phase_after now s.phase (seen_at k.terms l (Some (seat_of s.address phase)) c)) k.series) (seen_marks (seen_at k.terms l (Some (seat_of s.address phase)) c) ++ marks)
      turned one phase is None = stays_so one
      turned one (Runs n) is (Some d) = ran one n d d.stage is
      turned one (Pauses n) is (Some d) = stays_so one
      turned one (Serves since) is (Some d) = served_so one since (session.is_over d.stage) is

waiting : (t : Terms) (h : List Event) → IsHistory t h → (p : Place) → Rests p (known_after t h).series (marks_of t p h)
waiting t [] ok p = (refl, tt)
waiting t (Wants q now ∷ h) ok p =
    let k = known_after t h in
    wanted_rests t k (λ l. address_of t l h) (λ l. told_of t l h) (retries_made t h) (sound t h ok.1) p (marks_of t p h) (waiting t h ok.1 p) q now (is_reachable q) (standing q k.series) refl
waiting t (Does l act ∷ h) ok p = waiting t h ok.1 p
waiting t (Looks l now ∷ h) ok p =
    looked_rests t (known_after t h) (λ l. address_of t l h) (λ l. told_of t l h) (retries_made t h) (sound t h ok.1) p (marks_of t p h) (waiting t h ok.1 p) l now ((known_after t h).series.seat l) refl
waiting t (Retries l now ∷ h) ok p =
    tried_rests t (known_after t h) (λ l. address_of t l h) (λ l. told_of t l h) (retries_made t h) (sound t h ok.1) p (marks_of t p h) (waiting t h ok.1 p) l now ((known_after t h).series.seat l) refl ok.0

pub waiters_are_told_once : WaitersAreToldOnce
waiters_are_told_once t h ok p = (waiting t h ok p).1
