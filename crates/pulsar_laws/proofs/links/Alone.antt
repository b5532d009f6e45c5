-- A link that has not ended is what the calls of its connection made of it; and it is not over.
use Rattle.std.proofs.Common.{◌≡◌, ◌∙◌, sym, ap, subst, ℕ, List, ◌∷◌, ◌++◌, refl, drop, map, Bool, true, false, cond, ◌==◌, Option, Some, None, []}
use Rattle.std.proofs.lemmas.Bool.{eqb-true}
use Rattle.std.proofs.lemmas.List.Elements.{filter_map-append}
use Rattle.std.specs.List.{cons_option, filter_map}
use Rattle.std.specs.Option.{option_map, option_to_list}
use Rattle.pulsar_laws.proofs.ActWords.{Act, Ask, Bytes, Comes, Dials, Does, Get, Heard, LinkAct, ToLink}
use Rattle.pulsar_laws.proofs.RunWords.{Begins, calls_of, chosen_same, dialed, Entry, link_got, Options, rules, Then, view, View}
use Rattle.pulsar_laws.proofs.LinkWords.{closed_by, is_numbered, Seat, seat_fed, SendPing}
use Rattle.pulsar_frame.specs.Frame.{Front, Whole, front}
use Rattle.pulsar_requests.specs.Waits.{places}
use Rattle.pulsar_session.specs.declared.states.Stage.{Stage}
use Rattle.pulsar_session.specs.declared.states.Stage.TheVariants.{Handshaking, Ready}
use Rattle.pulsar_session.specs.Answers.{is}
use Rattle.pulsar_session.specs.Link.{Act as Act', Opens, Feeds, Takes, Asks, Drains, Closes, Seen, Setup, answered_to, greeted, is_open, is_over, moved_up, number_for, settled_by, taken_in, ticked}
use Rattle.pulsar_session.proofs.Still.{asked_of, moving, opening, unless}
use Rattle.pulsar_run.specs.Things.{row_after, row_by, since, since_act}
use Rattle.pulsar_links.specs.Asks.{Deed, IsAsked, IsClosed, IsDrained, IsFed, IsGot, IsOpened, IsPinged, IsRead, call_by, comes_by, got_by, seat_by}
use Rattle.pulsar_acts.specs.Things.{links}
use Rattle.pulsar_acts.specs.View.{link_acts, link_born, link_gone, link_heard, setup}
use Rattle.pulsar_laws.specs.Laws.{LinksAlone, call_at, dialed_with}
use Rattle.pulsar_laws.proofs.Cases.{none_some, some_is}
use Rattle.pulsar_laws.proofs.links.Rows.{CameFrom, after_so, links_keep}
use Rattle.pulsar_session.specs.Link as session
use Rattle.pulsar_calls.specs.declared.act.LinkAct.TheVariants as comes

-- ONLY A CLOSE ENDS A CONNECTION

abbrev pub is_close : Act' → Bool
is_close (Closes cause) = true
is_close _ = false

greeted_over : (b : Bool) (rest : List ℕ) (v : Seen) → v.stage ≡ Handshaking → is_over (greeted b rest v).stage ≡ is_over v.stage
greeted_over true rest v e = sym (ap is_over e)
greeted_over false rest v e = refl

taken_over : (stage : Stage) (f : Front) (v : Seen) → v.stage ≡ stage → is_over (taken_in stage f v).stage ≡ is_over v.stage
taken_over Handshaking (Whole m rest) v e = greeted_over (is 3 m) rest v e
taken_over Ready (Whole m rest) v e =
    let u = record v { unread = rest } in
    (unless (places (settled_by m u)) m (record u { waits = answered_to m u.waits })).over
taken_over _ _ v e = refl

pub over_stays : (act : Act') (v : Seen) → is_close act ≡ false → is_over (session.after act v).stage ≡ is_over v.stage
over_stays (Opens now) v c = (opening v.stage (ticked now v) refl).over
over_stays (Feeds piece) v c =
    elim (is_open v.stage) as (λ b. is_over (cond b (record v { unread = v.unread ++ piece }) v).stage ≡ is_over v.stage) [ true ↦ refl | false ↦ refl ]
over_stays (Takes now) v c = taken_over v.stage (front v.unread) (ticked now v) refl
over_stays (Asks now words) v c = (asked_of (number_for (is_numbered words) v) now words (ticked now v)).over
over_stays (Drains most now) v c =
    let b : Seen = record (ticked now v) { unwritten = drop most v.unwritten } in
    elim (is_open v.stage) as (λ o. is_over (cond o (moved_up v.line b) (ticked now v)).stage ≡ is_over v.stage) [
      | true ↦ (moving v.line b).over
      | false ↦ refl
    ]
over_stays (Closes cause) v c = absurd cc

-- WHAT SUCH CALLS MADE

pub record Made (start : Option Setup) (calls : List Act') (seen : Seen) : Type 0 where
  pub setup : Setup
  pub dialed : start ≡ Some setup
  pub same : seen ≡ session.seen setup calls
  pub live : is_over seen.stage ≡ false

-- by one call more
pub more : (start : Option Setup) (calls : List Act') (seen : Seen) → Made start calls seen → (act : Act') → is_close act ≡ false →
    Made start (act ∷ calls) (session.after act seen)
more start calls seen k act c =
    record { setup = k.setup; dialed = k.dialed; same = ap (session.after act) k.same; live = over_stays act seen c ∙ k.live }

-- by one thing more that is done to a link that stays
module _ (v : View) (l : ℕ) (a : Act) (start : Option Setup) (calls : List Act') (seat : Seat) (k : Made start calls seat.seen) where
  did_more : (d : Deed) → CameFrom v l a d → Made start (cons_option (call_by d) calls) (seat_by d seat).seen
  did_more (IsOpened now) c = more start calls seat.seen k (Opens now) refl
  did_more (IsRead now) c = more start calls seat.seen k (Takes now) refl
  did_more (IsDrained most now) c = more start calls seat.seen k (Drains most now) refl
  did_more (IsPinged now) c = more start calls seat.seen k (Asks now SendPing) refl
  did_more (IsAsked who now request) c = more start calls seat.seen k (Asks now request) refl
  did_more (IsGot now) c = k
  did_more (IsFed piece) c = absurd c
  did_more (IsClosed cause) c = absurd c

-- so of a row
abbrev Is : Option Setup → List Act' → Option Seat → Type 0
Is start calls row = (seat : Seat) → row ≡ Some seat → Made start calls seat.seen

fed_more : (start : Option Setup) (calls : List Act') (piece : List ℕ) (row : Option Seat) → Is start calls row →
    Is start (Feeds piece ∷ calls) (option_map (seat_fed piece) row)
fed_more start calls piece None k seat h = absurd (none_some h)
fed_more start calls piece (Some r) k seat h =
    subst (λ (t : Seat). Made start (Feeds piece ∷ calls) t.seen) (some_is h) (more start calls r.seen (k r refl) (Feeds piece) refl)

-- WHAT IT WAS DIALED WITH, AND THE CALLS OF ITS CONNECTION, by what was done to it

abbrev dialed_last : Option Seat → Option Setup → Option Setup
dialed_last None before = before
dialed_last (Some seat) before = Some seat.seen.setup

module _ (o : Options) (l : ℕ) where
  abbrev past : List Entry → List Deed
  past log = since rules links o log l

  dialed_so : (log : List Entry) (a : Act) → dialed_with o l (Then a ∷ log) ≡ dialed_last (link_born (view o log) l a) (dialed_with o l log)
  dialed_so log (Dials p starter retries) = by (l == n) refl
    where
      v : View
      v = view o log

      n : ℕ
      n = v.links.started

      by : (b : Bool) → (l == n) ≡ b →
          cond b (Some (setup o.chosen l v.now p)) (dialed_with o l log) ≡ dialed_last (cond b (Some (dialed v.chosen n v.now p)) None) (dialed_with o l log)
      by true e = ap (λ c. Some (setup c l v.now p)) (sym (chosen_same o log)) ∙ ap (λ k. Some (setup v.chosen k v.now p)) (eqb-true l n e)
      by false e = refl
  dialed_so log a = refl

  came_so : (x : LinkAct) (now : ℕ) (seat : Seat) (calls : List Act') →
      call_at x now (Some seat) ++ calls ≡ filter_map call_by (comes_by x now (Some seat)) ++ calls
  came_so comes.Opens now seat calls = refl
  came_so comes.Reads now seat calls = refl
  came_so (comes.Drains most) now seat calls = refl
  came_so comes.Pings now seat calls = refl
  came_so (comes.Ends end) now seat calls =
      elim (closed_by end now seat.seen) as
      (λ c. option_to_list (option_map Closes c) ++ calls ≡ filter_map call_by (map IsClosed (option_to_list c)) ++ calls)
      [ None ↦ refl | Some cause ↦ refl ]

  got_so : (link : Option ℕ) (now : ℕ) → filter_map call_by (got_by l link now) ≡ []
  got_so None now = refl
  got_so (Some k) now = elim (l == k) as (λ b. filter_map call_by (cond b (IsGot now ∷ []) []) ≡ []) [ true ↦ refl | false ↦ refl ]

  -- by an act that leaves it there
  one_more : (log : List Entry) (a : Act) (seat : Seat) → (view o log).links.live l ≡ Some seat → link_born (view o log) l a ≡ None →
      calls_of o l (Then a ∷ log) ≡ filter_map call_by (link_acts (view o log) l a) ++ calls_of o l log
  one_more log (Comes (ToLink k x)) seat h born =
      let now : ℕ = (view o log).now in
      ap (λ row. cond (l == k) (call_at x now row ++ calls_of o l log) (calls_of o l log)) h
      ∙ by (l == k)
      ∙ ap (λ row. filter_map call_by (cond (l == k) (comes_by x now row) []) ++ calls_of o l log) (sym h)
    where
      by : (b : Bool) → cond b (call_at x (view o log).now (Some seat) ++ calls_of o l log) (calls_of o l log)
          ≡ filter_map call_by (cond b (comes_by x (view o log).now (Some seat)) []) ++ calls_of o l log
      by true = came_so x (view o log).now seat (calls_of o l log)
      by false = refl
  one_more log (Does who (Get p)) seat h born =
      let v : View = view o log in ap (λ cs. cs ++ calls_of o l log) (sym (got_so (link_got v.addresses (Does who (Get p))) v.now))
  one_more log (Does who (Ask k request)) seat h born =
      elim (l == k) as
      (λ b. cond b (Asks (view o log).now request ∷ calls_of o l log) (calls_of o l log)
      ≡ filter_map call_by (cond b (IsAsked who (view o log).now request ∷ []) []) ++ calls_of o l log) [ true ↦ refl | false ↦ refl ]
  one_more log (Dials p starter retries) seat h born = by (l == (view o log).links.started) born
    where
      by : (b : Bool) → cond b (Some (dialed (view o log).chosen (view o log).links.started (view o log).now p)) None ≡ None →
          cond b [] (calls_of o l log) ≡ calls_of o l log
      by true e = absurd (none_some (sym e))
      by false e = refl
  one_more log a seat h born = refl

  heard_one : (e : Heard) (log : List Entry) → calls_of o l (Begins e ∷ log) ≡ filter_map call_by (link_heard l e) ++ calls_of o l log
  heard_one (Bytes k piece) log =
      elim (l == k) as (λ b. cond b (Feeds piece ∷ calls_of o l log) (calls_of o l log) ≡ filter_map call_by (cond b (IsFed piece ∷ []) []) ++ calls_of o l log)
      [ true ↦ refl | false ↦ refl ]
  heard_one e log = refl

  -- and by one that makes it there are none
  born_calls : (log : List Entry) (a : Act) (new : Seat) → link_born (view o log) l a ≡ Some new → calls_of o l (Then a ∷ log) ≡ []
  born_calls log (Dials p starter retries) new h = by (l == (view o log).links.started) h
    where
      by : (b : Bool) → cond b (Some (dialed (view o log).chosen (view o log).links.started (view o log).now p)) None ≡ Some new →
          cond b [] (calls_of o l log) ≡ []
      by true e = refl
      by false e = absurd (none_some e)
  born_calls log a new h = absurd (none_some h)

  -- one that is there was there before
  done_before : (es : List Deed) (row : Option Seat) (seat : Seat) → row_by seat_by es row ≡ Some seat → (old : Seat) × (row ≡ Some old)
  done_before [] row seat h = (seat, h)
  done_before (e ∷ es) None seat h = absurd (none_some h)
  done_before (e ∷ es) (Some old) seat h = (old, refl)

  kept_before : (gone : Bool) (es : List Deed) (row : Option Seat) (seat : Seat) → row_after seat_by None gone es row ≡ Some seat →
      (old : Seat) × (row ≡ Some old)
  kept_before true es row seat h = absurd (none_some h)
  kept_before false es row seat h = done_before es row seat h

  abbrev pub calls_done : List Entry → List Act'
  calls_done log = filter_map call_by (past log)

  same_calls : (log : List Entry) (seat : Seat) → (view o log).links.live l ≡ Some seat → calls_of o l log ≡ calls_done log
  same_calls [] seat h = refl
  same_calls (Begins e ∷ log) seat h =
      let k = done_before (link_heard l e) ((view o log).links.live l) seat (sym (links_keep.begins e (view o log) l) ∙ h) in
      heard_one e log
      ∙ ap (λ cs. filter_map call_by (link_heard l e) ++ cs) (same_calls log k.0 k.1)
      ∙ sym (filter_map-append call_by (link_heard l e) (past log))
  same_calls (Then a ∷ log) seat h = by (λ old k. same_calls log old k) (link_born (view o log) l a) refl
    where
      v : View
      v = view o log

      by : ((old : Seat) → v.links.live l ≡ Some old → calls_of o l log ≡ calls_done log) → (born : Option Seat) → link_born v l a ≡ born →
          calls_of o l (Then a ∷ log) ≡ calls_done (Then a ∷ log)
      by so (Some new) e = born_calls log a new e ∙ ap (λ b. filter_map call_by (since_act b (link_acts v l a) (past log))) (sym e)
      by so None e =
          let k = kept_before (link_gone v l a) (link_acts v l a) (v.links.live l) seat
          (ap (λ b. row_after seat_by b (link_gone v l a) (link_acts v l a) (v.links.live l)) (sym e) ∙ h) in
          one_more log a k.0 k.1 e
          ∙ ap (λ cs. filter_map call_by (link_acts v l a) ++ cs) (so k.0 k.1)
          ∙ sym (filter_map-append call_by (link_acts v l a) (past log))
          ∙ ap (λ b. filter_map call_by (since_act b (link_acts v l a) (past log))) (sym e)

-- ALONG A LOG

module _ (o : Options) where
  heard_more : (log : List Entry) (l : ℕ) (e : Heard) (row : Option Seat) → Is (dialed_with o l log) (calls_done o l log) row →
      Is (dialed_with o l log) (filter_map call_by (link_heard l e ++ past o l log)) (row_by seat_by (link_heard l e) row)
  heard_more log l (Bytes k piece) row h =
      elim (l == k) as
      (λ b. Is (dialed_with o l log) (filter_map call_by (cond b (IsFed piece ∷ []) [] ++ past o l log)) (row_by seat_by (cond b (IsFed piece ∷ []) []) row))
      [ true ↦ fed_more (dialed_with o l log) (calls_done o l log) piece row h | false ↦ h ]
  heard_more log l e row h = h

  pub alone_by_deed : (log : List Entry) (l : ℕ) → Is (dialed_with o l log) (calls_done o l log) ((view o log).links.live l)
  alone_by_deed [] l = λ seat h. absurd (none_some h)
  alone_by_deed (Begins e ∷ log) l =
      let v : View = view o log in
      subst (Is (dialed_with o l log) (filter_map call_by (link_heard l e ++ past o l log))) (sym (links_keep.begins e v l))
      (heard_more log l e (v.links.live l) (alone_by_deed log l))
  alone_by_deed (Then a ∷ log) l =
      let v : View = view o log in
      let start : Option Setup = dialed_with o l log in
      subst (λ d. Is d (calls_done o l (Then a ∷ log)) ((view o (Then a ∷ log)).links.live l)) (sym (dialed_so o l log a))
      (after_so (λ born acts row. Is (dialed_last born start) (filter_map call_by (since_act born acts (past o l log))) row) v l a
      (λ new d seat h.
      subst (λ (t : Seat). Made (Some new.seen.setup) [] t.seen) (some_is h)
      (subst (λ (t : Seat). Made (Some t.seen.setup) [] t.seen) d.is_it (record {
        setup = setup v.chosen v.links.started v.now d.place;
        dialed = refl;
        same = refl;
        live = refl;
      })))
      (λ end seat h. absurd (none_some h)) (alone_by_deed log l) (λ d c none seat h. absurd (none_some h))
      (λ d c old e seat h.
      subst (λ (t : Seat). Made start (cons_option (call_by d) (calls_done o l log)) t.seen) (some_is h)
      (did_more v l a start (calls_done o l log) old (alone_by_deed log l old e) d c)))

  pub alone : (log : List Entry) (l : ℕ) → Is (dialed_with o l log) (calls_of o l log) ((view o log).links.live l)
  alone log l seat h = subst (λ calls. Made (dialed_with o l log) calls seat.seen) (sym (same_calls o l log seat h)) (alone_by_deed log l seat h)

pub links_alone_lem : LinksAlone
links_alone_lem o log l seat h = let k : Made (dialed_with o l log) (calls_of o l log) seat.seen = alone o log l seat h in (k.setup, k.dialed, k.same)
