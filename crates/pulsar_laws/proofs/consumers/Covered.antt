-- The flows that were asked for since the live subscription was made are no more than those that were taken since then.
use Rattle.std.proofs.Common.{◌≡◌, ◌⊎◌, inl, inr, ◌∙◌, sym, ap, subst, ℕ, ◌+◌, ◌≤◌, ◌==◌, List, [], ◌∷◌, ◌++◌, refl, arith, Bool, true, false, ◌&&◌, cond, eq-eqb, Option, Some, None, unwrap_or}
use Rattle.std.proofs.lemmas.Bool.{cases_Bool, eqb-true}
use Rattle.std.proofs.lemmas.List.Sums.{sum_by-cons}
use Rattle.std.specs.Option.{is_some, option_map}
use Rattle.pulsar_laws.proofs.ActWords.{Act, Answers, Arrival, Ask, Consumer, Does, Notice, Revive, TakeFlow, ticket_of, Told, OfConsumer}
use Rattle.pulsar_laws.proofs.RunWords.{Begins, EndsOnce, Entry, IsRun, notice, Options, Then, view, View}
use Rattle.pulsar_laws.proofs.LinkWords.{answer_at, Fault, is_body, place_of, Reply, Seat, url_at}
use Rattle.pulsar_messages.specs.Words as words
use Rattle.pulsar_consumer.specs.Laws.{asked_since}
use Rattle.pulsar_consumer.specs.Topic.{Act as Done, Lives, Hears, Loses, Fails, Ends as Over, Polls as Polled, Asks, IsAt, TakesCopy, IsCopied, FailsCopy, Stops, Forgets, Checks, Seen, Live, Setup, first_due, link_of, lives_on, seen}
use Rattle.pulsar_incoming.specs.declared.polled.Ending.TheVariants.{TopicEnded}
use Rattle.pulsar_calls.specs.declared.act.Arrival.TheVariants as arrivals
use Rattle.pulsar_calls.specs.declared.act.Outcome.TheVariants as outcome
use Rattle.pulsar_calls.specs.declared.act.Word.TheVariants as word
use Rattle.pulsar_consumer_table.specs.Consumers.{Arrives, CloseAsked, Deed, LinkEnds, Member, Revived, is_closed_by}
use Rattle.pulsar_laws.proofs.Cases.{none_some, some_is}
use Rattle.pulsar_laws.proofs.calls.Ticketed.{consumer_ticket}
use Rattle.pulsar_laws.specs.ConsumerLaws.{Flow, arrival_does, does_to, done_since, done_to, flows_after, flows_since, frame_does, loss_does, made_with, permits_of, subscription_does}
use Rattle.pulsar_laws.proofs.producers.Drawing.{Every, here}
use Rattle.pulsar_laws.proofs.consumers.Deeds.{deed_does}
use Rattle.pulsar_laws.proofs.consumers.Lone.{IsKept, IsMade, IsNone, RowFrom, begun_rows, consumers_alone_lem, did_so, is_revival, row_from}
use Rattle.pulsar_laws.proofs.consumers.Members.{CameFrom}
use Rattle.pulsar_laws.proofs.consumers.Placed.{IsPlaced, asked_there, is_placed}
use Rattle.pulsar_laws.proofs.consumers.Queueing.{flows_run, fresh_below, fresh_none}
use Rattle.pulsar_laws.proofs.consumers.Riding.{LinkFrom, link_from}

-- BUT FOR A NEW SUBSCRIPTION none that was taken is forgotten

abbrev makes_new : List Done → Bool
makes_new [] = false
makes_new (Lives l url ∷ xs) = true
makes_new (x ∷ xs) = makes_new xs

taken_more : (s : Setup) (xs h : List Done) → makes_new xs ≡ false → asked_since s h ≤ asked_since s (xs ++ h)
taken_more s [] h e = omega arith
taken_more s (Lives l url ∷ xs) h e = absurd cc
taken_more s (Hears l f ∷ xs) h e = taken_more s xs h e
taken_more s (Loses l ∷ xs) h e = taken_more s xs h e
taken_more s (Fails f ∷ xs) h e = taken_more s xs h e
taken_more s (Over why ∷ xs) h e = taken_more s xs h e
taken_more s (Polled clock ∷ xs) h e = taken_more s xs h e
taken_more s (IsAt clock ∷ xs) h e = taken_more s xs h e
taken_more s (TakesCopy ∷ xs) h e = taken_more s xs h e
taken_more s (IsCopied key clock ∷ xs) h e = taken_more s xs h e
taken_more s (FailsCopy key clock ∷ xs) h e = taken_more s xs h e
taken_more s (Stops ∷ xs) h e = taken_more s xs h e
taken_more s (Forgets id ∷ xs) h e = taken_more s xs h e
taken_more s (Checks clock ∷ xs) h e = taken_more s xs h e
taken_more s (Asks ∷ xs) h e =
    let k = taken_more s xs h e in
    let n : ℕ = unwrap_or (first_due (seen s (xs ++ h)).engine.live) 0 in
    let g : asked_since s h ≤ asked_since s (xs ++ h) + n = omega (arith, k) in
    g

pub either_new : (b : Bool) (xs ys : List Done) → makes_new xs ≡ false → makes_new ys ≡ false → makes_new (cond b xs ys) ≡ false
either_new true xs ys p q = p
either_new false xs ys p q = q

frame_new : (l : ℕ) (r : Reply) (s : Seen) → makes_new (frame_does l r s) ≡ false
frame_new l r s =
    either_new (is_body 9 r.content.body) _ _ refl
    (either_new (is_body 27 r.content.body) (cond (lives_on l s) (Over TopicEnded ∷ []) []) _ (either_new (lives_on l s) _ _ refl refl)
    (either_new (is_body 16 r.content.body) _ _ refl refl))

arrival_new : (l : ℕ) (a : Arrival) (s : Seen) → makes_new (arrival_does l a s) ≡ false
arrival_new l (arrivals.Gives n r) s = either_new (s.number == n) (frame_does l r s) [] (frame_new l r s) refl
arrival_new l _ s = refl

loss_new : (l : ℕ) (cause : Option Fault) → makes_new (loss_does l cause) ≡ false
loss_new l None = refl
loss_new l (Some cause) = refl

none_new : (xs ys : List Done) → makes_new xs ≡ false → makes_new ys ≡ false → makes_new (xs ++ ys) ≡ false
none_new [] ys p q = q
none_new (Lives l url ∷ xs) ys p q = absurd cc
none_new (Hears l f ∷ xs) ys p q = none_new xs ys p q
none_new (Loses l ∷ xs) ys p q = none_new xs ys p q
none_new (Fails f ∷ xs) ys p q = none_new xs ys p q
none_new (Over why ∷ xs) ys p q = none_new xs ys p q
none_new (Polled clock ∷ xs) ys p q = none_new xs ys p q
none_new (IsAt clock ∷ xs) ys p q = none_new xs ys p q
none_new (TakesCopy ∷ xs) ys p q = none_new xs ys p q
none_new (IsCopied key clock ∷ xs) ys p q = none_new xs ys p q
none_new (FailsCopy key clock ∷ xs) ys p q = none_new xs ys p q
none_new (Stops ∷ xs) ys p q = none_new xs ys p q
none_new (Forgets id ∷ xs) ys p q = none_new xs ys p q
none_new (Checks clock ∷ xs) ys p q = none_new xs ys p q
none_new (Asks ∷ xs) ys p q = none_new xs ys p q

other_new : (v : View) (t : ℕ) (a : Act) → is_revival a ≡ false → (m : Member) → makes_new (does_to v t m a) ≡ false
other_new v t a h = did_so (λ xs s. makes_new xs ≡ false) (λ s. refl) (λ xs ys s q p. none_new xs ys p q) v t a one
  where
    one : (d : Deed) → CameFrom v t a d → (m : Member) → makes_new (deed_does d m) ≡ false
    one (Arrives l x) c m = arrival_new l x m.seen
    one (LinkEnds l cause) c m = loss_new l cause
    one (CloseAsked closed l b) c m = either_new (b && is_closed_by closed l m) _ _ refl refl
    one (Revived l url) c m = let f : true ≡ false = sym (ap is_revival c.1) ∙ h in absurd cc
    one _ c m = refl

-- an act makes none, or begins the flows anew
does_new : (v : View) (t : ℕ) (m : Member) (a : Act) (fs : List Flow) → (makes_new (does_to v t m a) ≡ false) ⊎ (flows_after v t a fs ≡ [])
does_new v t m (Does who (OfConsumer (Revive l))) fs = by (t == ticket_of who) (v.links.live l)
  where
    by : (b : Bool) (row : Option Seat) →
        (makes_new (cond b (subscription_does l (url_at row)) []) ≡ false) ⊎ (cond (b && is_some row) [] fs ≡ [])
    by true None = inl refl
    by true (Some seat) = inr refl
    by false row = inl refl
does_new v t m a fs = inl (other_new v t a refl m)

-- ALONG A LOG

abbrev pub Covered : Options → (ticket : ℕ) → List Entry → Type 0
Covered o t log = (m : Member) (l : ℕ) (s : Setup) → (view o log).consumers.rows t ≡ Some m → link_of m.seen ≡ Some l → made_with o t log ≡ Some s →
    permits_of (flows_since o t log) ≤ asked_since s (done_to o t log)

pub none_covered : (fs : List Flow) (n : ℕ) → fs ≡ [] → permits_of fs ≤ n
none_covered fs n e = let z : permits_of fs ≡ 0 = ap permits_of e in omega (arith, z)

-- A FLOW THAT IS ASKED FOR was taken right before

pub row_done : (v : View) (t : ℕ) (a : Act) (m : Member) (row : Option Member) (h : List Done) → row ≡ Some m → done_since v t a row h ≡ does_to v t m a ++ h
row_done v t a m row h e = ap (λ r. done_since v t a r h) e ∙ by a
  where
    by : (a : Act) → done_since v t a (Some m) h ≡ does_to v t m a ++ h
    by (Answers who verdict) = refl
    by a = refl

module _ (once : EndsOnce) (o : Options) (log : List Entry) (n t l m p : ℕ) (run : IsRun o log) (x : IsPlaced o log n t l m p) where
  abbrev pub told_so : Notice
  told_so = notice (Consumer n t) (outcome.Word (word.Flow l p))

  abbrev pub took : List Entry
  took = Then (Does (Consumer n t) (OfConsumer TakeFlow)) ∷ x.older

  before : IsRun o x.older
  before = (subst (IsRun o) x.is_behind run).0.0

  pub done_then : done_to o t log ≡ Asks ∷ done_to o t x.older
  done_then =
      ap (done_to o t) x.is_behind
      ∙ row_done (view o took) t (Told told_so) _ ((view o took).consumers.rows t) (done_to o t took)
      (asked_there o x.older n t told_so x.was_due.member x.was_due.is_there)
      ∙ row_done (view o x.older) t (Does (Consumer n t) (OfConsumer TakeFlow)) x.was_due.member ((view o x.older).consumers.rows t)
      (done_to o t x.older) x.was_due.is_there
      ∙ ap (λ b. (cond b (Asks ∷ []) []) ++ done_to o t x.older) (eq-eqb t t refl)

  -- its permits count as taken
  pub taken_then : (s : Setup) → made_with o t log ≡ Some s → asked_since s (done_to o t log) ≡ asked_since s (done_to o t x.older) + p
  taken_then s made =
      let c = consumers_alone_lem once o x.older t x.was_due.member before x.was_due.is_there in
      let same : c.0 ≡ s = some_is (sym c.1 ∙ sym (ap (made_with o t) x.is_behind) ∙ made) in
      let live : (seen s (done_to o t x.older)).engine.live ≡ Some x.was_due.live =
      ap (λ y. (seen y (done_to o t x.older)).engine.live) (sym same) ∙ ap (λ y. y.engine.live) (sym c.2) ∙ x.was_due.is_live in
      ap (asked_since s) done_then
      ∙ ap (λ y. asked_since s (done_to o t x.older) + unwrap_or (first_due y) 0) live
      ∙ ap (λ y. asked_since s (done_to o t x.older) + unwrap_or y 0) x.was_due.due

  asked_covered : Every (Covered o t) log → (s : Setup) → made_with o t log ≡ Some s → permits_of (flows_since o t log) + p ≤ asked_since s (done_to o t log)
  asked_covered k s made =
      let e : Every (Covered o t) (Then (Told told_so) ∷ took) = subst (Every (Covered o t)) x.is_behind k in
      let link : link_of x.was_due.member.seen ≡ Some l = ap (option_map (λ (y : Live). y.link)) x.was_due.is_live ∙ ap Some x.was_due.on in
      let old = here (Covered o t) x.older e.1.1 x.was_due.member l s x.was_due.is_there link (sym (ap (made_with o t) x.is_behind) ∙ made) in
      let flows : permits_of (flows_since o t log) ≡ permits_of (flows_since o t x.older) = ap (λ y. permits_of (flows_since o t y)) x.is_behind in
      let taken = taken_then s made in
      omega (arith, old, flows, taken)

-- ALL ACTS

module _ (once : EndsOnce) (o : Options) (log : List Entry) (t : ℕ) (k : Every (Covered o t) log) where
  abbrev v : View
  v = view o log

  abbrev fs : List Flow
  fs = flows_since o t log

  -- none is asked for by it
  plain_covered : (a : Act) (l : ℕ) (s : Setup) (m : Member) → IsRun o (Then a ∷ log) → LinkFrom o log a t l → v.consumers.rows t ≡ Some m →
      made_with o t log ≡ Some s → flows_after v t a fs ≡ fs → permits_of (flows_after v t a fs) ≤ asked_since s (does_to v t m a ++ done_to o t log)
  plain_covered a l s m run (inl (was, e, on)) is made same =
      let old = here (Covered o t) log k was l s e on made in
      let f : permits_of (flows_after v t a fs) ≡ permits_of fs = ap permits_of same in
      elim (does_new v t m a fs) [
        | inl new ↦ (let more = taken_more s (does_to v t m a) (done_to o t log) new in omega (arith, old, f, more))
        | inr none ↦ none_covered (flows_after v t a fs) _ none
      ]
  plain_covered a l s m run (inr fresh) is made same =
      none_covered (flows_after v t a fs) _ (fresh_below once o log t (flows_run once o log t run.0) a run fresh)

  kept_covered : (a : Act) (l : ℕ) (s : Setup) (m : Member) → IsRun o (Then a ∷ log) → LinkFrom o log a t l → v.consumers.rows t ≡ Some m →
      made_with o t log ≡ Some s → permits_of (flows_after v t a fs) ≤ asked_since s (does_to v t m a ++ done_to o t log)
  kept_covered (Does (Consumer n u) (Ask j (words.SendFlow m' p))) l s m run from is made = elim (cases_Bool (t == u)) [
    | inl d ↦
        (let a : Act = Does (Consumer n u) (Ask j (words.SendFlow m' p)) in
        let run2 : IsRun o (Then (Does (Consumer n t) (Ask j (words.SendFlow m' p))) ∷ log) =
        subst (λ y. IsRun o (Then (Does (Consumer n y) (Ask j (words.SendFlow m' p))) ∷ log)) (sym (eqb-true t u d)) run in
        let x : IsPlaced o log n t j m' p = is_placed once o log n t j m' p run2 in
        let old = asked_covered once o log n t j m' p run.0 x k s made in
        let more = taken_more s (does_to v t m a) (done_to o t log) (ask_new m n u j m' p) in
        let new : Flow = record { place = place_of (answer_at v.now (words.SendFlow m' p) (v.links.live j)); permits = p } in
        let f : permits_of (new ∷ fs) ≡ p + permits_of fs = sum_by-cons (λ (y : Flow). y.permits) new fs in
        let g : permits_of (flows_after v t a fs) ≡ permits_of (new ∷ fs) = ap (λ b. permits_of (cond b (new ∷ fs) fs)) d in
        omega (arith, old, more, f, g))
    | inr d ↦
        plain_covered (Does (Consumer n u) (Ask j (words.SendFlow m' p))) l s m run from is made
        (ap (λ b. cond b (record { place = place_of (answer_at v.now (words.SendFlow m' p) (v.links.live j)); permits = p } ∷ fs) fs) d)
  ]
    where
      ask_new : (m : Member) (n u j m' p : ℕ) → makes_new (does_to v t m (Does (Consumer n u) (Ask j (words.SendFlow m' p)))) ≡ false
      ask_new m n u j m' p = other_new v t (Does (Consumer n u) (Ask j (words.SendFlow m' p))) refl m
  kept_covered (Does who (OfConsumer (Revive j))) l s m run from is made = elim (cases_Bool (t == ticket_of who && is_some (v.links.live j))) [
    | inl d ↦ none_covered (flows_after v t (Does who (OfConsumer (Revive j))) fs) _ (ap (λ b. cond b [] fs) d)
    | inr d ↦ plain_covered (Does who (OfConsumer (Revive j))) l s m run from is made (ap (λ b. cond b [] fs) d)
  ]
  kept_covered a l s m run from is made = plain_covered a l s m run from is made refl

  row_covered : (a : Act) → IsRun o (Then a ∷ log) → (m : Member) (l : ℕ) (s : Setup) → (view o (Then a ∷ log)).consumers.rows t ≡ Some m →
      made_with o t (Then a ∷ log) ≡ Some s → LinkFrom o log a t l → RowFrom o log a t →
      permits_of (flows_after v t a fs) ≤ asked_since s (done_to o t (Then a ∷ log))
  row_covered a run m l s is made from (IsNone e f) = absurd (none_some (sym f ∙ is))
  row_covered a run m l s is made from (IsMade s2 l2 e f how did) =
      none_covered (flows_after v t a fs) _ (fresh_none once o log t (flows_run once o log t run.0) a run e)
  row_covered a run m l s is made from (IsKept m2 e r how did) =
      subst (λ h. permits_of (flows_after v t a fs) ≤ asked_since s h) (sym did) (kept_covered a l s m2 run from e (sym how ∙ made))

pub covered_run : EndsOnce → (o : Options) (log : List Entry) (t : ℕ) → IsRun o log → Every (Covered o t) log
covered_run once o [] t run = λ m l s is on made. absurd (none_some is)
covered_run once o (Begins e ∷ log) t run =
    let k = covered_run once o log t run.0 in
    (λ m l s is on made. here (Covered o t) log k m l s (sym (begun_rows e (view o log) t) ∙ is) on made, k)
covered_run once o (Then a ∷ log) t run =
    let k = covered_run once o log t run.0 in (
      λ m l s is on made.
          row_covered once o log t k a run m l s is made (link_from once o log a t l m run is on)
          (row_from o log t once a (consumer_ticket o (Then a ∷ log) t m run is) run),
      k,
    )
