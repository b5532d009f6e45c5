-- A batch whose frame is queued is settled by what becomes of that; and by a receipt only where it is queued.
use Rattle.std.proofs.Common.{◌≡◌, ◌⊎◌, inl, inr, ◌∙◌, sym, ap, subst, ℕ, ◌+◌, ◌≤◌, arith, List, ◌∷◌, refl, Bool, true, false, ◌&&◌, cond, Some, Ok, Err}
use Rattle.std.proofs.lemmas.Bool.{cases_Bool}
use Rattle.pulsar_laws.proofs.ActWords.{Action, Does, Notice, OfTopic, Outcome, Procedure, Producer, Rest, Starts, TakeBatch, TellAll, Told, Who, is_same}
use Rattle.pulsar_laws.proofs.PlanWords.{Batches, Batching, begins, Deed, Errand, Member, News, news_of, overrides, Plan, Sending as Send, Stays, told, Ways}
use Rattle.pulsar_laws.proofs.RunWords.{Begins, Entry, IsRun, notice, Options, Then, View, view}
use Rattle.pulsar_producer.specs.Batching.{is_sent_send}
use Rattle.pulsar_producer.specs.Plans as produce
use Rattle.pulsar_producer.specs.Plans.{Sent}
use Rattle.pulsar_producer.specs.declared.batching.Batching.TheVariants as batching
use Rattle.pulsar_producer.specs.declared.sending.Sending.TheVariants as send
use Rattle.pulsar_outgoing.specs.declared.news.News.TheVariants as news
use Rattle.pulsar_calls.specs.declared.act.Outcome.TheVariants as outcome
use Rattle.pulsar_laws.specs.BatchLaws.{QueuedIsWaitedFor, asks_batch, frames_queued, is_granted}
use Rattle.pulsar_laws.specs.ProducerLaws.{asks_in, is_queued}
use Rattle.pulsar_laws.proofs.plans.Batched.{BatchSo, Comes, IsSending, IsSettling, tells_where}
use Rattle.pulsar_laws.proofs.plans.Granted.{GivenBy, granted_by, grants_given}
use Rattle.pulsar_laws.proofs.plans.Owned.{starts_own}
use Rattle.pulsar_producer.proofs.Arcs.{SendArc, queued, send_arc, sent_rests}
use Rattle.pulsar_laws.proofs.plans.Standing.{moves, run_older, stands_so}
use Rattle.pulsar_laws.proofs.producers.BatchFailing.{is_told_news, never_told}
use Rattle.pulsar_laws.proofs.producers.BatchRun.{AtDeed, Batched, PromptSo, batched_run, calm_at, deed_at, is_batch_deed, never_both, self_same, turn_so}
use Rattle.pulsar_laws.proofs.producers.BatchSent.{Few, batch_sent_once_lem, cases_in, few_run, left_some, none_yet}
use Rattle.pulsar_laws.proofs.producers.Drawing.{here}
use Rattle.pulsar_searches.specs.declared.transition.Transition.TheVariants as transition

-- WHERE ONE COMES TO THIS STATE: it was told that its frame is queued

-- nobody is granted that
never_queued : (o : Options) (log : List Entry) (who : Who) → IsRun o (Then (Told (notice who (outcome.Granted news.Queued))) ∷ log) → ⊥
never_queued o log who run =
    let n : Notice = notice who (outcome.Granted news.Queued) in
    let k = granted_by o log n refl run in
    none (view o k.older) k.action (grants_given o log n k news.Queued refl)
  where
    none : (v : View) (action : Action) → GivenBy v action news.Queued → ⊥
    none v (OfTopic n ask) h = h
    none v _ h = h

told_queued : (o : Options) (log : List Entry) (who : Who) (u : Outcome) → IsRun o (Then (Told (notice who u)) ∷ log) → news_of u ≡ news.Queued →
    is_queued u ≡ true
told_queued o log who outcome.Queued run h = refl
told_queued o log who (outcome.Granted y) run h =
    absurd (never_queued o log who (subst (λ z. IsRun o (Then (Told (notice who (outcome.Granted z))) ∷ log)) h run))
told_queued o log who outcome.InLine run h = absurd cc
told_queued o log who _ run h = absurd cc

sent_from : {w : Ways} {e : Errand} {s q : Send} {y : News} {d : Deed} → SendArc w e s y q d → is_sent_send q ≡ true →
    (is_sent_send s ≡ true) ⊎ ((asks_in s ≡ true) × (y ≡ news.Queued))
sent_from queued h = inr (refl, refl)
sent_from sent_rests h = inl refl
sent_from _ h = absurd cc

-- ALONG A LOG

abbrev SentSo : Options → List Entry → ℕ → Plan → Type 0
SentSo o log n (Batching w e (batching.Sending ms c s)) = is_sent_send s ≡ true → 1 ≤ frames_queued o n log
SentSo o log n _ = Unit {0}

sent_more : (o : Options) (log : List Entry) (x : Entry) (n : ℕ) (p : Plan) →
    (calm_at p ≡ true → frames_queued o n (x ∷ log) ≡ frames_queued o n log) → SentSo o log n p → SentSo o (x ∷ log) n p
sent_more o log x n (Batching w e (batching.Sending ms c s)) same k = λ h. subst (λ f. 1 ≤ f) (sym (same refl)) (k h)
sent_more o log x n (Batching w e batching.Resting) same k = tt
sent_more o log x n (Batching w e batching.Taking) same k = tt
sent_more o log x n (Batching w e batching.Settling) same k = tt
sent_more o log x n _ same k = tt

frames_same : (o : Options) (log : List Entry) (n : ℕ) (who : Who) (a : Action) → (is_same (Producer n) who ≡ true → is_batch_deed a ≡ true → ⊥) →
    frames_queued o n (Then (Does who a) ∷ log) ≡ frames_queued o n log
frames_same o log n who (OfTopic m TakeBatch) other = elim (cases_Bool (is_same (Producer n) who)) [ inl e ↦ absurd (other e refl) | inr e ↦ rw e refl ]
frames_same o log n who _ other = refl

more_frames : (b : Bool) (f : ℕ) → 1 ≤ f → 1 ≤ cond b (f + 1) f
more_frames true f h = omega arith
more_frames false f h = h

one_frame : (b : Bool) (f : ℕ) → b ≡ true → 1 ≤ cond b (f + 1) f
one_frame true f h = omega arith
one_frame false f h = absurd cc

module _ (o : Options) (log : List Entry) (n : ℕ) (u : Outcome) (run : IsRun o (Then (Told (notice (Producer n) u)) ∷ log)) where
  abbrev later : List Entry
  later = Then (Told (notice (Producer n) u)) ∷ log

  abbrev counts : Bool
  counts = is_same (Producer n) (Producer n) && (is_queued u && asks_batch ((view o log).stand (Producer n)))

  sent_on : (w : Ways) (e : Errand) (ms : List Member) (c : ℕ) (s : Send) (a : Action) (b : Batches) → SentSo o log n (Batching w e b) →
      (view o log).stand (Producer n) ≡ Some (Batching w e b) → IsSending w e ms c s a b u → is_sent_send s ≡ true → 1 ≤ frames_queued o n later
  sent_on w e ms c s a batching.Resting k stood x sent = absurd x
  sent_on w e ms c s a batching.Taking k stood x sent = let f : true ≡ false = sym sent ∙ ap is_sent_send x.6 in absurd cc
  sent_on w e ms c s a (batching.Sending ns d old) k stood x sent = elim (sent_from (send_arc x.2.1) sent) [
    | inl was ↦ more_frames counts (frames_queued o n log) (k was)
    | inr q ↦
        (let now : (is_queued u && asks_batch ((view o log).stand (Producer n))) ≡ true =
        ap (λ z. z && asks_batch ((view o log).stand (Producer n))) (told_queued o log (Producer n) u run q.1) ∙ ap asks_batch stood ∙ q.0 in
        one_frame counts (frames_queued o n log)
        (ap (λ z. z && (is_queued u && asks_batch ((view o log).stand (Producer n)))) (self_same n) ∙ now))
  ]
  sent_on w e ms c s a batching.Settling k stood x sent = absurd x

  sent_to : (w : Ways) (e : Errand) (b : Batches) (p : Plan) (a : Action) → SentSo o log n (Batching w e b) →
      (view o log).stand (Producer n) ≡ Some (Batching w e b) → BatchSo w e b u p a → SentSo o later n p
  sent_to w e b (Batching v x (batching.Sending ms c s)) a k stood g = sent_on w e ms c s a b k stood g.2
  sent_to w e b (Batching v x batching.Resting) a k stood g = tt
  sent_to w e b (Batching v x batching.Taking) a k stood g = tt
  sent_to w e b (Batching v x batching.Settling) a k stood g = tt
  sent_to w e b _ a k stood g = absurd g

sent_so : (o : Options) (n : ℕ) (log : List Entry) (p : Plan) → IsRun o log → (view o log).stand (Producer n) ≡ Some p → SentSo o log n p
sent_so o n = stands_so o (Producer n) (IsRun o) (run_older o) (λ log p. SentSo o log n p) more begun goes_on
  where
    more : (x : Entry) (log : List Entry) (p : Plan) → moves (Producer n) x ≡ false → IsRun o (x ∷ log) → (view o log).stand (Producer n) ≡ Some p →
        SentSo o log n p → SentSo o (x ∷ log) n p
    more (Then (Does who a)) log p m run s k =
        sent_more o log (Then (Does who a)) n p (λ calm. frames_same o log n who a (never_both o log who a n p run (batched_run o log run.0) s calm)) k
    more (Then (Told x)) log p m run s k =
        sent_more o log (Then (Told x)) n p
        (λ calm. ap (λ c. cond (c && (is_queued x.outcome && asks_batch ((view o log).stand (Producer n)))) (frames_queued o n log + 1)
        (frames_queued o n log)) m) k
    more (Then a) log p m run s k = sent_more o log (Then a) n p (λ calm. refl) k
    more (Begins e) log p m run s k = sent_more o log (Begins e) n p (λ calm. refl) k

    begun : (log : List Entry) (q : Procedure) (p : Plan) (a : Action) → IsRun o (Then (Starts (Producer n) q) ∷ log) → begins q ≡ Stays p a →
        SentSo o (Then (Starts (Producer n) q) ∷ log) n p
    begun log q p a run e =
        let s = starts_own o log n q run in
        let b : Plan = Batching s.0 (record { producer = n; block = s.1 }) batching.Resting in
        let f : Stays b Rest ≡ Stays p a = ap begins (sym s.2) ∙ e in
        subst (SentSo o (Then (Starts (Producer n) q) ∷ log) n) (let i : b ≡ p = cc in i) tt

    goes_on : (log : List Entry) (b : Plan) (u : Outcome) (p : Plan) (a : Action) → IsRun o (Then (Told (notice (Producer n) u)) ∷ log) →
        (view o log).stand (Producer n) ≡ Some b → SentSo o log n b → told b u ≡ Stays p a → SentSo o (Then (Told (notice (Producer n) u)) ∷ log) n p
    goes_on log b u p a run s k e =
        let j = here (Batched o) log (batched_run o log run.0) n b s in
        sent_to o log n u run j.ways j.errand j.state p a (subst (SentSo o log n) j.is_it k) (s ∙ ap Some j.is_it) (turn_so o log n u b p a j e)

-- one that waits for the receipt of its frame has queued it, and just once
pub queued_once : (o : Options) (log : List Entry) (n : ℕ) (u : Outcome) (w : Ways) (e : Errand) (ms : List Member) (c : ℕ) (s : Send) →
    IsRun o (Then (Told (notice (Producer n) u)) ∷ log) → (view o log).stand (Producer n) ≡ Some (Batching w e (batching.Sending ms c s)) →
    is_sent_send s ≡ true → frames_queued o n (Then (Told (notice (Producer n) u)) ∷ log) ≡ 1
queued_once o log n u w e ms c s run stood sent =
    let was : 1 ≤ frames_queued o n log = sent_so o n log (Batching w e (batching.Sending ms c s)) run.0 stood sent in
    let now : 1 ≤ frames_queued o n (Then (Told (notice (Producer n) u)) ∷ log) = more_frames (counts o log n u run) (frames_queued o n log) was in
    let most : frames_queued o n (Then (Told (notice (Producer n) u)) ∷ log) ≤ 1 = batch_sent_once_lem o (Then (Told (notice (Producer n) u)) ∷ log) n run in
    omega (arith, now, most)

-- THE LAW: it is settled by what becomes of it

overrides_not : (u : Outcome) → overrides u ≡ true → is_granted u ≡ false
overrides_not (outcome.Granted y) h = absurd cc
overrides_not outcome.Queued h = absurd cc
overrides_not outcome.InLine h = absurd cc
overrides_not _ h = refl

abbrev is_stay : Sent → Bool
is_stay (transition.Stays s d) = true
is_stay (transition.Gives a) = false

sent_stays : (w : Ways) (e : Errand) (u : Outcome) → is_told_news u ≡ false → is_stay (produce.send_told w e send.Sent (news_of u)) ≡ false →
    is_granted u ≡ false
sent_stays w e (outcome.Granted (news.Told x)) n h = absurd cc
sent_stays w e (outcome.Granted y) n h = absurd cc
sent_stays w e outcome.Queued n h = absurd cc
sent_stays w e outcome.InLine n h = absurd cc
sent_stays w e u n h = refl

module _ (o : Options) (log : List Entry) (n : ℕ) (ns : List Notice) (some : 1 ≤ frames_queued o n log) (u : Outcome)
    (run : IsRun o (Then (Told (notice (Producer n) u)) ∷ log)) where
  settled_by : (w : Ways) (e : Errand) (b : Batches) → PromptSo o log n b → (view o log).stand (Producer n) ≡ Some (Batching w e b) →
      IsSettling w e (TellAll ns) b u → is_granted u ≡ false
  settled_by w e batching.Resting p stood k = absurd k
  settled_by w e batching.Settling p stood k = absurd k
  settled_by w e batching.Taking p stood k =
      let none : frames_queued o n log ≡ 0 = none_yet o log n u p run in absurd (omega (arith, none, some))
  settled_by w e (batching.Sending ms c s) p stood (inl k) = overrides_not u k.0
  settled_by w e (batching.Sending ms c s) p stood (inr k) = by k.1
    where
      gives : (x : Sent) → produce.send_told w e s (news_of u) ≡ x → is_stay x ≡ false → is_granted u ≡ false
      gives x h none = elim (cases_in s) [
        | inl same ↦
            sent_stays w e u (never_told o log (Producer n) u run)
            (ap (λ z. is_stay (produce.send_told w e z (news_of u))) (sym same) ∙ ap is_stay h ∙ none)
        | inr one ↦
            (let few : Few o log n = few_run o log n run.0 in
            let left : left_some ((view o log).stand (Producer n)) ≡ 1 = ap left_some stood ∙ one in
            let all : frames_queued o n log + left_some ((view o log).stand (Producer n)) ≤ 1 = few in
            absurd (omega (arith, all, left, some)))
      ]

      by : Comes w e s u k.0 → is_granted u ≡ false
      by (inl h) = overrides_not u h.0
      by (inr (inl h)) = gives (transition.Gives (Ok h.0)) h.1 refl
      by (inr (inr h)) = gives (transition.Gives (Err h.0)) h.1 refl

abbrev told_in : Outcome → Entry → Outcome
told_in u (Then (Told x)) = x.outcome
told_in u _ = u

pub queued_is_waited_for_lem : QueuedIsWaitedFor
queued_is_waited_for_lem o log n ns u older run there some = elim (deed_at o log n (TellAll ns) run (batched_run o log run.0)) [
  | inl d ↦ at d
  | inr r ↦ (let f : TellAll ns ≡ Rest = r in absurd cc)
]
  where
    at : AtDeed o log n (TellAll ns) → is_granted u ≡ false
    at d =
        let both : Then (Told (notice (Producer n) u)) ∷ older ≡ Then (Told (notice (Producer n) d.outcome)) ∷ d.older = sym there ∙ d.there in
        let head : ◌≡◌ {A = Entry} (Then (Told (notice (Producer n) u))) (Then (Told (notice (Producer n) d.outcome))) = cc in
        let rest : older ≡ d.older = cc in
        let same : u ≡ d.outcome = ap (told_in u) head in
        let t = tells_where d.was.ways d.was.errand d.was.state d.outcome d.state ns d.step in
        ap is_granted same
        ∙ settled_by o d.older n ns (subst (λ l. 1 ≤ frames_queued o n l) rest some) d.outcome d.run d.was.ways d.was.errand d.was.state d.was.prompt
        (d.stood ∙ ap Some d.was.is_it) t.1
