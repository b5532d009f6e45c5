-- The frame of a batch is queued at most once.
use Rattle.std.proofs.Common.{◌≡◌, ◌⊎◌, inl, inr, ◌∙◌, sym, ap, subst, ℕ, ◌+◌, ◌≤◌, arith, List, [], ◌∷◌, refl, Bool, true, false, ◌&&◌, cond, Option, Some, None, Result, Ok, Err}
use Rattle.std.proofs.lemmas.Bool.{cases_Bool}
use Rattle.pulsar_laws.proofs.ActWords.{Act, Action, Does, Notice, OfTopic, Outcome, Procedure, Producer, Starts, TakeBatch, Told, Who, is_same}
use Rattle.pulsar_laws.proofs.PlanWords.{Batches, Batching, begins, Deed, Errand, Gives, Member, News, news_of, Plan, PlanTransition, Sending as Send, Stays, told, Ways}
use Rattle.pulsar_laws.proofs.RunWords.{Begins, begun_same, Entry, IsRun, notice, Options, stays, stays_some, Then, told_some, view}
use Rattle.pulsar_laws.proofs.LinkWords.{Fault}
use Rattle.pulsar_frame.specs.Reply.{Reply as Content}
use Rattle.pulsar_searches.specs.Plans as search
use Rattle.pulsar_producer.specs.Plans as produce
use Rattle.pulsar_producer.specs.Plans.{Sent, receipt}
use Rattle.pulsar_producer.specs.declared.batching.Batching.TheVariants as batching
use Rattle.pulsar_outgoing.specs.declared.news.News.TheVariants as news
use Rattle.pulsar_producer.specs.declared.sending.Sending.TheVariants as send
use Rattle.pulsar_calls.specs.declared.act.Outcome.TheVariants as outcome
use Rattle.pulsar_laws.specs.BatchLaws.{BatchSentOnce, asks_batch, frames_queued}
use Rattle.pulsar_laws.specs.ProducerLaws.{asks_in, is_queued}
use Rattle.pulsar_laws.proofs.plans.Batched.{BatchSo, IsSending, StepTo, batch_goes}
use Rattle.pulsar_laws.proofs.producers.BatchRun.{Batched, PromptSo, StandsSo, batched_run, row_then, self_same, was_done}
use Rattle.pulsar_laws.proofs.producers.Drawing.{here}
use Rattle.pulsar_laws.proofs.plans.Follow.{same_is}
use Rattle.pulsar_plans.proofs.Arcs.{StaysSo}
use Rattle.pulsar_laws.proofs.plans.Owned.{starts_own}
use Rattle.pulsar_searches.specs.declared.transition.Transition.TheVariants as transition

-- how often it may be told so still
abbrev pub left_in : Send → ℕ
left_in send.Sent = 0
left_in _ = 1

abbrev pub left_at : Batches → ℕ
left_at (batching.Sending ms c s) = left_in s
left_at _ = 0

abbrev pub left : Plan → ℕ
left (Batching w e b) = left_at b
left _ = 0

abbrev pub left_some : Option Plan → ℕ
left_some None = 0
left_some (Some p) = left p

one_in : (s : Send) → left_in s ≤ 1
one_in send.Sent = omega arith
one_in (send.Waiting m) = omega arith
one_in (send.Drawing m) = omega arith
one_in (send.Asked k) = omega arith
one_in (send.Recalling m) = omega arith
one_in (send.Looking m c l) = omega arith
one_in (send.Making m c k) = omega arith
one_in (send.Remaking m) = omega arith
one_in (send.Ending f) = omega arith

one_left : (r : Option Plan) → left_some r ≤ 1
one_left None = omega arith
one_left (Some (Batching w e (batching.Sending ms c s))) = one_in s
one_left (Some (Batching w e batching.Resting)) = omega arith
one_left (Some (Batching w e batching.Taking)) = omega arith
one_left (Some (Batching w e batching.Settling)) = omega arith
one_left (Some _) = omega arith

-- a queued one stays so
abbrev left_step : Sent → ℕ
left_step (transition.Stays s d) = left_in s
left_step (transition.Gives a) = 0

sent_step : (w : Ways) (e : Errand) (y : News) → left_step (produce.send_told w e send.Sent y) ≡ 0
sent_step w e (news.Told x) = received (search.verdict 7 x)
  where
    received : (r : Result Content Fault) → left_step (receipt r) ≡ 0
    received (Ok r) = refl
    received (Err f) = refl
sent_step w e _ = refl

queued_step : (w : Ways) (e : Errand) (s : Send) (u : Outcome) → (is_queued u && asks_in s) ≡ true →
    (left_step (produce.send_told w e s (news_of u)) ≡ 0) × (left_in s ≡ 1)
queued_step w e (send.Asked k) outcome.Queued h = (refl, refl)
queued_step w e s outcome.Queued h = absurd cc
queued_step w e s u h = absurd cc

pub cases_in : (s : Send) → (s ≡ send.Sent) ⊎ (left_in s ≡ 1)
cases_in send.Sent = inl refl
cases_in _ = inr refl

goes_left : (w : Ways) (e : Errand) (old s : Send) (d : Deed) (u : Outcome) (b : Bool) → (is_queued u && asks_in old) ≡ b →
    produce.send_told w e old (news_of u) ≡ transition.Stays s d → cond b 1 0 + left_in s ≤ left_in old
goes_left w e old s d u true q h =
    let k = queued_step w e old u q in
    let x : left_in s ≡ 0 = sym (ap left_step h) ∙ k.0 in
    let y : left_in old ≡ 1 = k.1 in
    omega (arith, x, y)
goes_left w e old s d u false q h = elim (cases_in old) [
  | inl is ↦
      (let x : left_in s ≡ 0 = sym (ap left_step h) ∙ ap (λ z. left_step (produce.send_told w e z (news_of u))) is ∙ sent_step w e (news_of u) in
      omega (arith, x))
  | inr y ↦ (let x : left_in s ≤ 1 = one_in s in omega (arith, x, y))
]

asks_left : (b : Batches) (w : Ways) (e : Errand) (u : Outcome) (t : Bool) → (is_queued u && asks_batch (Some (Batching w e b))) ≡ t → cond t 1 0 ≤ left_at b
asks_left b w e u false h = omega arith
asks_left (batching.Sending ms c s) w e u true h = let k : left_in s ≡ 1 = (queued_step w e s u h).1 in omega (arith, k)
asks_left batching.Resting w e u true h = absurd (none u h)
  where
    none : (u : Outcome) → (is_queued u && false) ≡ true → ⊥
    none outcome.Queued h = cc
    none _ h = cc
asks_left batching.Taking w e u true h = absurd (none u h)
  where
    none : (u : Outcome) → (is_queued u && false) ≡ true → ⊥
    none outcome.Queued h = cc
    none _ h = cc
asks_left batching.Settling w e u true h = absurd (none u h)
  where
    none : (u : Outcome) → (is_queued u && false) ≡ true → ⊥
    none outcome.Queued h = cc
    none _ h = cc

-- ALONG A LOG

abbrev pub Few : Options → List Entry → ℕ → Type 0
Few o log n = frames_queued o n log + left_some ((view o log).stand (Producer n)) ≤ 1

-- where it has just taken a batch none was queued for it
pub none_yet : (o : Options) (log : List Entry) (n : ℕ) (u : Outcome) → PromptSo o log n batching.Taking →
    IsRun o (Then (Told (notice (Producer n) u)) ∷ log) → frames_queued o n log ≡ 0
none_yet o log n u p run =
    let k = was_done o log n batching.Taking u p run.1 in
    let a : k.action ≡ OfTopic n TakeBatch = k.deed in
    ap (frames_queued o n) (k.there ∙ ap (λ x. Then (Does (Producer n) x) ∷ k.older) a)
    ∙ ap (λ c. cond c 0 (frames_queued o n k.older)) (self_same n)

module _ (o : Options) (log : List Entry) (n : ℕ) (u : Outcome) (run : IsRun o (Then (Told (notice (Producer n) u)) ∷ log)) (few : Few o log n) where
  abbrev later : List Entry
  later = Then (Told (notice (Producer n) u)) ∷ log

  abbrev sum : ℕ
  sum = frames_queued o n log

  sent_few : (w : Ways) (e : Errand) (b : Batches) (ms : List Member) (c : ℕ) (s : Send) (a : Action) → PromptSo o log n b → sum + left_at b ≤ 1 →
      IsSending w e ms c s a b u → cond (is_queued u && asks_batch (Some (Batching w e b))) 1 0 + (sum + left_in s) ≤ 1
  sent_few w e batching.Resting ms c s a p k x = absurd x
  sent_few w e batching.Taking ms c s a p k x =
      let z : sum ≡ 0 = none_yet o log n u p run in
      let y : cond (is_queued u && false) 1 0 ≤ 0 = asks_left batching.Taking w e u (is_queued u && false) refl in
      let l : left_in s ≤ 1 = one_in s in
      omega (arith, z, y, l)
  sent_few w e (batching.Sending ns d old) ms c s a p k x =
      let y : cond (is_queued u && asks_in old) 1 0 + left_in s ≤ left_in old = goes_left w e old s x.2.0 u (is_queued u && asks_in old) refl x.2.1 in
      omega (arith, k, y)
  sent_few w e batching.Settling ms c s a p k x = absurd x

  step_few : (w : Ways) (e : Errand) (b q : Batches) (a : Action) → PromptSo o log n b → sum + left_at b ≤ 1 → StepTo w e b u q a →
      cond (is_queued u && asks_batch (Some (Batching w e b))) 1 0 + (sum + left_at q) ≤ 1
  step_few w e b (batching.Sending ms c s) a p k x = sent_few w e b ms c s a p k x
  step_few w e b batching.Resting a p k x =
      let y = asks_left b w e u (is_queued u && asks_batch (Some (Batching w e b))) refl in omega (arith, k, y)
  step_few w e b batching.Taking a p k x =
      let y = asks_left b w e u (is_queued u && asks_batch (Some (Batching w e b))) refl in omega (arith, k, y)
  step_few w e b batching.Settling a p k x =
      let y = asks_left b w e u (is_queued u && asks_batch (Some (Batching w e b))) refl in omega (arith, k, y)

  counted_so : (b : Bool) (l : ℕ) → cond b 1 0 + (sum + l) ≤ 1 → cond b (sum + 1) sum + l ≤ 1
  counted_so true l h = omega (arith, h)
  counted_so false l h = omega (arith, h)

  sums : (row : Option Plan) → (view o log).stand (Producer n) ≡ row → frames_queued o n later ≡ cond (is_queued u && asks_batch row) (sum + 1) sum
  sums row e =
      ap (λ c. cond (c && (is_queued u && asks_batch ((view o log).stand (Producer n)))) (sum + 1) sum) (self_same n)
      ∙ ap (λ r. cond (is_queued u && asks_batch r) (sum + 1) sum) e

  row_few : (row : Option Plan) → (view o log).stand (Producer n) ≡ row →
      cond (is_queued u && asks_batch row) 1 0 + (sum + left_some (stays_some (told_some row u))) ≤ 1 → Few o later n
  row_few row e h =
      let x = counted_so (is_queued u && asks_batch row) (left_some (stays_some (told_some row u))) h in
      let y : cond (is_queued u && asks_batch row) (sum + 1) sum + left_some ((view o later).stand (Producer n)) ≤ 1 =
      subst (λ r. cond (is_queued u && asks_batch row) (sum + 1) sum + left_some r ≤ 1) (sym (row_then o log n u run row e)) x in
      subst (λ m. m + left_some ((view o later).stand (Producer n)) ≤ 1) (sym (sums row e)) y

  none_few : (u' : Outcome) → sum ≤ 1 → cond (is_queued u' && false) 1 0 + (sum + 0) ≤ 1
  none_few outcome.Queued h = omega (arith, h)
  none_few _ h = omega (arith, h)

  told_few : Batched o log → Few o later n
  told_few j = by ((view o log).stand (Producer n)) refl
    where
      turn_few : (p : Plan) (s : StandsSo o log n p) (x : PlanTransition) → StaysSo (BatchSo s.ways s.errand s.state u) x →
          sum + left_at s.state ≤ 1 →
          cond (is_queued u && asks_batch (Some (Batching s.ways s.errand s.state))) 1 0 + (sum + left_some (stays x)) ≤ 1
      turn_few p s (Gives verdict) g k =
          let y = asks_left s.state s.ways s.errand u (is_queued u && asks_batch (Some (Batching s.ways s.errand s.state))) refl in omega (arith, k, y)
      turn_few p s (Stays (Batching v x b) a) g k = step_few s.ways s.errand s.state b a s.prompt k g.2
      turn_few p s (Stays _ a) g k = absurd g

      by : (row : Option Plan) → (view o log).stand (Producer n) ≡ row → Few o later n
      by None e =
          let k : sum + left_some None ≤ 1 = subst (λ r. sum + left_some r ≤ 1) e few in
          row_few None e (none_few u (omega (arith, k)))
      by (Some p) e =
          let s = j n p e in
          let k : sum + left_some (Some p) ≤ 1 = subst (λ r. sum + left_some r ≤ 1) e few in
          let k' : sum + left_at s.state ≤ 1 = subst (λ q. sum + left q ≤ 1) s.is_it k in
          let h = turn_few p s (told (Batching s.ways s.errand s.state) u) (batch_goes s.ways s.errand s.state u) k' in
          row_few (Some p) e
          (subst (λ q. cond (is_queued u && asks_batch (Some q)) 1 0 + (sum + left_some (stays (told q u))) ≤ 1) (sym s.is_it) h)

told_then : (o : Options) (log : List Entry) (m : Notice) (n : ℕ) → IsRun o (Then (Told m) ∷ log) → Few o log n → Few o (Then (Told m) ∷ log) n
told_then o log m n run few = elim (cases_Bool (is_same (Producer n) m.who)) [
  | inl e ↦
      (let it : Told (notice (Producer n) m.outcome) ≡ Told m = ap (λ x. Told (notice x m.outcome)) (same_is (Producer n) m.who e) in
      let r : IsRun o (Then (Told (notice (Producer n) m.outcome)) ∷ log) = subst (λ (x : Act). IsRun o (Then x ∷ log)) (sym it) run in
      subst (λ (x : Act). Few o (Then x ∷ log) n) it (told_few o log n m.outcome r few (here (Batched o) log (batched_run o log run.0))))
  | inr e ↦ rw e few
]

starts_then : (o : Options) (log : List Entry) (who : Who) (q : Procedure) (n : ℕ) → IsRun o (Then (Starts who q) ∷ log) → Few o log n →
    Few o (Then (Starts who q) ∷ log) n
starts_then o log who q n run few = elim (cases_Bool (is_same (Producer n) who)) [
  | inl e ↦
      (let it : Starts (Producer n) q ≡ Starts who q = ap (λ x. Starts x q) (same_is (Producer n) who e) in
      let r : IsRun o (Then (Starts (Producer n) q) ∷ log) = subst (λ (x : Act). IsRun o (Then x ∷ log)) (sym it) run in
      let s = starts_own o log n q r in
      let z : left_some (stays (begins q)) ≡ 0 = ap (λ x. left_some (stays (begins x))) s.2 in
      rw e (omega (arith, few, z)))
  | inr e ↦ rw e few
]

does_then : (o : Options) (log : List Entry) (who : Who) (a : Action) (n : ℕ) → Few o log n → Few o (Then (Does who a) ∷ log) n
does_then o log who (OfTopic m TakeBatch) n few = elim (cases_Bool (is_same (Producer n) who)) [
  | inl e ↦ (let l : left_some ((view o log).stand (Producer n)) ≤ 1 = one_left ((view o log).stand (Producer n)) in rw e (omega (arith, l)))
  | inr e ↦ rw e few
]
does_then o log who _ n few = few

pub few_run : (o : Options) (log : List Entry) (n : ℕ) → IsRun o log → Few o log n
few_run o [] n run = omega arith
few_run o (Begins e ∷ log) n run =
    subst (λ r. frames_queued o n log + left_some r ≤ 1) (sym (begun_same (λ v. v.stand (Producer n)) e (view o log) refl)) (few_run o log n run.0)
few_run o (Then (Told m) ∷ log) n run = told_then o log m n run (few_run o log n run.0)
few_run o (Then (Starts who q) ∷ log) n run = starts_then o log who q n run (few_run o log n run.0)
few_run o (Then (Does who a) ∷ log) n run = does_then o log who a n (few_run o log n run.0)
few_run o (Then a ∷ log) n run = few_run o log n run.0

pub batch_sent_once_lem : BatchSentOnce
batch_sent_once_lem o log n run = let k : Few o log n = few_run o log n run in omega (arith, k)
