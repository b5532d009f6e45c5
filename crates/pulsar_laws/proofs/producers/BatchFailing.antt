-- Why the send of a batch fails.
use Rattle.std.proofs.Common.{◌≡◌, inl, inr, ◌∙◌, sym, ap, subst, ℕ, List, ◌∷◌, refl, Bool, true, false, ◌||◌, cond, Some, None, Err}
use Rattle.std.proofs.lemmas.Bool.{cases_Bool}
use Rattle.std.specs.List.{list_any}
use Rattle.pulsar_laws.proofs.ActWords.{Action, Does, Notice, OfTopic, Outcome, Procedure, Producer, Rest, Starts, TakeBatch, Told, Who, is_same}
use Rattle.pulsar_laws.proofs.PlanWords.{Batches, Batching, begins, Errand, Heard, Member, news_of, Plan, Sending as Send, Stays, told, Ways}
use Rattle.pulsar_laws.proofs.RunWords.{Begins, Entry, In, IsRun, notice, Options, Then, View, view}
use Rattle.pulsar_laws.proofs.LinkWords.{Failure}
use Rattle.pulsar_messages.specs.Content.{ProducerMessageValues}
use Rattle.pulsar_outgoing.specs.Errors.{in_producer}
use Rattle.pulsar_producer.specs.Plans as produce
use Rattle.pulsar_producer.specs.declared.batching.Batching.TheVariants as batching
use Rattle.pulsar_outgoing.specs.declared.news.News.TheVariants as news
use Rattle.pulsar_producer.specs.declared.sending.Sending.TheVariants as send
use Rattle.pulsar_calls.specs.declared.act.Outcome.TheVariants as outcome
use Rattle.pulsar_calls.specs.declared.act.Procedure.TheVariants as procedure
use Rattle.pulsar_laws.proofs.plans.Standing.{moves, run_older, stands_so}
use Rattle.pulsar_laws.proofs.producers.BatchRun.{turn_so, Batched, batched_run, calm_at, is_batch_deed, never_both, self_same}
use Rattle.pulsar_laws.proofs.producers.Drawing.{every_run, Every, here}
use Rattle.pulsar_laws.specs.BatchLaws.{told_since}
use Rattle.pulsar_laws.specs.Laws.{FailsSo, IsInProducer}
use Rattle.pulsar_laws.proofs.plans.Batched.{BatchSo, IsSending}
use Rattle.pulsar_laws.proofs.plans.Failing.{allows_breaks, allows_reply, is_proper, told_same}
use Rattle.pulsar_laws.proofs.plans.Granted.{GivenBy, granted_by, grants_given}
use Rattle.pulsar_laws.proofs.plans.Owned.{starts_own}
use Rattle.pulsar_laws.proofs.plans.Productions.{Ends, SendKeeps, sending_ends}
use Rattle.pulsar_searches.specs.declared.transition.Transition.TheVariants as transition

-- what one is granted is no reply
abbrev pub is_told_news : Outcome → Bool
is_told_news (outcome.Granted (news.Told x)) = true
is_told_news _ = false

-- nobody is told that
pub never_told : (o : Options) (log : List Entry) (who : Who) (u : Outcome) → IsRun o (Then (Told (notice who u)) ∷ log) → is_told_news u ≡ false
never_told o log who u run = by u run
  where
    none : (v : View) (action : Action) (x : Heard) → GivenBy v action (news.Told x) → ⊥
    none v (OfTopic n ask) x h = h
    none v _ x h = h

    by : (u : Outcome) → IsRun o (Then (Told (notice who u)) ∷ log) → is_told_news u ≡ false
    by (outcome.Granted (news.Told x)) r =
        let n : Notice = notice who (outcome.Granted (news.Told x)) in
        let k = granted_by o log n refl r in
        absurd (none (view o k.older) k.action x (grants_given o log n k (news.Told x) refl))
    by _ r = refl

proper_so : (u : Outcome) → is_told_news u ≡ false → is_proper u ≡ true
proper_so (outcome.Granted (news.Told x)) h = absurd cc
proper_so (outcome.Granted n) h = refl
proper_so u h = refl

-- why the one message of a batch fails
abbrev pub Why : (number : ℕ) → List Entry → Ways → Errand → ProducerMessageValues → Failure → Type 0
Why n log w e m f = FailsSo (procedure.Send w e None m) (told_since n log) f

-- one fails so along these outcomes, and whatever more it is told
abbrev FailsFrom : Procedure → List Outcome → Failure → Type 0
FailsFrom p us f = (os : List Outcome) → ((u : Outcome) → In u us → In u os) → FailsSo p os f

abbrev pub WhyFrom : (number : ℕ) → List Entry → Ways → Errand → ProducerMessageValues → Failure → Type 0
WhyFrom n log w e m = FailsFrom (procedure.Send w e None m) (told_since n log)

-- WHERE A BATCH STANDS

abbrev pub KeepsSo : (number : ℕ) → List Entry → Plan → Type 0
KeepsSo n log (Batching w e (batching.Sending ms c s)) = (m : ProducerMessageValues) → SendKeeps (WhyFrom n log w e m) s
KeepsSo n log _ = Unit {0}

abbrev pub Kept : Options → List Entry → Type 0
Kept o log = (n : ℕ) (p : Plan) → (view o log).stand (Producer n) ≡ Some p → KeepsSo n log p

-- IT IS TOLD SOMETHING

module _ (o : Options) (log : List Entry) (n : ℕ) (u : Outcome) (w : Ways) (e : Errand) (m : ProducerMessageValues) where
  abbrev later : List Entry
  later = Then (Told (notice (Producer n) u)) ∷ log

  -- what it was told is one of these from now on
  since_told : told_since n later ≡ u ∷ told_since n log
  since_told = ap (λ c. cond c (u ∷ told_since n log) (told_since n log)) (self_same n)

  send_more : (s : Send) → SendKeeps (WhyFrom n log w e m) s → SendKeeps (WhyFrom n later w e m) s
  send_more (send.Ending f) k = λ os in_os. k os (λ x i. in_os x (subst (In x) (sym since_told) (inr i)))
  send_more _ k = tt

  ends_so : (s : Send) → IsRun o later → SendKeeps (WhyFrom n log w e m) s →
      Ends (SendKeeps (WhyFrom n later w e m)) (WhyFrom n later w e m) (produce.send_told w e s (news_of u))
  ends_so s run k =
      let p : Procedure = procedure.Send w e None m in
      let here : In u (told_since n later) = subst (In u) (sym since_told) (inl refl) in
      let proper : is_proper u ≡ true = proper_so u (never_told o log (Producer n) u run) in
      sending_ends (WhyFrom n later w e m) w e s (news_of u) (λ os in_os. IsInProducer u refl (in_os u here) (ap in_producer (told_same u)))
      (λ x h f b os in_os. allows_breaks p os w u refl (in_os u here) proper x h f b)
      (λ r h os in_os. allows_reply p os u refl (in_os u here) proper r h) (send_more s k)

-- it fails so
pub fails_so : (o : Options) (log : List Entry) (n : ℕ) (u : Outcome) (w : Ways) (e : Errand) (m : ProducerMessageValues) (s : Send) (f : Failure) →
    IsRun o (Then (Told (notice (Producer n) u)) ∷ log) → SendKeeps (WhyFrom n log w e m) s →
    produce.send_told w e s (news_of u) ≡ transition.Gives (Err f) → Why n (Then (Told (notice (Producer n) u)) ∷ log) w e m f
fails_so o log n u w e m s f run k h =
    let after : List Entry = Then (Told (notice (Producer n) u)) ∷ log in
    let P = WhyFrom n after w e m in
    let from : P f = subst (Ends (SendKeeps P) P) h (ends_so o log n u w e m s run k) in from (told_since n after) (λ x i. i)

module _ (o : Options) (log : List Entry) (n : ℕ) (u : Outcome) (run : IsRun o (Then (Told (notice (Producer n) u)) ∷ log)) where
  abbrev next : List Entry
  next = Then (Told (notice (Producer n) u)) ∷ log

  sends_on : (w : Ways) (e : Errand) (ms : List Member) (c : ℕ) (s : Send) (a : Action) (b : Batches) → KeepsSo n log (Batching w e b) →
      IsSending w e ms c s a b u → (m : ProducerMessageValues) → SendKeeps (WhyFrom n next w e m) s
  sends_on w e ms c s a batching.Resting k h m = absurd h
  sends_on w e ms c s a batching.Taking k h m = subst (SendKeeps (WhyFrom n next w e m)) (sym h.6) tt
  sends_on w e ms c s a (batching.Sending ns d old) k h m =
      let P = WhyFrom n next w e m in
      subst (Ends (SendKeeps P) P) h.2.1 (ends_so o log n u w e m old run (k m))
  sends_on w e ms c s a batching.Settling k h m = absurd h

  turn_keeps : (w : Ways) (e : Errand) (b : Batches) (q : Plan) (a : Action) → KeepsSo n log (Batching w e b) → BatchSo w e b u q a → KeepsSo n next q
  turn_keeps w e b (Batching v x (batching.Sending ms c s)) a k (same, own, h) =
      subst (λ y. KeepsSo n next (Batching y x (batching.Sending ms c s))) (sym same)
      (subst (λ y. KeepsSo n next (Batching w y (batching.Sending ms c s))) (sym own) (sends_on w e ms c s a b k h))
  turn_keeps w e b (Batching v x batching.Resting) a k h = tt
  turn_keeps w e b (Batching v x batching.Taking) a k h = tt
  turn_keeps w e b (Batching v x batching.Settling) a k h = tt
  turn_keeps w e b _ a k h = absurd h

-- OTHER ENTRIES

-- where what it was told since then stays, so does this
same_keeps : (log : List Entry) (e : Entry) (n : ℕ) (p : Plan) → (calm_at p ≡ true → told_since n (e ∷ log) ≡ told_since n log) → KeepsSo n log p →
    KeepsSo n (e ∷ log) p
same_keeps log x n (Batching w e (batching.Sending ms c s)) same k = λ m.
    subst (λ os. SendKeeps (FailsFrom (procedure.Send w e None m) os) s) (sym (same refl)) (k m)
same_keeps log x n (Batching w e batching.Resting) same k = tt
same_keeps log x n (Batching w e batching.Taking) same k = tt
same_keeps log x n (Batching w e batching.Settling) same k = tt
same_keeps log x n _ same k = tt

since_same : (log : List Entry) (n : ℕ) (who : Who) (a : Action) → (is_same (Producer n) who ≡ true → is_batch_deed a ≡ true → ⊥) →
    told_since n (Then (Does who a) ∷ log) ≡ told_since n log
since_same log n who (OfTopic m TakeBatch) other = elim (cases_Bool (is_same (Producer n) who)) [ inl e ↦ absurd (other e refl) | inr e ↦ rw e refl ]
since_same log n who _ other = refl

-- ALONG A LOG

keeps_along : (o : Options) (n : ℕ) (log : List Entry) (p : Plan) → IsRun o log → (view o log).stand (Producer n) ≡ Some p → KeepsSo n log p
keeps_along o n = stands_so o (Producer n) (IsRun o) (run_older o) (λ log p. KeepsSo n log p) more begun goes_on
  where
    more : (x : Entry) (log : List Entry) (p : Plan) → moves (Producer n) x ≡ false → IsRun o (x ∷ log) → (view o log).stand (Producer n) ≡ Some p →
        KeepsSo n log p → KeepsSo n (x ∷ log) p
    more (Then (Does who a)) log p m run s k =
        same_keeps log (Then (Does who a)) n p (λ calm. since_same log n who a (never_both o log who a n p run (batched_run o log run.0) s calm)) k
    more (Then (Told x)) log p m run s k =
        same_keeps log (Then (Told x)) n p (λ calm. ap (λ c. cond c (x.outcome ∷ told_since n log) (told_since n log)) m) k
    more (Then a) log p m run s k = same_keeps log (Then a) n p (λ calm. refl) k
    more (Begins e) log p m run s k = same_keeps log (Begins e) n p (λ calm. refl) k

    begun : (log : List Entry) (q : Procedure) (p : Plan) (a : Action) → IsRun o (Then (Starts (Producer n) q) ∷ log) → begins q ≡ Stays p a →
        KeepsSo n (Then (Starts (Producer n) q) ∷ log) p
    begun log q p a run e =
        let s = starts_own o log n q run in
        let b : Plan = Batching s.0 (record { producer = n; block = s.1 }) batching.Resting in
        let f : Stays b Rest ≡ Stays p a = ap begins (sym s.2) ∙ e in
        subst (KeepsSo n (Then (Starts (Producer n) q) ∷ log)) (let i : b ≡ p = cc in i) tt

    goes_on : (log : List Entry) (b : Plan) (u : Outcome) (p : Plan) (a : Action) → IsRun o (Then (Told (notice (Producer n) u)) ∷ log) →
        (view o log).stand (Producer n) ≡ Some b → KeepsSo n log b → told b u ≡ Stays p a → KeepsSo n (Then (Told (notice (Producer n) u)) ∷ log) p
    goes_on log b u p a run s k e =
        let j = here (Batched o) log (batched_run o log run.0) n b s in
        turn_keeps o log n u run j.ways j.errand j.state p a (subst (KeepsSo n log) j.is_it k) (turn_so o log n u b p a j e)

pub kept_run : (o : Options) (log : List Entry) → IsRun o log → Every (Kept o) log
kept_run o log run = every_run o (Kept o) (λ log r n p s. keeps_along o n log p r s) log run
