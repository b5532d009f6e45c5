-- The batches of a topic producer along a log.
use Rattle.std.proofs.Common.{◌≡◌, ◌⊎◌, inl, inr, ◌∙◌, sym, ap, subst, ℕ, List, [], ◌∷◌, ◌++◌, refl, length, map, Bool, true, false, cond, Option, Some, None, Ok}
use Rattle.std.proofs.lemmas.Bool.{cases_Bool}
use Rattle.pulsar_producer.proofs.Arcs.{SendArc, draws}
use Rattle.pulsar_plans.proofs.Arcs.{Arc, BatchArc, batch_cuts, batch_sends, batch_settles, batch_takes, batches_go, settled_takes, taken_settles, told_arc, StaysSo}
use Rattle.pulsar_laws.proofs.plans.Batchers.{batcher_stands, is_batcher}
use Rattle.pulsar_laws.proofs.plans.Standing.{moves, run_older, stands_so}
use Rattle.pulsar_laws.proofs.producers.Drawing.{every_run, Every, here}
use Rattle.pulsar_laws.proofs.ActWords.{Act, Action, Does, Heard, Notice, OfTopic, Outcome, Part, Procedure, Producer, Rest, Starts, TakeBatch, TellAll, Told, Who, is_same}
use Rattle.pulsar_laws.proofs.PlanWords.{action_of, Batches, Batching, begins, Deed, Errand, Gives, Member, News, overrides, Plan, PlanTransition, Sending as Send, Stays, told, told_to, Ways}
use Rattle.pulsar_laws.proofs.RunWords.{agenda, at_once, Begins, does, Entry, first, follows, follows_some, IsRun, notice, Options, performs, rest, stays, stays_some, Then, told_some, view, View}
use Rattle.pulsar_messages.specs.Content.{ProducerMessageValues}
use Rattle.pulsar_outgoing.specs.Batch.{batch_of, cut_report, entries_in, member_of, reports}
use Rattle.pulsar_outgoing.specs.Storage.{Item}
use Rattle.pulsar_producer.specs.declared.batching.Batching.TheVariants as batching
use Rattle.pulsar_outgoing.specs.declared.news.News.TheVariants as news
use Rattle.pulsar_calls.specs.declared.act.Outcome.TheVariants as outcome
use Rattle.pulsar_laws.specs.BatchLaws.{BatchesOneByOne, MayTake, under_way}
use Rattle.pulsar_producer_table.specs.Producers.{next_batch_at}
use Rattle.pulsar_agenda.specs.Agenda.{first_of}
use Rattle.pulsar_laws.proofs.plans.Batched.{BatchSo, IsRested, IsSending, IsSettling, IsTaking, StepTo, batch_goes, is_batch, takes_where}
use Rattle.pulsar_laws.proofs.plans.Follow.{same_is}
use Rattle.pulsar_laws.proofs.plans.Granted.{BeginsSo, IsLedSo, does_from}
use Rattle.pulsar_laws.proofs.plans.Owned.{starts_own}
use Rattle.pulsar_laws.proofs.calls.Same.{same_self}

-- WHAT IS DONE AT ONCE

pub self_same : (n : ℕ) → is_same (Producer n) (Producer n) ≡ true
self_same n = same_self (Producer n)

-- what it does in this state, and what it is told of that
abbrev pub DeedOf : ℕ → Batches → Action → Type 0
DeedOf n batching.Taking a = a ≡ OfTopic n TakeBatch
DeedOf n batching.Settling a = (ns : List Notice) × (a ≡ TellAll ns)
DeedOf n b a = ⊥

abbrev pub says : View → Action → Outcome
says v (OfTopic n TakeBatch) = outcome.Granted (news.HasBatch (next_batch_at (v.producers.topics n)))
says v a = outcome.Granted news.Done

performs_so : (v : View) (n : ℕ) (b : Batches) (a : Action) → DeedOf n b a → performs v (Producer n) a ≡ Told (notice (Producer n) (says v a)) ∷ []
performs_so v n batching.Taking a k = subst (λ x. performs v (Producer n) x ≡ Told (notice (Producer n) (says v x)) ∷ []) (sym k) refl
performs_so v n batching.Settling a k = subst (λ x. performs v (Producer n) x ≡ Told (notice (Producer n) (says v x)) ∷ []) (sym k.1) refl
performs_so v n batching.Resting a k = absurd k
performs_so v n (batching.Sending ms c s) a k = absurd k

-- it is to do this first of all, or has just done it and is told
abbrev pub IsDue : Options → List Entry → ℕ → Batches → Type 0
IsDue o log n b = (a : Action) × DeedOf n b a × (xs : List Act) × ((agenda o log).now ≡ Does (Producer n) a ∷ xs)

abbrev pub IsDone : Options → List Entry → ℕ → Batches → Type 0
IsDone o log n b =
    (a : Action) × DeedOf n b a × (older : List Entry) × (log ≡ Then (Does (Producer n) a) ∷ older) × (xs : List Act)
    × ((agenda o log).now ≡ Told (notice (Producer n) (says (view o older) a)) ∷ xs)

abbrev pub IsPrompt : Options → List Entry → ℕ → Batches → Type 0
IsPrompt o log n b = IsDue o log n b ⊎ IsDone o log n b

-- WHERE IT STANDS

-- these are those of the batch that is under way, and its entries are written
abbrev pub IsBatchOf : List Member → ℕ → List Item → Type 0
IsBatchOf ms c items =
    (ms ≡ map member_of items) × (c ≡ length (entries_in items)) × (m : ProducerMessageValues) × (batch_of (entries_in items) ≡ Ok m)

abbrev pub StateSo : Options → List Entry → ℕ → Batches → Type 0
StateSo o log n batching.Resting = under_way o n log ≡ None
StateSo o log n (batching.Sending ms c s) = (items : List Item) × (under_way o n log ≡ Some items) × IsBatchOf ms c items
StateSo o log n b = Unit {0}

abbrev pub PromptSo : Options → List Entry → ℕ → Batches → Type 0
PromptSo o log n batching.Taking = IsPrompt o log n batching.Taking
PromptSo o log n batching.Settling = IsPrompt o log n batching.Settling
PromptSo o log n b = Unit {0}

pub record StandsSo (o : Options) (log : List Entry) (n : ℕ) (p : Plan) : Type 0 where
  pub ways : Ways
  pub errand : Errand
  pub state : Batches
  pub is_it : p ≡ Batching ways errand state
  pub own : errand.producer ≡ n
  pub prompt : PromptSo o log n state
  pub so : StateSo o log n state

abbrev pub Batched : Options → List Entry → Type 0
Batched o log = (n : ℕ) (p : Plan) → (view o log).stand (Producer n) ≡ Some p → StandsSo o log n p

-- WHAT IS FIRST

first_is : (now : List Act) (here : List Notice) (behind : List (List Notice)) (parts : List Part) (x a : Act) (xs : List Act) → now ≡ x ∷ xs →
    first_of now here behind parts ≡ Some a → x ≡ a
first_is now here behind parts x a xs e h =
    let f : Some x ≡ Some a = ap (λ ys. first_of ys here behind parts) (sym e) ∙ h in cc

pub fits_first : (o : Options) (log : List Entry) (x a : Act) (xs : List Act) → (agenda o log).now ≡ x ∷ xs → first (agenda o log) ≡ Some a → x ≡ a
fits_first o log x a xs e h = let g = agenda o log in first_is g.now g.here g.behind g.parts x a xs e h

pub none_first : (o : Options) (log : List Entry) (x : Act) (xs : List Act) → (agenda o log).now ≡ x ∷ xs → first (agenda o log) ≡ None → ⊥
none_first o log x xs e h =
    let g = agenda o log in
    let f : Some x ≡ None = ap (λ ys. first_of ys g.here g.behind g.parts) (sym e) ∙ h in
    cc

abbrev outcome_in : Outcome → Act → Outcome
outcome_in u (Told n) = n.outcome
outcome_in u _ = u

abbrev told_who : Who → Act → Who
told_who w (Told n) = n.who
told_who w _ = w

abbrev turn_action : Action → PlanTransition → Action
turn_action a (Stays p b) = b
turn_action a (Gives verdict) = a

abbrev is_told : Act → Bool
is_told (Told n) = true
is_told _ = false

abbrev is_does : Act → Bool
is_does (Does who a) = true
is_does _ = false

-- it is told this of what it has just done
pub record WasDone (o : Options) (log : List Entry) (n : ℕ) (b : Batches) (u : Outcome) : Type 0 where
  pub action : Action
  pub deed : DeedOf n b action
  pub older : List Entry
  pub there : log ≡ Then (Does (Producer n) action) ∷ older
  pub said : u ≡ says (view o older) action

pub was_done : (o : Options) (log : List Entry) (n : ℕ) (b : Batches) (u : Outcome) → IsPrompt o log n b →
    first (agenda o log) ≡ Some (Told (notice (Producer n) u)) → WasDone o log n b u
was_done o log n b u (inl due) fits =
    let e : Does (Producer n) due.0 ≡ Told (notice (Producer n) u) = fits_first o log (Does (Producer n) due.0) (Told (notice (Producer n) u)) due.2 due.3 fits
    in
    let f : false ≡ true = ap is_told e in
    absurd cc
was_done o log n b u (inr d) fits =
    let e : Told (notice (Producer n) (says (view o d.2) d.0)) ≡ Told (notice (Producer n) u) =
    fits_first o log (Told (notice (Producer n) (says (view o d.2) d.0))) (Told (notice (Producer n) u)) d.4 d.5 fits in
    record { action = d.0; deed = d.1; older = d.2; there = d.3; said = sym (ap (outcome_in u) e) }

-- the batch that was there is under way
took_now : (o : Options) (log : List Entry) (n : ℕ) (u : Outcome) (k : WasDone o log n batching.Taking u) →
    u ≡ outcome.Granted (news.HasBatch (under_way o n log))
took_now o log n u k =
    let a : k.action ≡ OfTopic n TakeBatch = k.deed in
    let row = next_batch_at ((view o k.older).producers.topics n) in
    let l : log ≡ Then (Does (Producer n) (OfTopic n TakeBatch)) ∷ k.older = k.there ∙ ap (λ x. Then (Does (Producer n) x) ∷ k.older) a in
    let w : under_way o n log ≡ row = ap (under_way o n) l ∙ ap (λ c. cond c row (under_way o n k.older)) (self_same n) in
    k.said ∙ ap (says (view o k.older)) a ∙ ap (λ r. outcome.Granted (news.HasBatch r)) (sym w)

abbrev batch_in : Outcome → Option (List Item)
batch_in (outcome.Granted (news.HasBatch items)) = items
batch_in _ = None

pub some_batch : (o : Options) (log : List Entry) (n : ℕ) (u : Outcome) (items : List Item) → WasDone o log n batching.Taking u →
    u ≡ outcome.Granted (news.HasBatch (Some items)) → under_way o n log ≡ Some items
some_batch o log n u items k h = ap batch_in (sym (took_now o log n u k) ∙ h)

no_batch : (o : Options) (log : List Entry) (n : ℕ) (u : Outcome) → WasDone o log n batching.Taking u → is_batch u ≡ false → under_way o n log ≡ None
no_batch o log n u k h = by (under_way o n log) refl
  where
    by : (r : Option (List Item)) → under_way o n log ≡ r → under_way o n log ≡ None
    by None e = e
    by (Some items) e =
        let f : true ≡ false = ap (λ r. is_batch (outcome.Granted (news.HasBatch r))) (sym e) ∙ sym (ap is_batch (took_now o log n u k)) ∙ h in
        absurd cc

-- and behind those that it told none is
none_now : (o : Options) (log : List Entry) (n : ℕ) (u : Outcome) → WasDone o log n batching.Settling u →
    (u ≡ outcome.Granted news.Done) × (under_way o n log ≡ None)
    × (older : List Entry) × (ns : List Notice) × (log ≡ Then (Does (Producer n) (TellAll ns)) ∷ older)
none_now o log n u k =
    let a : k.action ≡ TellAll k.deed.0 = k.deed.1 in
    let l : log ≡ Then (Does (Producer n) (TellAll k.deed.0)) ∷ k.older = k.there ∙ ap (λ x. Then (Does (Producer n) x) ∷ k.older) a in (
      k.said ∙ ap (says (view o k.older)) a,
      ap (under_way o n) l ∙ ap (λ c. cond c None (under_way o n k.older)) (self_same n),
      k.older,
      k.deed.0,
      l,
    )

-- IT IS TOLD SOMETHING

-- what one that stands so does then
pub turn_so : (o : Options) (log : List Entry) (n : ℕ) (u : Outcome) (p q : Plan) (a : Action) (s : StandsSo o log n p) → told p u ≡ Stays q a →
    BatchSo s.ways s.errand s.state u q a
turn_so o log n u p q a s e =
    subst (StaysSo (BatchSo s.ways s.errand s.state u)) (ap (λ x. told x u) (sym s.is_it) ∙ e) (batch_goes s.ways s.errand s.state u)

pub settles_all : (w : Ways) (e : Errand) (a : Action) (b : Batches) (u : Outcome) → IsSettling w e a b u → (ns : List Notice) × (a ≡ TellAll ns)
settles_all w e a batching.Resting u k = absurd k
settles_all w e a batching.Taking u k = (map told_to (reports (length (entries_in k.0)) k.1 (map member_of k.0)), k.4)
settles_all w e a (batching.Sending ms c s) u (inl k) = (map told_to (map cut_report ms), k.1)
settles_all w e a (batching.Sending ms c s) u (inr k) = (map told_to (reports c k.0 ms), k.2)
settles_all w e a batching.Settling u k = absurd k

module _ (o : Options) (log : List Entry) (n : ℕ) (u : Outcome) (run : IsRun o (Then (Told (notice (Producer n) u)) ∷ log)) where
  abbrev later : List Entry
  later = Then (Told (notice (Producer n) u)) ∷ log

  abbrev left : List Act
  left = (rest (agenda o log)).now

  pub row_then : (row : Option Plan) → (view o log).stand (Producer n) ≡ row → (view o later).stand (Producer n) ≡ stays_some (told_some row u)
  row_then row e =
      ap (λ c. cond c (stays_some (told_some ((view o log).stand (Producer n)) u)) ((view o log).stand (Producer n))) (self_same n)
      ∙ ap (λ r. stays_some (told_some r u)) e

  pub now_then : (row : Option Plan) → (view o log).stand (Producer n) ≡ row → (agenda o later).now ≡ follows_some (Producer n) (told_some row u) ++ left
  now_then row e = ap (λ r. follows_some (Producer n) (told_some r u) ++ left) e

  module _ (w : Ways) (e : Errand) (own : e.producer ≡ n) where
    rested : (b : Batches) → PromptSo o log n b → StateSo o log n b → IsRested b u → under_way o n later ≡ None
    rested batching.Resting p s k = s
    rested batching.Taking p s k = no_batch o log n u (was_done o log n batching.Taking u p run.1) k
    rested (batching.Sending ms c x) p s k = absurd k
    rested batching.Settling p s k =
        let d = none_now o log n u (was_done o log n batching.Settling u p run.1) in
        let f : false ≡ true = sym (ap overrides d.0) ∙ k in
        absurd cc

    sent : (b : Batches) (ms : List Member) (c : ℕ) (x : Send) (a : Action) → PromptSo o log n b → StateSo o log n b → IsSending w e ms c x a b u →
        StateSo o later n (batching.Sending ms c x)
    sent batching.Resting ms c x a p s k = absurd k
    sent batching.Taking ms c x a p s k = (k.0, some_batch o log n u k.0 (was_done o log n batching.Taking u p run.1) k.2, (k.3, k.4, k.1, k.5))
    sent (batching.Sending ns d y) ms c x a p s k = (s.0, s.1, (k.0 ∙ s.2.0, k.1 ∙ s.2.1, s.2.2, s.2.3))
    sent batching.Settling ms c x a p s k = absurd k

    state_then : (b q : Batches) (a : Action) → PromptSo o log n b → StateSo o log n b → StepTo w e b u q a → StateSo o later n q
    state_then b batching.Resting a p s k = rested b p s k.1
    state_then b batching.Taking a p s k = tt
    state_then b (batching.Sending ms c x) a p s k = sent b ms c x a p s k
    state_then b batching.Settling a p s k = tt

    prompt_then : (b q : Batches) (a : Action) → (agenda o later).now ≡ does (Producer n) a ++ left → StepTo w e b u q a → PromptSo o later n q
    prompt_then b batching.Resting a h k = tt
    prompt_then b batching.Taking a h k =
        let i : a ≡ OfTopic n TakeBatch = k.0 ∙ ap (λ x. OfTopic x TakeBatch) own in
        inl (OfTopic n TakeBatch, refl, left, h ∙ ap (λ x. does (Producer n) x ++ left) i)
    prompt_then b (batching.Sending ms c x) a h k = tt
    prompt_then b batching.Settling a h k =
        let x = settles_all w e a b u k in
        inl (TellAll x.0, (x.0, refl), left, h ∙ ap (λ y. does (Producer n) y ++ left) x.1)

  turn_then : (p q : Plan) (a : Action) (s : StandsSo o log n p) → (view o log).stand (Producer n) ≡ Some p → told p u ≡ Stays q a →
      BatchSo s.ways s.errand s.state u q a → StandsSo o later n q
  turn_then p (Batching v x b) a s e t g =
      let k : StepTo s.ways s.errand s.state u b a = g.2 in
      let h : (agenda o later).now ≡ does (Producer n) a ++ left = now_then (Some p) e ∙ ap (λ y. follows (Producer n) y ++ left) t in
      record {
        ways = v;
        errand = x;
        state = b;
        is_it = refl;
        own = ap (λ y. y.producer) g.1 ∙ s.own;
        prompt = prompt_then s.ways s.errand s.own s.state b a h k;
        so = state_then s.ways s.errand s.own s.state b a s.prompt s.so k;
      }
  turn_then p _ a s e t g = absurd g

-- IT BEGINS

starts_stands : (o : Options) (log : List Entry) (n : ℕ) (p : Procedure) (q : Plan) → IsRun o (Then (Starts (Producer n) p) ∷ log) → stays (begins p) ≡ Some q →
    StandsSo o (Then (Starts (Producer n) p) ∷ log) n q
starts_stands o log n p q run h =
    let k = starts_own o log n p run in
    let e : Errand = record { producer = n; block = k.1 } in
    let f : Some (Batching k.0 e batching.Resting) ≡ Some q = sym (ap (λ x. stays (begins x)) k.2) ∙ h in
    record {
      ways = k.0;
      errand = e;
      state = batching.Resting;
      is_it = (let g : Batching k.0 e batching.Resting ≡ q = cc in sym g);
      own = refl;
      prompt = tt;
      so = ap (λ c. cond c None (under_way o n log)) (self_same n);
    }

-- WHAT IT DOES

-- as it does this, it was told what leads to it
pub record AtDeed (o : Options) (log : List Entry) (n : ℕ) (a : Action) : Type 0 where
  pub outcome : Outcome
  pub older : List Entry
  pub there : log ≡ Then (Told (notice (Producer n) outcome)) ∷ older
  pub run : IsRun o (Then (Told (notice (Producer n) outcome)) ∷ older)
  pub before : Plan
  pub stood : (view o older).stand (Producer n) ≡ Some before
  pub was : StandsSo o older n before
  pub state : Batches
  pub stands : (view o log).stand (Producer n) ≡ Some (Batching was.ways was.errand state)
  pub step : StepTo was.ways was.errand was.state outcome state a

pub deed_at : (o : Options) (log : List Entry) (n : ℕ) (a : Action) → IsRun o (Then (Does (Producer n) a) ∷ log) → Every (Batched o) log →
    AtDeed o log n a ⊎ (a ≡ Rest)
deed_at o log n a run k = elim (does_from o log (Producer n) a run) [ inl b ↦ inr (begun b) | inr l ↦ inl (led l) ]
  where
    begun : BeginsSo o log (Producer n) a → a ≡ Rest
    begun b =
        let r : IsRun o (Then (Starts (Producer n) b.procedure) ∷ b.older) = subst (IsRun o) b.is_there run.0 in
        let s = starts_own o b.older n b.procedure r in
        let e : Errand = record { producer = n; block = s.1 } in
        let f : Stays (Batching s.0 e batching.Resting) Rest ≡ Stays b.plan a = sym (ap begins s.2) ∙ b.leads in
        sym (ap (turn_action a) f)

    from : (l : IsLedSo o log (Producer n) a) (s : StandsSo o l.older n l.before) → IsRun o (Then (Told (notice (Producer n) l.outcome)) ∷ l.older) →
        (q : Plan) → BatchSo s.ways s.errand s.state l.outcome q a → (view o log).stand (Producer n) ≡ Some q → AtDeed o log n a
    from l s r (Batching v x b) g now = record {
      outcome = l.outcome;
      older = l.older;
      there = l.is_there;
      run = r;
      before = l.before;
      stood = l.stood;
      was = s;
      state = b;
      stands = now ∙ ap (λ y. Some (Batching y x b)) g.0 ∙ ap (λ y. Some (Batching s.ways y b)) g.1;
      step = g.2;
    }
    from l s r _ g now = absurd g

    led : IsLedSo o log (Producer n) a → AtDeed o log n a
    led l =
        let r : IsRun o (Then (Told (notice (Producer n) l.outcome)) ∷ l.older) = subst (IsRun o) l.is_there run.0 in
        let every : Every (Batched o) (Then (Told (notice (Producer n) l.outcome)) ∷ l.older) = subst (Every (Batched o)) l.is_there k in
        let s = here (Batched o) l.older every.1 n l.before l.stood in
        let b : BatchSo s.ways s.errand s.state l.outcome l.plan a = turn_so o l.older n l.outcome l.before l.plan a s l.leads in
        let now : (view o log).stand (Producer n) ≡ Some l.plan =
        ap (λ x. (view o x).stand (Producer n)) l.is_there ∙ row_then o l.older n l.outcome r (Some l.before) l.stood ∙ ap stays l.leads in
        from l s r l.plan b now

-- OTHER ACTS

abbrev pub is_batch_deed : Action → Bool
is_batch_deed (OfTopic m TakeBatch) = true
is_batch_deed (TellAll ns) = true
is_batch_deed _ = false

-- where it rests or sends it does neither
abbrev is_calm : Batches → Bool
is_calm batching.Resting = true
is_calm batching.Taking = false
is_calm (batching.Sending ms c s) = true
is_calm batching.Settling = false

abbrev pub calm_at : Plan → Bool
calm_at (Batching w e b) = is_calm b
calm_at _ = false

-- where it does so, it is not calm
send_deed : {w : Ways} {e : Errand} {s q : Send} {y : News} {d : Deed} → SendArc w e s y q d → is_batch_deed (action_of d) ≡ false
send_deed draws = refl
send_deed _ = refl

batch_deed : {w : Ways} {e : Errand} {b q : Batches} {y : News} {d : Deed} → BatchArc w e b y q d → is_batch_deed (action_of d) ≡ true → is_calm q ≡ false
batch_deed batch_takes h = refl
batch_deed (taken_settles c f) h = refl
batch_deed (batch_settles f) h = refl
batch_deed settled_takes h = refl
batch_deed (batch_sends k) h = (let f : true ≡ false = sym h ∙ send_deed k in absurd cc)
batch_deed _ h = absurd cc

arc_deed : {p q : Plan} {u : Outcome} {a : Action} → Arc p u q a → is_batcher p ≡ true → is_batch_deed a ≡ true → calm_at q ≡ false
arc_deed (batches_go d k) is h = batch_deed k h
arc_deed (batch_cuts rs i k) is h = refl
arc_deed _ is h = absurd cc

not_calm : (o : Options) (log : List Entry) (n : ℕ) (a : Action) (p : Plan) → IsRun o (Then (Does (Producer n) a) ∷ log) →
    (view o log).stand (Producer n) ≡ Some p → is_batch_deed a ≡ true → calm_at p ≡ false
not_calm o log n a p run h b = elim (does_from o log (Producer n) a run) [ inl k ↦ absurd (begun k) | inr l ↦ led l ]
  where
    begun : BeginsSo o log (Producer n) a → ⊥
    begun k =
        let s = starts_own o k.older n k.procedure (subst (IsRun o) k.is_there run.0) in
        let f : Stays (Batching s.0 (record { producer = n; block = s.1 }) batching.Resting) Rest ≡ Stays k.plan a = sym (ap begins s.2) ∙ k.leads in
        let g : true ≡ false = sym b ∙ ap is_batch_deed (sym (ap (turn_action a) f)) in
        cc

    led : IsLedSo o log (Producer n) a → calm_at p ≡ false
    led l =
        let r : IsRun o (Then (Told (notice (Producer n) l.outcome)) ∷ l.older) = subst (IsRun o) l.is_there run.0 in
        let now : Some p ≡ Some l.plan =
        sym h ∙ ap (λ x. (view o x).stand (Producer n)) l.is_there ∙ row_then o l.older n l.outcome r (Some l.before) l.stood ∙ ap stays l.leads in
        let same : p ≡ l.plan = cc in
        ap calm_at same ∙ arc_deed (told_arc l.leads) (batcher_stands o l.older n l.before r.0 l.stood) b

under_same : (o : Options) (log : List Entry) (n : ℕ) (who : Who) (a : Action) → (is_same (Producer n) who ≡ true → is_batch_deed a ≡ true → ⊥) →
    under_way o n (Then (Does who a) ∷ log) ≡ under_way o n log
under_same o log n who (OfTopic m TakeBatch) other = elim (cases_Bool (is_same (Producer n) who)) [ inl e ↦ absurd (other e refl) | inr e ↦ rw e refl ]
under_same o log n who (TellAll ns) other = elim (cases_Bool (is_same (Producer n) who)) [ inl e ↦ absurd (other e refl) | inr e ↦ rw e refl ]
under_same o log n who _ other = refl

-- where a topic producer rests or sends it neither takes a batch nor settles one
never_calm : (o : Options) (log : List Entry) (who : Who) (a : Action) (n : ℕ) (p : Plan) → IsRun o (Then (Does who a) ∷ log) →
    (view o log).stand (Producer n) ≡ Some p → calm_at p ≡ true → is_same (Producer n) who ≡ true → is_batch_deed a ≡ true → ⊥
never_calm o log who a n p run h calm same b =
    let r : IsRun o (Then (Does (Producer n) a) ∷ log) =
    subst (λ (w : Who). IsRun o (Then (Does w a) ∷ log)) (sym (same_is (Producer n) who same)) run in
    let f : true ≡ false = sym calm ∙ not_calm o log n a p r h b in
    cc

pub never_both : (o : Options) (log : List Entry) (who : Who) (a : Action) (n : ℕ) (p : Plan) → IsRun o (Then (Does who a) ∷ log) → Every (Batched o) log →
    (view o log).stand (Producer n) ≡ Some p → calm_at p ≡ true → is_same (Producer n) who ≡ true → is_batch_deed a ≡ true → ⊥
never_both o log who a n p run k h calm same b = never_calm o log who a n p run h calm same b

-- what one does leaves the batch under way then
pub under_kept : (o : Options) (log : List Entry) (who : Who) (a : Action) (n : ℕ) (p : Plan) → IsRun o (Then (Does who a) ∷ log) → Every (Batched o) log →
    (view o log).stand (Producer n) ≡ Some p → calm_at p ≡ true → under_way o n (Then (Does who a) ∷ log) ≡ under_way o n log
under_kept o log who a n p run k h calm = under_same o log n who a (never_calm o log who a n p run h calm)

-- what is seen of the batch under way stays
state_kept : (o : Options) (log : List Entry) (e : Entry) (n : ℕ) (b : Batches) → (is_calm b ≡ true → under_way o n (e ∷ log) ≡ under_way o n log) →
    StateSo o log n b → StateSo o (e ∷ log) n b
state_kept o log e n batching.Resting same s = same refl ∙ s
state_kept o log e n batching.Taking same s = tt
state_kept o log e n (batching.Sending ms c x) same s = (s.0, same refl ∙ s.1, s.2)
state_kept o log e n batching.Settling same s = tt

-- one that is to do something first, or is told of it, does or is told it
module _ (o : Options) (log : List Entry) (n : ℕ) where
  done_next : (who : Who) (a : Action) → first (agenda o log) ≡ Some (Does who a) → (b : Batches) → IsDue o log n b → IsDone o (Then (Does who a) ∷ log) n b
  done_next who a fits b due =
      let e : Does (Producer n) due.0 ≡ Does who a = fits_first o log (Does (Producer n) due.0) (Does who a) due.2 due.3 fits in
      let x : Then (Does who a) ≡ Then (Does (Producer n) due.0) = ap (λ y. Then y) (sym e) in
      let left : List Act = (rest (agenda o log)).now in
      let h : at_once (view o log) (Does who a) ++ left ≡ Told (notice (Producer n) (says (view o log) due.0)) ∷ left =
      ap (λ y. at_once (view o log) y ++ left) (sym e) ∙ ap (λ ys. ys ++ left) (performs_so (view o log) n b due.0 due.1) in
      (due.0, due.1, log, ap (λ y. y ∷ log) x, left, h)

  does_prompt : (who : Who) (a : Action) → first (agenda o log) ≡ Some (Does who a) → (b : Batches) → PromptSo o log n b →
      PromptSo o (Then (Does who a) ∷ log) n b
  does_prompt who a fits batching.Resting p = tt
  does_prompt who a fits (batching.Sending ms c s) p = tt
  does_prompt who a fits batching.Taking p = elim p [
    | inl due ↦ inr (done_next who a fits batching.Taking due)
    | inr d ↦
        (let e : Told (notice (Producer n) (says (view o d.2) d.0)) ≡ Does who a =
        fits_first o log (Told (notice (Producer n) (says (view o d.2) d.0))) (Does who a) d.4 d.5 fits in
        let f : true ≡ false = ap is_told e in
        absurd cc)
  ]
  does_prompt who a fits batching.Settling p = elim p [
    | inl due ↦ inr (done_next who a fits batching.Settling due)
    | inr d ↦
        (let e : Told (notice (Producer n) (says (view o d.2) d.0)) ≡ Does who a =
        fits_first o log (Told (notice (Producer n) (says (view o d.2) d.0))) (Does who a) d.4 d.5 fits in
        let f : true ≡ false = ap is_told e in
        absurd cc)
  ]

  -- another act can't come between
  never_prompt : (a : Act) → first (agenda o log) ≡ Some a → (b : Batches) → IsPrompt o log n b → is_does a ≡ false →
      ((u : Outcome) → a ≡ Told (notice (Producer n) u) → ⊥) → ⊥
  never_prompt a fits b (inl due) d t =
      let e : Does (Producer n) due.0 ≡ a = fits_first o log (Does (Producer n) due.0) a due.2 due.3 fits in
      let f : true ≡ false = ap is_does e ∙ d in
      cc
  never_prompt a fits b (inr x) d t =
      t (says (view o x.2) x.0) (sym (fits_first o log (Told (notice (Producer n) (says (view o x.2) x.0))) a x.4 x.5 fits))

  other_prompt : (a : Act) → first (agenda o log) ≡ Some a → is_does a ≡ false → ((u : Outcome) → a ≡ Told (notice (Producer n) u) → ⊥) →
      (b : Batches) → PromptSo o log n b → PromptSo o (Then a ∷ log) n b
  other_prompt a fits d t batching.Resting p = tt
  other_prompt a fits d t (batching.Sending ms c s) p = tt
  other_prompt a fits d t batching.Taking p = absurd (never_prompt a fits batching.Taking p d t)
  other_prompt a fits d t batching.Settling p = absurd (never_prompt a fits batching.Settling p d t)

-- ALONG A LOG

-- one that stands as before
stands_on : (o : Options) (log : List Entry) (x : Entry) (n : ℕ) (p : Plan) (s : StandsSo o log n p) → PromptSo o (x ∷ log) n s.state →
    (is_calm s.state ≡ true → under_way o n (x ∷ log) ≡ under_way o n log) → StandsSo o (x ∷ log) n p
stands_on o log x n p s prompt same = record {
  ways = s.ways;
  errand = s.errand;
  state = s.state;
  is_it = s.is_it;
  own = s.own;
  prompt = prompt;
  so = state_kept o log x n s.state same s.so;
}

module _ (o : Options) (n : ℕ) where
  abbrev At : List Entry → Plan → Type 0
  At log p = StandsSo o log n p

  quiet : (log : List Entry) (e : Heard) → first (agenda o log) ≡ None → (b : Batches) → PromptSo o log n b → PromptSo o (Begins e ∷ log) n b
  quiet log e rests b = by b
    where
      never : (b : Batches) → IsPrompt o log n b → ⊥
      never b (inl due) = none_first o log (Does (Producer n) due.0) due.2 due.3 rests
      never b (inr d) = none_first o log (Told (notice (Producer n) (says (view o d.2) d.0))) d.4 d.5 rests

      by : (b : Batches) → PromptSo o log n b → PromptSo o (Begins e ∷ log) n b
      by batching.Resting q = tt
      by (batching.Sending ms c x) q = tt
      by batching.Taking q = absurd (never batching.Taking q)
      by batching.Settling q = absurd (never batching.Settling q)

  not_told : (m : Notice) → is_same (Producer n) m.who ≡ false → (u : Outcome) → Told m ≡ Told (notice (Producer n) u) → ⊥
  not_told m e u q =
      let f : m.who ≡ Producer n = ap (told_who (Producer n)) q in
      let g : true ≡ false = sym (self_same n) ∙ ap (is_same (Producer n)) (sym f) ∙ e in
      cc

  more : (x : Entry) (log : List Entry) (p : Plan) → moves (Producer n) x ≡ false → IsRun o (x ∷ log) → (view o log).stand (Producer n) ≡ Some p →
      At log p → At (x ∷ log) p
  more (Begins e) log p m run h s = stands_on o log (Begins e) n p s (quiet log e run.1 s.state s.prompt) (λ calm. refl)
  more (Then (Does who a)) log p m run h s =
      stands_on o log (Then (Does who a)) n p s (does_prompt o log n who a run.1 s.state s.prompt)
      (λ calm. under_same o log n who a (never_calm o log who a n p run h (ap calm_at s.is_it ∙ calm)))
  more (Then (Told x)) log p m run h s =
      stands_on o log (Then (Told x)) n p s (other_prompt o log n (Told x) run.1 refl (not_told x m) s.state s.prompt) (λ calm. refl)
  more (Then (Starts who q)) log p m run h s =
      stands_on o log (Then (Starts who q)) n p s
      (other_prompt o log n (Starts who q) run.1 refl (λ u x. (let f : false ≡ true = ap is_told x in cc)) s.state s.prompt)
      (λ calm. ap (λ c. cond c None (under_way o n log)) m)
  more (Then a) log p m run h s =
      stands_on o log (Then a) n p s (other_prompt o log n a run.1 refl (λ u x. (let f : false ≡ true = ap is_told x in cc)) s.state s.prompt) (λ calm. refl)

  stands : (log : List Entry) (p : Plan) → IsRun o log → (view o log).stand (Producer n) ≡ Some p → At log p
  stands =
      stands_so o (Producer n) (IsRun o) (run_older o) At more (λ log q p a run e. starts_stands o log n q p run (ap stays e))
      (λ log b u p a run h s e. turn_then o log n u run b p a s h e (turn_so o log n u b p a s e))

pub batched_run : (o : Options) (log : List Entry) → IsRun o log → Every (Batched o) log
batched_run o log run = every_run o (Batched o) (λ log r n p h. stands o n log p r h) log run

-- ONE AFTER THE OTHER

one_by_one : (o : Options) (log older : List Entry) (n : ℕ) (u : Outcome) (b : Batches) → log ≡ Then (Told (notice (Producer n) u)) ∷ older →
    IsRun o (Then (Told (notice (Producer n) u)) ∷ older) → PromptSo o older n b → StateSo o older n b → IsTaking b u →
    (under_way o n log ≡ None) × MayTake n log
one_by_one o log older n u batching.Resting there run p s t =
    (ap (under_way o n) there ∙ s, (older, inl (there ∙ ap (λ x. Then (Told (notice (Producer n) x)) ∷ older) t)))
one_by_one o log older n u batching.Taking there run p s t = absurd t
one_by_one o log older n u (batching.Sending ms c x) there run p s t = absurd t
one_by_one o log older n u batching.Settling there run p s t =
    let d = none_now o older n u (was_done o older n batching.Settling u p run.1) in (
      ap (under_way o n) there ∙ d.1,
      (
        d.2,
        inr (
          d.3,
          there ∙ ap (λ x. Then (Told (notice (Producer n) x)) ∷ older) d.0
              ∙ ap (λ x. Then (Told (notice (Producer n) (outcome.Granted news.Done))) ∷ x) d.4,
        ),
      ),
    )

pub batches_one_by_one_lem : BatchesOneByOne
batches_one_by_one_lem o log n m run = elim (deed_at o log n (OfTopic m TakeBatch) run (batched_run o log run.0)) [
  | inl d ↦
      (let t = takes_where d.was.ways d.was.errand d.was.state d.outcome d.state m d.step in
      let x = one_by_one o log d.older n d.outcome d.was.state d.there d.run d.was.prompt d.was.so t.2 in
      (t.0 ∙ d.was.own, x.0, x.1))
  | inr r ↦ (let f : true ≡ false = ap is_batch_deed r in absurd cc)
]
