-- The frame of a batch, as its topic producer asks for it.
use Rattle.std.proofs.Common.{◌≡◌, ◌==◌, inl, inr, ◌∙◌, sym, ap, subst, ℕ, ◌+◌, List, ◌∷◌, refl, Bool, true, false, cond, Option, Some, None, Ok, []}
use Rattle.pulsar_laws.proofs.ActWords.{Action, Ask, Does, Draw, Notice, OfTopic, Outcome, Procedure, Producer, Rest, Starts, Told}
use Rattle.pulsar_laws.proofs.PlanWords.{action_of, Batches, Batching, begins, Deed, Drawn, Errand, Member, News, news_of, Plan, Sending as Send, Stays, told, Ways}
use Rattle.pulsar_laws.proofs.RunWords.{Begins, Entry, In, IsRun, notice, Options, room_of, Then, view}
use Rattle.pulsar_laws.proofs.LinkWords.{Words}
use Rattle.pulsar_messages.specs.Content.{ProducerMessageValues}
use Rattle.pulsar_messages.specs.Words as words
use Rattle.pulsar_searches.specs.declared.turn.Action.TheVariants as wish
use Rattle.pulsar_outgoing.specs.Batch.{batch_of, entries_in}
use Rattle.pulsar_producer.specs.Plans as produce
use Rattle.pulsar_outgoing.specs.Storage.{Item}
use Rattle.pulsar_producer.specs.Topic.{Draws}
use Rattle.pulsar_producer.specs.declared.batching.Batching.TheVariants as batching
use Rattle.pulsar_producer.specs.declared.deed.Deed.TheVariants as deed
use Rattle.pulsar_outgoing.specs.declared.news.News.TheVariants as news
use Rattle.pulsar_producer.specs.declared.sending.Sending.TheVariants as send
use Rattle.pulsar_calls.specs.declared.act.Outcome.TheVariants as outcome
use Rattle.pulsar_producer_table.specs.declared.table.Topic.{Topic}
use Rattle.pulsar_laws.proofs.plans.Holding.{holds, holds_batch, is_turn_told}
use Rattle.pulsar_laws.proofs.plans.Standing.{moves, run_older, stands_so}
use Rattle.pulsar_laws.proofs.producers.BatchRun.{turn_so, AtDeed, Batched, PromptSo, StandsSo, batched_run, calm_at, deed_at, settles_all, some_batch, under_kept, was_done}
use Rattle.pulsar_laws.specs.BatchLaws.{FramesOfBatches, under_way}
use Rattle.pulsar_producer_table.specs.Producers.{topic_after}
use Rattle.pulsar_laws.specs.ProducerLaws.{HasTurn, drawn_by}
use Rattle.pulsar_laws.proofs.plans.Batched.{BatchSo, GoesOn, IsSending, StepTo}
use Rattle.pulsar_laws.proofs.producers.Drawing.{here}
use Rattle.pulsar_laws.proofs.producers.Frames.{IsDrawn, VersionTold, draw_by, is_drawn, message_more, message_told, recall_plain, version_now, version_same}
use Rattle.pulsar_laws.proofs.plans.Framing.{DeedSo, MessageSo, NewsSo, StepSo, Versioned, drew_told, is_message, step_so}
use Rattle.pulsar_laws.proofs.plans.Granted.{granted_by, grants_given}
use Rattle.pulsar_laws.proofs.plans.Owned.{starts_own}
use Rattle.pulsar_laws.proofs.links.Receipts.{Split, run_behind, split_in}
use Rattle.pulsar_laws.proofs.producers.TurnActs.{changed_at}
use Rattle.pulsar_laws.proofs.producers.TurnRun.{own_in_turn, own_told_none}
use Rattle.pulsar_run.specs.Things.{row_by}
use Rattle.pulsar_searches.specs.declared.transition.Transition.TheVariants as transition

-- it was told this version with its newest turn
abbrev TurnTold : List Entry → ℕ → Option (List ℕ) → Type 0
TurnTold log n = VersionTold (Producer n) log

-- the message that it sends is that of the batch under way
abbrev FrameSo : Options → List Entry → ℕ → Errand → Batches → Type 0
FrameSo o log n e (batching.Sending ms c s) =
    (items : List Item) × (whole : ProducerMessageValues) × (under_way o n log ≡ Some items) × (batch_of (entries_in items) ≡ Ok whole)
    × MessageSo e whole (TurnTold log n) s
FrameSo o log n e b = Unit {0}

abbrev PlanSo : Options → List Entry → ℕ → Plan → Type 0
PlanSo o log n (Batching w e b) = FrameSo o log n e b
PlanSo o log n p = Unit {0}

-- behind a further entry
frame_more : (o : Options) (log : List Entry) (x : Entry) (n : ℕ) (w : Ways) (e : Errand) (b : Batches) → moves (Producer n) x ≡ false →
    (calm_at (Batching w e b) ≡ true → under_way o n (x ∷ log) ≡ under_way o n log) → FrameSo o log n e b → FrameSo o (x ∷ log) n e b
frame_more o log x n w e (batching.Sending ms c s) m same k =
    (k.0, k.1, same refl ∙ k.2, k.3, message_more e k.1 (TurnTold log n) (TurnTold (x ∷ log) n) (λ v i. version_same (Producer n) x log m ∙ i) s k.4)
frame_more o log x n w e _ m same k = tt

plan_more : (o : Options) (log : List Entry) (x : Entry) (n : ℕ) (p : Plan) → moves (Producer n) x ≡ false →
    (calm_at p ≡ true → under_way o n (x ∷ log) ≡ under_way o n log) → PlanSo o log n p → PlanSo o (x ∷ log) n p
plan_more o log x n (Batching w e b) m same k = frame_more o log x n w e b m same k
plan_more o log x n _ m same k = tt

-- what is told of turns and commands
news_told : (o : Options) (log : List Entry) (n : ℕ) (u : Outcome) → IsRun o (Then (Told (notice (Producer n) u)) ∷ log) → (e : Errand)
    (given : ProducerMessageValues) → NewsSo e given (TurnTold (Then (Told (notice (Producer n) u)) ∷ log) n) (news_of u)
news_told o log n (outcome.Granted (news.HasTurn version)) run e given = version_now (Producer n) (outcome.Granted (news.HasTurn version)) log
news_told o log n (outcome.Granted (news.Recalled c)) run e given =
    let m : Notice = notice (Producer n) (outcome.Granted (news.Recalled c)) in
    let k = granted_by o log m refl run in
    recall_plain (view o k.older) k.action c (grants_given o log m k (news.Recalled c) refl)
news_told o log n (outcome.Granted _) run e given = tt
news_told o log n _ run e given = tt

module _ (o : Options) (log : List Entry) (n : ℕ) (u : Outcome) (run : IsRun o (Then (Told (notice (Producer n) u)) ∷ log)) where
  abbrev later : List Entry
  later = Then (Told (notice (Producer n) u)) ∷ log

  -- where it has its turn it is told of no other
  abbrev TurnNever : Errand → Batches → Type 0
  TurnNever e b = (m : ℕ) → holds_batch e b ≡ Some m → is_turn_told u ≡ true → ⊥

  never_turn : (p : Plan) (s : StandsSo o log n p) → (view o log).stand (Producer n) ≡ Some p → TurnNever s.errand s.state
  never_turn p s stood m held turn = own_told_none o log n m p u run stood (ap holds s.is_it ∙ held) turn

  -- a send goes on
  pub goes_frame : (w : Ways) (e : Errand) (ns : List Member) (d : ℕ) (old s : Send) (dd : Deed) →
      (k : FrameSo o log n e (batching.Sending ns d old)) → TurnNever e (batching.Sending ns d old) →
      produce.send_told w e old (news_of u) ≡ transition.Stays s dd →
      MessageSo e k.1 (TurnTold later n) s × DeedSo e k.1 (TurnTold later n) (news_of u) s dd
  goes_frame w e ns d old s dd k never h =
      let m : MessageSo e k.1 (TurnTold later n) old = message_told e k.1 (Producer n) log u e old never k.4 in
      subst (StepSo e k.1 (TurnTold later n) (news_of u)) h
      (step_so e k.1 (TurnTold later n) w old (news_of u) m (news_told o log n u run e k.1))

  frame_sent : (w : Ways) (e : Errand) (b : Batches) (ms : List Member) (c : ℕ) (s : Send) (a : Action) → PromptSo o log n b → TurnNever e b →
      FrameSo o log n e b → IsSending w e ms c s a b u → FrameSo o later n e (batching.Sending ms c s)
  frame_sent w e batching.Resting ms c s a p never k x = absurd x
  frame_sent w e batching.Taking ms c s a p never k x = (
    x.0,
    x.1,
    some_batch o log n u x.0 (was_done o log n batching.Taking u p run.1) x.2,
    x.5,
    subst (MessageSo e x.1 (TurnTold later n)) (sym x.6) refl,
  )
  frame_sent w e (batching.Sending ns d old) ms c s a p never k x = (k.0, k.1, k.2, k.3, (goes_frame w e ns d old s x.2.0 k never x.2.1).0)
  frame_sent w e batching.Settling ms c s a p never k x = absurd x

  frame_to : (w : Ways) (e : Errand) (b q : Batches) (a : Action) → PromptSo o log n b → TurnNever e b → FrameSo o log n e b → StepTo w e b u q a →
      FrameSo o later n e q
  frame_to w e b (batching.Sending ms c s) a p never k x = frame_sent w e b ms c s a p never k x
  frame_to w e b batching.Resting a p never k x = tt
  frame_to w e b batching.Taking a p never k x = tt
  frame_to w e b batching.Settling a p never k x = tt

  plan_to : (p q : Plan) (a : Action) (s : StandsSo o log n p) → (view o log).stand (Producer n) ≡ Some p → PlanSo o log n p →
      BatchSo s.ways s.errand s.state u q a → PlanSo o later n q
  plan_to p (Batching v x b) a s stood k g =
      let f : FrameSo o log n s.errand s.state = subst (PlanSo o log n) s.is_it k in
      subst (λ y. FrameSo o later n y b) (sym g.1) (frame_to s.ways s.errand s.state b a s.prompt (never_turn p s stood) f g.2)
  plan_to p _ a s stood k g = absurd g

-- ALONG A LOG

framed : (o : Options) (n : ℕ) (log : List Entry) (p : Plan) → IsRun o log → (view o log).stand (Producer n) ≡ Some p → PlanSo o log n p
framed o n = stands_so o (Producer n) (IsRun o) (run_older o) (λ log p. PlanSo o log n p) more begun goes_on
  where
    more : (x : Entry) (log : List Entry) (p : Plan) → moves (Producer n) x ≡ false → IsRun o (x ∷ log) → (view o log).stand (Producer n) ≡ Some p →
        PlanSo o log n p → PlanSo o (x ∷ log) n p
    more (Then (Does who a)) log p m run s k =
        plan_more o log (Then (Does who a)) n p m (λ calm. under_kept o log who a n p run (batched_run o log run.0) s calm) k
    more (Then (Starts who q)) log p m run s k = plan_more o log (Then (Starts who q)) n p m (λ calm. ap (λ c. cond c None (under_way o n log)) m) k
    more (Then a) log p m run s k = plan_more o log (Then a) n p m (λ calm. refl) k
    more (Begins e) log p m run s k = plan_more o log (Begins e) n p m (λ calm. refl) k

    begun : (log : List Entry) (q : Procedure) (p : Plan) (a : Action) → IsRun o (Then (Starts (Producer n) q) ∷ log) → begins q ≡ Stays p a →
        PlanSo o (Then (Starts (Producer n) q) ∷ log) n p
    begun log q p a run e =
        let s = starts_own o log n q run in
        let b : Plan = Batching s.0 (record { producer = n; block = s.1 }) batching.Resting in
        let f : Stays b Rest ≡ Stays p a = ap begins (sym s.2) ∙ e in
        subst (PlanSo o (Then (Starts (Producer n) q) ∷ log) n) (let i : b ≡ p = cc in i) tt

    goes_on : (log : List Entry) (b : Plan) (u : Outcome) (p : Plan) (a : Action) → IsRun o (Then (Told (notice (Producer n) u)) ∷ log) →
        (view o log).stand (Producer n) ≡ Some b → PlanSo o log n b → told b u ≡ Stays p a → PlanSo o (Then (Told (notice (Producer n) u)) ∷ log) n p
    goes_on log b u p a run s k e =
        let j = here (Batched o) log (batched_run o log run.0) n b s in plan_to o log n u run b p a j s k (turn_so o log n u b p a j e)

-- AS IT DOES SOMETHING within a send

record InSend (o : Options) (log : List Entry) (n : ℕ) (a : Action) : Type 0 where
  outcome : Outcome
  older : List Entry
  there : log ≡ Then (Told (notice (Producer n) outcome)) ∷ older
  run : IsRun o (Then (Told (notice (Producer n) outcome)) ∷ older)
  ways : Ways
  errand : Errand
  own : errand.producer ≡ n
  members : List Member
  count : ℕ
  state : Send
  stands : (view o log).stand (Producer n) ≡ Some (Batching ways errand (batching.Sending members count state))
  items : List Item
  whole : ProducerMessageValues
  under : under_way o n log ≡ Some items
  batch : batch_of (entries_in items) ≡ Ok whole
  deed : Deed
  is_it : a ≡ action_of deed
  so : DeedSo errand whole (TurnTold log n) (news_of outcome) state deed

abbrev is_within : Action → Bool
is_within (Ask l request) = true
is_within (OfTopic n Draw) = true
is_within _ = false

in_send : (o : Options) (log : List Entry) (n : ℕ) (a : Action) → is_within a ≡ true → IsRun o (Then (Does (Producer n) a) ∷ log) → InSend o log n a
in_send o log n a inner run = elim (deed_at o log n a run (batched_run o log run.0)) [
  | inl d ↦ at d
  | inr r ↦ (let f : true ≡ false = sym inner ∙ ap is_within r in absurd cc)
]
  where
    at : AtDeed o log n a → InSend o log n a
    at d = by d.was.state d.state frame (never_turn o d.older n d.outcome d.run d.before d.was d.stood) d.step d.stands
      where
        Never : Batches → Type 0
        Never b = TurnNever o d.older n d.outcome d.run d.was.errand b

        frame : FrameSo o d.older n d.was.errand d.was.state
        frame = subst (PlanSo o d.older n) d.was.is_it (framed o n d.older d.before d.run.0 d.stood)

        sends : (ns : List Member) (j : ℕ) (old : Send) (ms : List Member) (c : ℕ) (s : Send) → FrameSo o d.older n d.was.errand (batching.Sending ns j old) →
            Never (batching.Sending ns j old) → GoesOn d.was.ways d.was.errand old s a d.outcome →
            (view o log).stand (Producer n) ≡ Some (Batching d.was.ways d.was.errand (batching.Sending ms c s)) → InSend o log n a
        sends ns j old ms c s k never x st =
            let g = goes_frame o d.older n d.outcome d.run d.was.ways d.was.errand ns j old s x.0 k never x.1 in
            record {
              outcome = d.outcome;
              older = d.older;
              there = d.there;
              run = d.run;
              ways = d.was.ways;
              errand = d.was.errand;
              own = d.was.own;
              members = ms;
              count = c;
              state = s;
              stands = st;
              items = k.0;
              whole = k.1;
              under = ap (under_way o n) d.there ∙ k.2;
              batch = k.3;
              deed = x.0;
              is_it = x.2;
              so = subst (λ y. DeedSo d.was.errand k.1 (TurnTold y n) (news_of d.outcome) s x.0) (sym d.there) g.1;
            }

        from : (b : Batches) (ms : List Member) (c : ℕ) (s : Send) → FrameSo o d.older n d.was.errand b → Never b →
            IsSending d.was.ways d.was.errand ms c s a b d.outcome →
            (view o log).stand (Producer n) ≡ Some (Batching d.was.ways d.was.errand (batching.Sending ms c s)) → InSend o log n a
        from batching.Resting ms c s k never x st = absurd x
        from batching.Taking ms c s k never x st = (let f : true ≡ false = sym inner ∙ ap is_within x.7 in absurd cc)
        from (batching.Sending ns j old) ms c s k never x st = sends ns j old ms c s k never x.2 st
        from batching.Settling ms c s k never x st = absurd x

        by : (b q : Batches) → FrameSo o d.older n d.was.errand b → Never b → StepTo d.was.ways d.was.errand b d.outcome q a →
            (view o log).stand (Producer n) ≡ Some (Batching d.was.ways d.was.errand q) → InSend o log n a
        by b batching.Resting k never x st = (let f : true ≡ false = sym inner ∙ ap is_within x.0 in absurd cc)
        by b batching.Taking k never x st = (let f : true ≡ false = sym inner ∙ ap is_within x.0 in absurd cc)
        by b (batching.Sending ms c s) k never x st = from b ms c s k never x st
        by b batching.Settling k never x st =
            (let y = settles_all d.was.ways d.was.errand a b d.outcome x in let f : true ≡ false = sym inner ∙ ap is_within y.1 in absurd cc)

-- where it asks for a message
abbrev asked_of : Words → Action → Words
asked_of r (Ask l request) = request
asked_of r _ = r

abbrev link_of : ℕ → Action → ℕ
link_of k (Ask l request) = l
link_of k _ = k

abbrev drawn_at : ℕ → Action → ℕ
drawn_at k (OfTopic n Draw) = n
drawn_at k _ = k

abbrev sent_by : ℕ → Words → ℕ
sent_by k (words.Send n name s m block) = n
sent_by k _ = k

abbrev number_of : ℕ → Words → ℕ
number_of k (words.Send n name s m block) = s
number_of k _ = k

abbrev name_of : List ℕ → Words → List ℕ
name_of k (words.Send n name s m block) = name
name_of k _ = k

abbrev message_of : ProducerMessageValues → Words → ProducerMessageValues
message_of k (words.Send n name s m block) = m
message_of k _ = k

record Asks (n l k s : ℕ) (name : List ℕ) (m : ProducerMessageValues) (e : Errand) (given : ProducerMessageValues) (V : Option (List ℕ) → Type 0) (y : News)
    (q : Send) : Type 0 where
  drawn : Drawn
  news : y ≡ news.Drew drawn
  link : l ≡ drawn.link
  producer : k ≡ e.producer
  called : name ≡ drawn.name
  number : s ≡ drawn.number
  message : Versioned e given V m
  kept : Option ProducerMessageValues
  asked : q ≡ send.Asked kept

asks_from : (n l k s : ℕ) (name : List ℕ) (m : ProducerMessageValues) (block : Bool) (e : Errand) (given : ProducerMessageValues)
    (V : Option (List ℕ) → Type 0) (y : News) (q : Send) (d : Deed) → Ask l (words.Send k name s m block) ≡ action_of d → DeedSo e given V y q d →
    Asks n l k s name m e given V y q
asks_from n l k s name m block e given V y q (deed.Sends j x) h so =
    let r : words.Send k name s m block ≡ words.Send x.producer x.name x.sequence x.message x.block = ap (asked_of (words.Send k name s m block)) h in
    record {
      drawn = so.0;
      news = so.1;
      link = ap (link_of l) h ∙ so.2;
      producer = ap (sent_by k) r ∙ so.3;
      called = ap (name_of name) r ∙ so.4;
      number = ap (number_of s) r ∙ so.5;
      message = subst (Versioned e given V) (sym (ap (message_of m) r)) so.7;
      kept = so.8;
      asked = so.9;
    }
asks_from n l k s name m block e given V y q (deed.Does (wish.Ask j request)) h so =
    let r : words.Send k name s m block ≡ request = ap (asked_of request) h in
    let f : true ≡ false = ap is_message r ∙ so in
    absurd cc
asks_from n l k s name m block e given V y q (deed.Does (wish.Get p)) h so = absurd cc
asks_from n l k s name m block e given V y q (deed.Does (wish.Wait delay)) h so = absurd cc
asks_from n l k s name m block e given V y q (deed.ClosesProducer j i) h so = absurd cc
asks_from n l k s name m block e given V y q _ h so = absurd cc

frame_asked : (o : Options) (log : List Entry) (n l k s : ℕ) (name : List ℕ) (m : ProducerMessageValues) (block : Bool) →
    IsRun o (Then (Does (Producer n) (Ask l (words.Send k name s m block))) ∷ log) →
    (x : InSend o log n (Ask l (words.Send k name s m block))) × Asks n l k s name m x.errand x.whole (TurnTold log n) (news_of x.outcome) x.state
frame_asked o log n l k s name m block run =
    let x = in_send o log n (Ask l (words.Send k name s m block)) refl run in
    (x, asks_from n l k s name m block x.errand x.whole (TurnTold log n) (news_of x.outcome) x.state x.deed x.is_it x.so)

-- a frame that it asked for is its own
pub asked_own : (o : Options) (log : List Entry) (n l k s : ℕ) (name : List ℕ) (m : ProducerMessageValues) (block : Bool) → IsRun o log →
    In (Then (Does (Producer n) (Ask l (words.Send k name s m block)))) log → k ≡ n
asked_own o log n l k s name m block run i =
    let x : Entry = Then (Does (Producer n) (Ask l (words.Send k name s m block))) in
    let c : Split x log = split_in x log i in
    let r : IsRun o (x ∷ c.older) = run_behind o c.newer (x ∷ c.older) (subst (IsRun o) c.is_it run) in
    let f = frame_asked o c.older n l k s name m block r in
    f.1.producer ∙ f.0.own

-- THE DRAW before it

draws_own : (o : Options) (log : List Entry) (n m : ℕ) → IsRun o (Then (Does (Producer n) (OfTopic m Draw)) ∷ log) → m ≡ n
draws_own o log n m run = let x = in_send o log n (OfTopic m Draw) refl run in by x x.deed x.is_it x.so
  where
    by : (x : InSend o log n (OfTopic m Draw)) (d : Deed) → OfTopic m Draw ≡ action_of d →
        DeedSo x.errand x.whole (TurnTold log n) (news_of x.outcome) x.state d → m ≡ n
    by x (deed.Draws j) h so = ap (drawn_at m) h ∙ so ∙ x.own
    by x (deed.Does (wish.Get p)) h so = absurd cc
    by x (deed.Does (wish.Ask l request)) h so = absurd cc
    by x (deed.Does (wish.Wait delay)) h so = absurd cc
    by x _ h so = absurd cc

record WasDrawn (o : Options) (older : List Entry) (n : ℕ) (d : Drawn) : Type 0 where
  behind : List Entry
  there : older ≡ Then (Does (Producer n) (OfTopic n Draw)) ∷ behind
  room : Bool
  ready : room_of (view o behind) n ≡ Some room
  row : IsDrawn room ((view o behind).producers.topics n) d

was_drawn : (o : Options) (older : List Entry) (n : ℕ) (d : Drawn) →
    IsRun o (Then (Told (notice (Producer n) (outcome.Granted (news.Drew d)))) ∷ older) → WasDrawn o older n d
was_drawn o older n d run =
    let note : Notice = notice (Producer n) (outcome.Granted (news.Drew d)) in
    let g = granted_by o older note refl run in
    let b = draw_by (view o g.older) g.action d (grants_given o older note g (news.Drew d) refl) in
    let there : older ≡ Then (Does (Producer n) (OfTopic b.0 Draw)) ∷ g.older = g.is_there ∙ ap (λ (x : Action). Then (Does (Producer n) x) ∷ g.older) b.1 in
    let own : b.0 ≡ n = draws_own o g.older n b.0 (subst (IsRun o) there run.0) in
    record {
      behind = g.older;
      there = there ∙ ap (λ m. Then (Does (Producer n) (OfTopic m Draw)) ∷ g.older) own;
      room = b.2;
      ready = ap (room_of (view o g.older)) (sym own) ∙ b.3;
      row = subst (λ m. IsDrawn b.2 ((view o g.older).producers.topics m) d) own (is_drawn b.2 ((view o g.older).producers.topics b.0) d b.4);
    }

-- and what was seen then
pub record IsDrawnFor (o : Options) (log : List Entry) (n k s : ℕ) : Type 0 where
  pub own : k ≡ n
  pub told : Notice
  pub behind : List Entry
  pub there : log ≡ Then (Told told) ∷ Then (Does (Producer n) (OfTopic n Draw)) ∷ behind
  pub before : Topic
  pub was : (view o behind).producers.topics n ≡ Some before
  pub number : s ≡ before.seen.next

pub drawn_for : (o : Options) (log : List Entry) (n l k s : ℕ) (name : List ℕ) (m : ProducerMessageValues) (block : Bool) →
    IsRun o (Then (Does (Producer n) (Ask l (words.Send k name s m block))) ∷ log) → IsDrawnFor o log n k s
drawn_for o log n l k s name m block run =
    let f = frame_asked o log n l k s name m block run in
    let x = f.0 in
    let a = f.1 in
    let r : IsRun o (Then (Told (notice (Producer n) (outcome.Granted (news.Drew a.drawn)))) ∷ x.older) =
    subst (λ u. IsRun o (Then (Told (notice (Producer n) u)) ∷ x.older))
    (drew_told x.errand x.whole (TurnTold log n) x.outcome a.drawn a.news) x.run in
    let d = was_drawn o x.older n a.drawn r in
    record {
      own = a.producer ∙ x.own;
      told = notice (Producer n) x.outcome;
      behind = d.behind;
      there = x.there ∙ ap (λ y. Then (Told (notice (Producer n) x.outcome)) ∷ y) d.there;
      before = d.row.topic;
      was = d.row.is_it;
      number = a.number ∙ d.row.number;
    }

-- THE LAW

pub frames_of_batches_lem : FramesOfBatches
frames_of_batches_lem o log n l k s name m block run =
    let f = frame_asked o log n l k s name m block run in
    let x = f.0 in
    let a = f.1 in
    let told_so : x.outcome ≡ outcome.Granted (news.Drew a.drawn) = drew_told x.errand x.whole (TurnTold log n) x.outcome a.drawn a.news in
    let r : IsRun o (Then (Told (notice (Producer n) (outcome.Granted (news.Drew a.drawn)))) ∷ x.older) =
    subst (λ u. IsRun o (Then (Told (notice (Producer n) u)) ∷ x.older)) told_so x.run in
    let d = was_drawn o x.older n a.drawn r in
    let before : Topic = d.row.topic in
    let now : (view o log).producers.topics n ≡ Some (topic_after Draws before) =
    ap (λ y. (view o y).producers.topics n) x.there
    ∙ ap (λ y. (view o y).producers.topics n) d.there
    ∙ ap (λ q. row_by topic_after (cond (n == n) (drawn_by q) []) ((view o d.behind).producers.topics n)) d.ready
    ∙ changed_at Draws (view o d.behind).producers n before d.row.is_it in
    let stands : (view o log).stand (Producer n) ≡ Some (Batching x.ways x.errand (batching.Sending x.members x.count (send.Asked a.kept))) =
    x.stands ∙ ap (λ q. Some (Batching x.ways x.errand (batching.Sending x.members x.count q))) a.asked in
    let has : HasTurn (view o log) (Producer n) n =
    own_in_turn o log n x.errand.producer (Batching x.ways x.errand (batching.Sending x.members x.count (send.Asked a.kept))) run.0 stands refl in
    let same : has.0 ≡ topic_after Draws before = (let g : Some has.0 ≡ Some (topic_after Draws before) = sym has.1 ∙ now in cc) in (
      x.items,
      x.whole,
      a.message.0,
      has.0,
      x.under,
      x.batch,
      a.message.1,
      a.producer ∙ x.own,
      has.1,
      has.2,
      ap (λ q. q.seen.link) same
          ∙ ap (λ b. (cond b before.seen (record before.seen { next = before.seen.next + 1 })).link) d.row.left
          ∙ sym d.row.link ∙ sym a.link,
      ap (λ q. q.seen.given.name) same
          ∙ ap (λ b. (cond b before.seen (record before.seen { next = before.seen.next + 1 })).given.name) d.row.left
          ∙ sym d.row.name ∙ sym a.called,
      ap (λ q. q.seen.next) same
          ∙ ap (λ b. (cond b before.seen (record before.seen { next = before.seen.next + 1 })).next) d.row.left
          ∙ ap (λ q. q + 1) (sym d.row.number ∙ sym a.number),
      a.message.2,
    )
