-- The frames that sends ask for, along a log.
use Rattle.std.proofs.Common.{◌≡◌, ◌==◌, inl, inr, ◌∙◌, sym, ap, subst, ℕ, ◌+◌, List, ◌∷◌, refl, Bool, true, false, cond, Option, Some, None, []}
use Rattle.std.proofs.lemmas.Bool.{cases_Bool}
use Rattle.pulsar_laws.proofs.ActWords.{Action, Ask, Call, Does, Draw, Notice, OfTopic, Outcome, Procedure, Recall, Share, Starts, TakeTurn, Told, Who}
use Rattle.pulsar_laws.proofs.PlanWords.{begins, Command, Drawn, Errand, Leaving, news_of, Plan, Reporting, Sending as Send, Stays, told, Ways}
use Rattle.pulsar_laws.proofs.RunWords.{Begins, Entry, IsRun, notice, Options, room_of, started, Then, View, view}
use Rattle.pulsar_messages.specs.Content.{ProducerMessageValues}
use Rattle.pulsar_messages.specs.Words as words
use Rattle.pulsar_messages.specs.Claims.{is_spent}
use Rattle.pulsar_producer.specs.Commands.{command_of}
use Rattle.pulsar_messages.specs.Message.{with_version}
use Rattle.pulsar_producer.specs.Producer as producer
use Rattle.pulsar_producer.specs.Topic.{Draws}
use Rattle.pulsar_outgoing.specs.declared.multi_topic.Taker.TheVariants as taker
use Rattle.pulsar_outgoing.specs.declared.news.News.TheVariants as news
use Rattle.pulsar_producer.specs.declared.sending.Sending.TheVariants as send
use Rattle.pulsar_calls.specs.declared.act.Outcome.TheVariants as outcome
use Rattle.pulsar_calls.specs.declared.act.Procedure.TheVariants as procedure
use Rattle.pulsar_plans.specs.declared.plan.Plan.TheVariants.{Sending}
use Rattle.pulsar_producer_table.specs.declared.table.Topic.{Topic}
use Rattle.pulsar_laws.proofs.plans.Holding.{holds, holds_in, is_turn_told}
use Rattle.pulsar_laws.proofs.plans.Standing.{moves, run_older, stands_so}
use Rattle.pulsar_laws.proofs.calls.Same.{same_self}
use Rattle.pulsar_laws.proofs.Cases.{none_some}
use Rattle.pulsar_producer_table.specs.Producers.{drawn, recalled_at, recalled_by, topic_after}
use Rattle.pulsar_laws.specs.ProducerLaws.{FramesAreOfTheirSends, drawn_by, version_in, version_told}
use Rattle.pulsar_laws.proofs.plans.Framing.{AsksSo, KeptSo, MessageSo, NewsSo, PlanSo, Versioned, is_message, told_so}
use Rattle.pulsar_laws.proofs.plans.Granted.{BeginsSo, GivenBy, IsGrantedBy, IsLedSo, does_from, granted_by, grants_given}
use Rattle.pulsar_laws.proofs.producers.InTurn.{self_same, stand_told}
use Rattle.pulsar_plans.proofs.Arcs.{StaysSo}
use Rattle.pulsar_laws.proofs.producers.TurnActs.{changed_at}
use Rattle.pulsar_laws.proofs.producers.TurnRun.{call_told_none, queued_in_turn_lem}
use Rattle.pulsar_run.specs.Things.{row_by}

-- THE VERSION that one was told with its newest turn

abbrev pub VersionTold : Who → List Entry → Option (List ℕ) → Type 0
VersionTold w log version = version_told w log ≡ Some version

pub version_same : (w : Who) (x : Entry) (log : List Entry) → moves w x ≡ false → version_told w (x ∷ log) ≡ version_told w log
version_same w (Then (Told n)) log m = ap (λ b. cond b (version_in n.outcome (version_told w log)) (version_told w log)) m
version_same w (Then a) log m = refl
version_same w (Begins e) log m = refl

pub version_now : (w : Who) (u : Outcome) (log : List Entry) → version_told w (Then (Told (notice w u)) ∷ log) ≡ version_in u (version_told w log)
version_now w u log = ap (λ b. cond b (version_in u (version_told w log)) (version_told w log)) (same_self w)

no_version : (u : Outcome) (r : Option (Option (List ℕ))) → is_turn_told u ≡ false → version_in u r ≡ r
no_version (outcome.Granted (news.HasTurn version)) r h = absurd cc
no_version (outcome.Granted _) r h = refl
no_version _ r h = refl

abbrev pub WasTold : List Entry → ℕ → Option (List ℕ) → Type 0
WasTold log t = VersionTold (Call t) log

module _ (e : Errand) (given : ProducerMessageValues) (V W : Option (List ℕ) → Type 0) (f : (x : Option (List ℕ)) → V x → W x) where
  more : (m : ProducerMessageValues) → Versioned e given V m → Versioned e given W m
  more m h = (h.0, h.1, f h.0 h.2)

  kept_more : (m : Option ProducerMessageValues) → KeptSo e given V m → KeptSo e given W m
  kept_more None h = tt
  kept_more (Some m) h = more m h

  pub message_more : (s : Send) → MessageSo e given V s → MessageSo e given W s
  message_more (send.Waiting m) h = h
  message_more (send.Drawing m) h = more m h
  message_more (send.Asked k) h = kept_more k h
  message_more send.Sent h = tt
  message_more (send.Recalling m) h = more m h
  message_more (send.Looking m c l) h = (more m h.0, h.1)
  message_more (send.Making m c k) h = (more m h.0, h.1)
  message_more (send.Remaking m) h = more m h
  message_more (send.Ending x) h = tt

  plan_more : (p : Plan) → PlanSo e given V p → PlanSo e given W p
  plan_more (Sending w x share s) k = (k.0, message_more s k.1)
  plan_more (Reporting w x) k = k
  plan_more (Leaving g) k = tt
  plan_more _ k = absurd k

-- one that has its turn is told of no other
module _ (e : Errand) (given : ProducerMessageValues) (who : Who) (log : List Entry) (u : Outcome) where
  abbrev TurnNever : Option ℕ → Type 0
  TurnNever held = (n : ℕ) → held ≡ Some n → is_turn_told u ≡ true → ⊥

  abbrev Now : Option (List ℕ) → Type 0
  Now = VersionTold who (Then (Told (notice who u)) ∷ log)

  free : (x : Errand) (s : Send) → is_turn_told u ≡ true → TurnNever (holds_in x s) → MessageSo e given (VersionTold who log) s → MessageSo e given Now s
  free x (send.Waiting m) turn never h = h
  free x send.Sent turn never h = tt
  free x (send.Ending f) turn never h = tt
  free x (send.Drawing m) turn never h = absurd (never x.producer refl turn)
  free x (send.Asked k) turn never h = absurd (never x.producer refl turn)
  free x (send.Recalling m) turn never h = absurd (never x.producer refl turn)
  free x (send.Looking m c l) turn never h = absurd (never x.producer refl turn)
  free x (send.Making m c k) turn never h = absurd (never x.producer refl turn)
  free x (send.Remaking m) turn never h = absurd (never x.producer refl turn)

  pub message_told : (x : Errand) (s : Send) → TurnNever (holds_in x s) → MessageSo e given (VersionTold who log) s → MessageSo e given Now s
  message_told x s never h = elim (cases_Bool (is_turn_told u)) [
    | inl turn ↦ free x s turn never h
    | inr none ↦ message_more e given (VersionTold who log) Now (λ v i. version_now who u log ∙ no_version u (version_told who log) none ∙ i) s h
  ]

  plan_told : (p : Plan) → TurnNever (holds p) → PlanSo e given (VersionTold who log) p → PlanSo e given Now p
  plan_told (Sending w x None s) never k = (k.0, message_told x s never k.1)
  plan_told (Sending w x (Some share) send.Sent) never k = (k.0, tt)
  plan_told (Sending w x (Some share) s) never k = (k.0, message_told x s never k.1)
  plan_told (Reporting w x) never k = k
  plan_told (Leaving g) never k = tt
  plan_told _ never k = absurd k

-- what is told of commands asks for no message
pub recall_plain : (v : View) (action : Action) (c : Command) → GivenBy v action (news.Recalled c) → is_message c.request ≡ false
recall_plain v (OfTopic n Recall) c h = at_row (v.producers.topics n) h
  where
    by : (t : Topic) (r : Option producer.Seen) → recalled_by t r ≡ Some c → is_message c.request ≡ false
    by t None h = absurd (none_some h)
    by t (Some p) h = let q : command_of p.options t.seen ≡ c = cc in subst (λ x. is_message x.request ≡ false) q refl

    at_row : (r : Option Topic) → recalled_at v.producers r ≡ Some c → is_message c.request ≡ false
    at_row None h = absurd (none_some h)
    at_row (Some t) h = by t (v.producers.built t.owner) h
recall_plain v _ c h = absurd h

news_told : (o : Options) (log : List Entry) (t : ℕ) (u : Outcome) → IsRun o (Then (Told (notice (Call t) u)) ∷ log) →
    (e : Errand) (given : ProducerMessageValues) →
    NewsSo e given (WasTold (Then (Told (notice (Call t) u)) ∷ log) t) (news_of u)
news_told o log t (outcome.Granted (news.HasTurn version)) run e given = version_now (Call t) (outcome.Granted (news.HasTurn version)) log
news_told o log t (outcome.Granted (news.Recalled c)) run e given =
    let n : Notice = notice (Call t) (outcome.Granted (news.Recalled c)) in
    let k = granted_by o log n refl run in
    recall_plain (view o k.older) k.action c (grants_given o log n k (news.Recalled c) refl)
news_told o log t (outcome.Granted _) run e given = tt
news_told o log t _ run e given = tt

-- ALONG A LOG

module _ (o : Options) (t : ℕ) where
  abbrev PlansSo : List Entry → Plan → Type 0
  PlansSo log p = (w : Ways) (e : Errand) (share : Option Share) (given : ProducerMessageValues) →
      started (Call t) log ≡ Some (procedure.Send w e share given) → PlanSo e given (WasTold log t) p

  started_same : (x : Entry) (log : List Entry) → moves (Call t) x ≡ false → started (Call t) (x ∷ log) ≡ started (Call t) log
  started_same (Then (Starts who q)) log m = ap (λ b. cond b (Some q) (started (Call t) log)) m
  started_same (Then a) log m = refl
  started_same (Begins e) log m = refl

  begun : (log : List Entry) (q : Procedure) (p : Plan) (a : Action) → IsRun o (Then (Starts (Call t) q) ∷ log) → begins q ≡ Stays p a →
      PlansSo (Then (Starts (Call t) q) ∷ log) p
  begun log q p a run leads w e share given h =
      let f : Some q ≡ Some (procedure.Send w e share given) = sym (ap (λ b. cond b (Some q) (started (Call t) log)) (same_self (Call t))) ∙ h in
      by share (ap begins (sym (let g : q ≡ procedure.Send w e share given = cc in g)) ∙ leads)
    where
      by : (x : Option Share) → begins (procedure.Send w e x given) ≡ Stays p a → PlanSo e given (WasTold (Then (Starts (Call t) q) ∷ log) t) p
      by None g = subst (PlanSo e given (WasTold (Then (Starts (Call t) q) ∷ log) t)) (let f : Sending w e None (send.Waiting given) ≡ p = cc in f) (refl, refl)
      by (Some y) g =
          subst (PlanSo e given (WasTold (Then (Starts (Call t) q) ∷ log) t)) (let f : Sending w e (Some y) (send.Waiting given) ≡ p = cc in f) (refl, refl)

  goes_on : (log : List Entry) (b : Plan) (u : Outcome) (p : Plan) (a : Action) → IsRun o (Then (Told (notice (Call t) u)) ∷ log) →
      (view o log).stand (Call t) ≡ Some b → PlansSo log b → told b u ≡ Stays p a → PlansSo (Then (Told (notice (Call t) u)) ∷ log) p
  goes_on log b u p a run s k leads w e share given h =
      let W : Option (List ℕ) → Type 0 = WasTold (Then (Told (notice (Call t) u)) ∷ log) t in
      let was : PlanSo e given W b =
      plan_told e given (Call t) log u b (λ n held turn. call_told_none o log t n b u run s held turn) (k w e share given h) in
      (subst (StaysSo (λ r a. PlanSo e given W r × AsksSo e given W u r a)) leads (told_so e given W b u was (news_told o log t u run e given))).0

  plans_so : (log : List Entry) (p : Plan) → IsRun o log → (view o log).stand (Call t) ≡ Some p → PlansSo log p
  plans_so =
      stands_so o (Call t) (IsRun o) (run_older o) PlansSo
      (λ x log p m run s k w e share given h. plan_more e given (WasTold log t) (WasTold (x ∷ log) t) (λ v i. version_same (Call t) x log m ∙ i) p
      (k w e share given (sym (started_same x log m) ∙ h))) begun goes_on

-- WHAT IT ASKS FOR

-- as a send does something, it was told what leads to it
pub record IsSendLed (o : Options) (log : List Entry) (t : ℕ) (e : Errand) (given : ProducerMessageValues) (action : Action) : Type 0 where
  pub led : IsLedSo o log (Call t) action
  pub asks : AsksSo e given (WasTold log t) led.outcome led.plan action

abbrev is_take : Action → Bool
is_take (OfTopic n TakeTurn) = true
is_take _ = false

pub send_led : (o : Options) (log : List Entry) (t : ℕ) (w : Ways) (e : Errand) (share : Option Share) (given : ProducerMessageValues) (action : Action) →
    IsRun o (Then (Does (Call t) action) ∷ log) → is_take action ≡ false → started (Call t) log ≡ Some (procedure.Send w e share given) →
    IsSendLed o log t e given action
send_led o log t w e share given action run take h = elim (does_from o log (Call t) action run) [
  | inl b ↦ absurd (begun b)
  | inr l ↦ led l
]
  where
    takes : (x : Option Share) (plan : Plan) → begins (procedure.Send w e x given) ≡ Stays plan action → ⊥
    takes None plan g = let f : is_take (OfTopic e.producer TakeTurn) ≡ is_take action = cc in let f' : true ≡ false = f ∙ take in cc
    takes (Some y) plan g = let f : is_take (OfTopic e.producer TakeTurn) ≡ is_take action = cc in let f' : true ≡ false = f ∙ take in cc

    begun : BeginsSo o log (Call t) action → ⊥
    begun b =
        let st : started (Call t) (Then (Starts (Call t) b.procedure) ∷ b.older) ≡ Some b.procedure =
        ap (λ x. cond x (Some b.procedure) (started (Call t) b.older)) (self_same t) in
        let f : Some b.procedure ≡ Some (procedure.Send w e share given) = sym st ∙ ap (started (Call t)) (sym b.is_there) ∙ h in
        let is : b.procedure ≡ procedure.Send w e share given = cc in
        takes share b.plan (ap begins (sym is) ∙ b.leads)

    led : IsLedSo o log (Call t) action → IsSendLed o log t e given action
    led l =
        let log' : List Entry = Then (Told (notice (Call t) l.outcome)) ∷ l.older in
        let run' : IsRun o (Then (Told (notice (Call t) l.outcome)) ∷ l.older) = subst (IsRun o) l.is_there run.0 in
        let h' : started (Call t) l.older ≡ Some (procedure.Send w e share given) = ap (started (Call t)) (sym l.is_there) ∙ h in
        let was : PlanSo e given (WasTold l.older t) l.before = plans_so o t l.older l.before run'.0 l.stood w e share given h' in
        let now : PlanSo e given (WasTold (Then (Told (notice (Call t) l.outcome)) ∷ l.older) t) l.before =
        plan_told e given (Call t) l.older l.outcome l.before
        (λ n held turn. call_told_none o l.older t n l.before l.outcome run' l.stood held turn) was in
        let so = told_so e given (WasTold (Then (Told (notice (Call t) l.outcome)) ∷ l.older) t) l.before l.outcome now
        (news_told o l.older t l.outcome run' e given) in
        let k = subst (StaysSo (λ q a. PlanSo e given (WasTold (Then (Told (notice (Call t) l.outcome)) ∷ l.older) t) q
        × AsksSo e given (WasTold (Then (Told (notice (Call t) l.outcome)) ∷ l.older) t) l.outcome q a)) l.leads so in
        record { led = l; asks = subst (λ x. AsksSo e given (WasTold x t) l.outcome l.plan action) (sym l.is_there) k.1 }

-- what was drawn
pub record IsDrawn (room : Bool) (row : Option Topic) (d : Drawn) : Type 0 where
  pub topic : Topic
  pub is_it : row ≡ Some topic
  pub left : is_spent topic.seen.next ≡ false
  pub number : d.number ≡ topic.seen.next
  pub link : d.link ≡ topic.seen.link
  pub name : d.name ≡ topic.seen.given.name

pub is_drawn : (room : Bool) (row : Option Topic) (d : Drawn) → drawn room row ≡ Some d → IsDrawn room row d
is_drawn room None d h = absurd (none_some h)
is_drawn room (Some t) d h = elim (cases_Bool (is_spent t.seen.next)) [
  | inl s ↦ (let f : None ≡ Some d = rw s at h in absurd cc)
  | inr s ↦
      (let f : Some (record { number = t.seen.next; link = t.seen.link; room = room; name = t.seen.given.name }) ≡ Some d = rw s at h in
      let q : record { number = t.seen.next; link = t.seen.link; room = room; name = t.seen.given.name } ≡ d = cc in
      record {
        topic = t;
        is_it = refl;
        left = s;
        number = sym (ap (λ x. x.number) q);
        link = sym (ap (λ x. x.link) q);
        name = sym (ap (λ x. x.name) q);
      })
]

pub draw_by : (v : View) (action : Action) (d : Drawn) → GivenBy v action (news.Drew d) →
    (n : ℕ) × (action ≡ OfTopic n Draw) × (room : Bool) × (room_of v n ≡ Some room) × (drawn room (v.producers.topics n) ≡ Some d)
draw_by v (OfTopic n Draw) d h = (n, refl, h.0, h.1, h.2)
draw_by v _ d h = absurd h

-- the draw before it
record WasDrawn (o : Options) (older : List Entry) (t n : ℕ) (d : Drawn) : Type 0 where
  behind : List Entry
  there : older ≡ Then (Does (Call t) (OfTopic n Draw)) ∷ behind
  room : Bool
  ready : room_of (view o behind) n ≡ Some room
  row : IsDrawn room ((view o behind).producers.topics n) d

was_drawn : (o : Options) (older : List Entry) (t : ℕ) (w : Ways) (e : Errand) (share : Option Share) (given : ProducerMessageValues) (d : Drawn) →
    IsRun o (Then (Told (notice (Call t) (outcome.Granted (news.Drew d)))) ∷ older) → started (Call t) older ≡ Some (procedure.Send w e share given) →
    WasDrawn o older t e.producer d
was_drawn o older t w e share given d run h =
    let note : Notice = notice (Call t) (outcome.Granted (news.Drew d)) in
    let g : IsGrantedBy o older note = granted_by o older note refl run in
    let b = draw_by (view o g.older) g.action d (grants_given o older note g (news.Drew d) refl) in
    from g.older b.0 b.2 (g.is_there ∙ ap (λ (x : Action). Then (Does (Call t) x) ∷ g.older) b.1) b.3 b.4
  where
    from : (behind : List Entry) (n : ℕ) (room : Bool) → older ≡ Then (Does (Call t) (OfTopic n Draw)) ∷ behind → room_of (view o behind) n ≡ Some room →
        drawn room ((view o behind).producers.topics n) ≡ Some d → WasDrawn o older t e.producer d
    from behind n room there ready q =
        let run2 : IsRun o (Then (Does (Call t) (OfTopic n Draw)) ∷ behind) = subst (IsRun o) there run.0 in
        let h2 : started (Call t) behind ≡ Some (procedure.Send w e share given) = ap (started (Call t)) (sym there) ∙ h in
        let num : n ≡ e.producer = (send_led o behind t w e share given (OfTopic n Draw) run2 refl h2).asks in
        record {
          behind = behind;
          there = there ∙ ap (λ m. Then (Does (Call t) (OfTopic m Draw)) ∷ behind) num;
          room = room;
          ready = ap (room_of (view o behind)) (sym num) ∙ ready;
          row = subst (λ m. IsDrawn room ((view o behind).producers.topics m) d) num (is_drawn room ((view o behind).producers.topics n) d q);
        }

-- what is seen behind it
draw_now : (o : Options) (behind : List Entry) (t n : ℕ) (room : Bool) (x : Topic) → room_of (view o behind) n ≡ Some room →
    (view o behind).producers.topics n ≡ Some x → (view o (Then (Does (Call t) (OfTopic n Draw)) ∷ behind)).producers.topics n ≡ Some (topic_after Draws x)
draw_now o behind t n room x ready h =
    ap (λ r. row_by topic_after (cond (n == n) (drawn_by r) []) ((view o behind).producers.topics n)) ready ∙ changed_at Draws (view o behind).producers n x h

topic_now : (o : Options) (log older behind : List Entry) (t n : ℕ) (note : Notice) (x : Topic) → log ≡ Then (Told note) ∷ older →
    older ≡ Then (Does (Call t) (OfTopic n Draw)) ∷ behind →
    (view o (Then (Does (Call t) (OfTopic n Draw)) ∷ behind)).producers.topics n ≡ Some (topic_after Draws x) →
    (view o log).producers.topics n ≡ Some (topic_after Draws x)
topic_now o log older behind t n note x p q h = ap (λ y. (view o y).producers.topics n) p ∙ ap (λ y. (view o y).producers.topics n) q ∙ h

stand_now : (o : Options) (log older : List Entry) (t : ℕ) (u : Outcome) (before plan q : Plan) (a : Action) →
    log ≡ Then (Told (notice (Call t) u)) ∷ older → (view o older).stand (Call t) ≡ Some before → told before u ≡ Stays plan a → plan ≡ q →
    (view o log).stand (Call t) ≡ Some q
stand_now o log older t u before plan q a p s h e = ap (λ y. (view o y).stand (Call t)) p ∙ stand_told o older (Call t) u before plan a s h ∙ ap Some e

-- THE LAW

module _ (o : Options) (log : List Entry) (t l n s : ℕ) (name : List ℕ) (m : ProducerMessageValues) (block : Bool) (w : Ways) (e : Errand)
    (share : Option Share)
    (given : ProducerMessageValues) (run : IsRun o (Then (Does (Call t) (Ask l (words.Send n name s m block))) ∷ log))
    (h : started (Call t) log ≡ Some (procedure.Send w e share given)) where
  abbrev sent : Action
  sent = Ask l (words.Send n name s m block)

  pub it : IsSendLed o log t e given sent
  it = send_led o log t w e share given sent run refl h

  -- the message, the draw before it, and what is seen between
  pub record IsFramed : Type 0 where
    pub version : Option (List ℕ)
    pub message : m ≡ with_version version given
    pub was_told : WasTold log t version
    pub producer : n ≡ e.producer
    pub blocks : block ≡ e.block
    pub has : (row : Topic) × ((view o log).producers.topics e.producer ≡ Some row) × (row.seen.holder ≡ Some (taker.Call t))
    pub before : Topic
    pub after : (view o log).producers.topics e.producer ≡ Some (topic_after Draws before)
    pub left : is_spent before.seen.next ≡ false
    pub number : s ≡ before.seen.next
    pub link : l ≡ before.seen.link
    pub called : name ≡ before.seen.given.name
    pub told : Notice
    pub drawn : ℕ
    pub behind : List Entry
    pub there : log ≡ Then (Told told) ∷ Then (Does (Call t) (OfTopic drawn Draw)) ∷ behind
    pub was : (view o behind).producers.topics e.producer ≡ Some before

  pub framed : (k : IsSendLed o log t e given sent) → IsFramed
  framed k =
      let led = k.led in
      let a = k.asks in
      let note : Notice = notice (Call t) led.outcome in
      let run1 : IsRun o (Then (Told note) ∷ led.older) = subst (IsRun o) led.is_there run.0 in
      let run2 : IsRun o (Then (Told (notice (Call t) (outcome.Granted (news.Drew a.0)))) ∷ led.older) =
      subst (λ u. IsRun o (Then (Told (notice (Call t) u)) ∷ led.older)) a.1 run1 in
      let h1 : started (Call t) led.older ≡ Some (procedure.Send w e share given) = ap (started (Call t)) (sym led.is_there) ∙ h in
      let x : WasDrawn o led.older t e.producer a.0 = was_drawn o led.older t w e share given a.0 run2 h1 in
      let stood : (view o log).stand (Call t) ≡ Some (Sending a.8 e a.9 (send.Asked a.10)) =
      stand_now o log led.older t led.outcome led.before led.plan (Sending a.8 e a.9 (send.Asked a.10)) sent led.is_there led.stood led.leads a.11 in
      record {
        version = a.7.0;
        message = a.7.1;
        was_told = a.7.2;
        producer = a.3;
        blocks = a.6;
        has = queued_in_turn_lem o log t a.8 e a.9 a.10 run.0 stood;
        before = x.row.topic;
        after =
            topic_now o log led.older x.behind t e.producer note x.row.topic led.is_there x.there
            (draw_now o x.behind t e.producer x.room x.row.topic x.ready x.row.is_it);
        left = x.row.left;
        number = a.5 ∙ x.row.number;
        link = a.2 ∙ x.row.link;
        called = a.4 ∙ x.row.name;
        told = note;
        drawn = e.producer;
        behind = x.behind;
        there = led.is_there ∙ ap (λ y. Then (Told note) ∷ y) x.there;
        was = x.row.is_it;
      }

  drawn_row : (k : IsFramed) → k.has.0 ≡ topic_after Draws k.before
  drawn_row k = let f : Some k.has.0 ≡ Some (topic_after Draws k.before) = sym k.has.1 ∙ k.after in cc

  next_is : (k : IsFramed) → (topic_after Draws k.before).seen.next ≡ k.before.seen.next + 1
  next_is k = ap (λ b. (cond b k.before.seen (record k.before.seen { next = k.before.seen.next + 1 })).next) k.left

  link_is : (k : IsFramed) → (topic_after Draws k.before).seen.link ≡ k.before.seen.link
  link_is k = ap (λ b. (cond b k.before.seen (record k.before.seen { next = k.before.seen.next + 1 })).link) k.left

  name_is : (k : IsFramed) → (topic_after Draws k.before).seen.given.name ≡ k.before.seen.given.name
  name_is k = ap (λ b. (cond b k.before.seen (record k.before.seen { next = k.before.seen.next + 1 })).given.name) k.left

pub frames_are_of_their_sends_lem : FramesAreOfTheirSends
frames_are_of_their_sends_lem o log t l n s name m block w e share given run h =
    let k = framed o log t l n s name m block w e share given run h (it o log t l n s name m block w e share given run h) in
    let q : k.has.0 ≡ topic_after Draws k.before = drawn_row o log t l n s name m block w e share given run h k in (
      k.has.0,
      k.version,
      ap (view o log).producers.topics k.producer ∙ k.has.1,
      k.producer,
      k.blocks,
      k.has.2,
      ap (λ r. r.seen.link) q ∙ link_is o log t l n s name m block w e share given run h k ∙ sym k.link,
      ap (λ r. r.seen.given.name) q ∙ name_is o log t l n s name m block w e share given run h k ∙ sym k.called,
      ap (λ r. r.seen.next) q ∙ next_is o log t l n s name m block w e share given run h k ∙ ap (λ x. x + 1) (sym k.number),
      k.message,
      k.was_told,
    )
