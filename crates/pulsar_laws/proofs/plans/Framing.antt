-- What a send asks for: one step of its plan.
use Rattle.std.proofs.Common.{◌≡◌, sym, ap, subst, ℕ, List, refl, Bool, true, false, ◌&&◌, cond, Option, Some, None, Result, Ok, Err}
use Rattle.std.specs.Prelude.{not}
use Rattle.pulsar_laws.proofs.ActWords.{Action, Ask, Draw, OfTopic, Outcome, Share}
use Rattle.pulsar_laws.proofs.PlanWords.{action_of, Command, Deed, Denies, Drawn, Errand, Heard as Heard', Later, Leaving, Looking, Making, News, news_of, Plan, Reporting, Says, SearchTransition, Sending as Send, told, Ways, Wish}
use Rattle.pulsar_laws.proofs.LinkWords.{Failure, Fault, OfConnection, Words}
use Rattle.pulsar_messages.specs.Content.{ProducerMessageValues}
use Rattle.pulsar_messages.specs.Words as words
use Rattle.pulsar_frame.specs.Reply.{Reply as Content}
use Rattle.pulsar_addresses.specs.Backoff.{allow_retry}
use Rattle.pulsar_searches.specs.Plans as search
use Rattle.pulsar_searches.specs.Plans.{is_lost, is_retryable}
use Rattle.pulsar_searches.specs.Replies.{place_heard}
use Rattle.pulsar_searches.specs.declared.look.Looking.TheVariants as look
use Rattle.pulsar_searches.specs.declared.look.Search.{Search}
use Rattle.pulsar_searches.specs.declared.making.Making.TheVariants as make
use Rattle.pulsar_searches.specs.declared.replies.Heard.{Heard}
use Rattle.pulsar_searches.specs.declared.replies.Pointed.{Pointed}
use Rattle.pulsar_searches.specs.declared.replies.Pointed.TheVariants.{Redirects, Serves}
use Rattle.pulsar_searches.specs.declared.retry.Retrying.{Retrying}
use Rattle.pulsar_searches.specs.declared.retry.Retrying.TheVariants as retry
use Rattle.pulsar_searches.specs.declared.turn.Action.TheVariants as wish
use Rattle.pulsar_searches.specs.declared.turn.SearchOutcome.TheVariants as told_in
use Rattle.pulsar_messages.specs.Message.{with_version}
use Rattle.pulsar_producer.specs.Plans as produce
use Rattle.pulsar_producer.specs.Plans.{Sent, kept}
use Rattle.pulsar_producer.specs.declared.deed.Deed.TheVariants as deed
use Rattle.pulsar_outgoing.specs.declared.news.News.TheVariants as news
use Rattle.pulsar_producer.specs.declared.sending.Sending.TheVariants as send
use Rattle.pulsar_calls.specs.declared.act.Outcome.TheVariants as outcome
use Rattle.pulsar_plans.specs.declared.plan.Plan.TheVariants.{Sending}
use Rattle.pulsar_plans.specs.Plan.{wished}
use Rattle.pulsar_plans.proofs.Arcs.{Arc, StaysSo, part_fails, part_halts, part_sends, part_tells, reports_on, sends, stays_by}
use Rattle.pulsar_producer.proofs.Arcs.{SendArc, StepSo as ArcsTo, asked_recalls, asks, drawn_recalls, draws, looked_makes, looking_rests, looks_on_asks, looks_on_gets, looks_on_waits, made_remakes, makes_on_asks, makes_on_gets, makes_on_waits, making_rests, recalled_looks_asks, recalled_looks_gets, recalled_looks_waits, recalled_makes, remade_draws, send_arcs, stands}
use Rattle.pulsar_searches.specs.declared.transition.Transition.TheVariants as transition

-- PLANS WITHIN PLANS ASK FOR NO MESSAGE

abbrev pub is_message : Words → Bool
is_message (words.Send n name s m block) = true
is_message _ = false

abbrev pub IsPlainWish : Wish → Type 0
IsPlainWish (wish.Ask l request) = is_message request ≡ false
IsPlainWish _ = Unit {0}

abbrev PlainTurn : {S A : Type 0} → SearchTransition S A → Type 0
PlainTurn (transition.Stays s a) = IsPlainWish a
PlainTurn (transition.Gives a) = Unit {0}

either_plain : {S A : Type 0} (b : Bool) (x y : SearchTransition S A) → PlainTurn x → PlainTurn y → PlainTurn (cond b x y)
either_plain true x y p q = p
either_plain false x y p q = q

and_plain : {S T A B : Type 0} (x : SearchTransition S (Result A Failure)) (within : S → T) (on : A → SearchTransition T (Result B Failure)) → PlainTurn x →
    ((a : A) → PlainTurn (on a)) →
    PlainTurn (search.and_then x within on)
and_plain (transition.Stays s a) within on p q = p
and_plain (transition.Gives (Ok a)) within on p q = q a
and_plain (transition.Gives (Err f)) within on p q = tt

nested_plain : {S T A B : Type 0} (x : SearchTransition S A) (within : S → T) (on : A → SearchTransition T B) → PlainTurn x → ((a : A) → PlainTurn (on a)) →
    PlainTurn (search.nested x within on)
nested_plain (transition.Stays s a) within on p q = p
nested_plain (transition.Gives a) within on p q = q a

pointed_plain : (n : ℕ) (x : Pointed) → PlainTurn (search.look_pointed n x)
pointed_plain n (Redirects place authority) = tt
pointed_plain n (Serves place) = tt

heard_plain : (w : Ways) (s : Search) (l : ℕ) (x : Heard Pointed) → PlainTurn (search.look_heard w s l x)
heard_plain w s l (Says pointed) = pointed_plain s.retries pointed
heard_plain w s l Later = tt
heard_plain w s l (Denies f) = tt

look_plain : (w : Ways) (t : List ℕ) (l : Looking) (o : Heard') → PlainTurn (search.look_told w t l o)
look_plain w t (look.Getting s) (told_in.GotLink l) = refl
look_plain w t (look.Getting s) _ = tt
look_plain w t (look.Asked s l) (told_in.Replied r) = heard_plain w s l (place_heard w s.last.proxy s.retries r)
look_plain w t (look.Asked s l) o =
    either_plain (s.again && is_lost (search.fault_of o)) (search.look_gets (record s { again = false })) (search.fails (_)) tt tt
look_plain w t (look.Resting s l) told_in.Woken = refl
look_plain w t (look.Resting s l) _ = tt
look_plain w t (look.Reaching found) (told_in.GotLink l) = tt
look_plain w t (look.Reaching found) _ = tt

retry_plain : (w : Ways) (t : List ℕ) (x : Retrying) (o : Heard') → PlainTurn (search.retry_told w t x o)
retry_plain w t retry.Resting told_in.Woken = tt
retry_plain w t retry.Resting _ = tt
retry_plain w t (retry.Looking l) o = nested_plain (search.look_told w t l o) retry.Looking transition.Gives (look_plain w t l o) (λ a. tt)

again_plain : (w : Ways) (n : ℕ) (f : Fault) → PlainTurn (search.retry_begins w n f)
again_plain w n f = either_plain (is_retryable f && allow_retry w.max_retries n) _ (search.fails (OfConnection f)) tt tt

answered_plain : (w : Ways) (n l : ℕ) (r : Result Content Fault) → PlainTurn (search.made_answered w n l r)
answered_plain w n l (Ok r) = tt
answered_plain w n l (Err f) = and_plain (search.retry_begins w n f) (λ r. make.Retrying r n) _ (again_plain w n f) (λ a. tt)

made_plain : (w : Ways) (c : Command) (k : Making) (o : Heard') → is_message c.request ≡ false → PlainTurn (search.made_told w c k o)
made_plain w c (make.Getting n) (told_in.GotLink l) h = h
made_plain w c (make.Getting n) _ h = tt
made_plain w c (make.Asked n l) o h = answered_plain w n l (search.verdict c.answer o)
made_plain w c (make.Retrying r n) o h = and_plain (search.retry_told w c.topic r o) (λ r. make.Retrying r n) _ (retry_plain w c.topic r o) (λ a. tt)

-- A SEND: of this errand and this message. `V` are the versions that it was told with its turn.

module _ (e : Errand) (given : ProducerMessageValues) (V : Option (List ℕ) → Type 0) where
  abbrev pub Versioned : ProducerMessageValues → Type 0
  Versioned m = (version : Option (List ℕ)) × (m ≡ with_version version given) × V version

  abbrev pub KeptSo : Option ProducerMessageValues → Type 0
  KeptSo None = Unit {0}
  KeptSo (Some m) = Versioned m

  abbrev pub MessageSo : Send → Type 0
  MessageSo (send.Waiting m) = m ≡ given
  MessageSo (send.Drawing m) = Versioned m
  MessageSo (send.Asked k) = KeptSo k
  MessageSo send.Sent = Unit {0}
  MessageSo (send.Recalling m) = Versioned m
  MessageSo (send.Looking m c l) = Versioned m × (is_message c.request ≡ false)
  MessageSo (send.Making m c k) = Versioned m × (is_message c.request ≡ false)
  MessageSo (send.Remaking m) = Versioned m
  MessageSo (send.Ending f) = Unit {0}

  -- what it does behind news
  abbrev pub DeedSo : News → Send → Deed → Type 0
  DeedSo y s (deed.Sends l x) =
      (d : Drawn) × (y ≡ news.Drew d) × (l ≡ d.link) × (x.producer ≡ e.producer) × (x.name ≡ d.name) × (x.sequence ≡ d.number) × (x.block ≡ e.block)
      × Versioned x.message × (k : Option ProducerMessageValues) × (s ≡ send.Asked k)
  DeedSo y s (deed.Draws n) = n ≡ e.producer
  DeedSo y s (deed.Does x) = IsPlainWish x
  DeedSo y s d = Unit {0}

  kept_so : (room : Bool) (m : ProducerMessageValues) → Versioned m → KeptSo (kept e room m)
  kept_so room m k = elim (e.block && not room) as (λ b. KeptSo (cond b (Some m) None)) [ true ↦ k | false ↦ tt ]

  -- of turns and commands it is told such
  abbrev pub NewsSo : News → Type 0
  NewsSo (news.HasTurn version) = V version
  NewsSo (news.Recalled c) = is_message c.request ≡ false
  NewsSo _ = Unit {0}

  abbrev pub StepSo : News → Sent → Type 0
  StepSo y (transition.Stays s d) = MessageSo s × DeedSo y s d
  StepSo y (transition.Gives a) = Unit {0}

  pub send_so : {w : Ways} {s q : Send} {y : News} {d : Deed} → SendArc w e s y q d → MessageSo s → NewsSo y → MessageSo q × DeedSo y q d
  send_so (draws {m} {v}) k h = ((v, ap (with_version v) k, h), refl)
  send_so (asks {m} {d}) k h = (kept_so d.room m k, (d, refl, refl, refl, refl, refl, refl, k, kept e d.room m, refl))
  send_so drawn_recalls k h = (k, tt)
  send_so stands k h = (k, tt)
  send_so asked_recalls k h = (k, tt)
  send_so (recalled_looks_gets i) k h = ((k, h), tt)
  send_so (recalled_looks_asks i) k h = ((k, h), subst PlainTurn i tt)
  send_so (recalled_looks_waits i) k h = ((k, h), tt)
  send_so recalled_makes k h = ((k, h), tt)
  send_so (looks_on_gets i) k h = (k, tt)
  send_so {w} (looks_on_asks {m} {c} {s} {k = l} {o} i) k h = (k, subst PlainTurn i (look_plain w c.topic s o))
  send_so (looks_on_waits i) k h = (k, tt)
  send_so looked_makes k h = (k, tt)
  send_so looking_rests k h = (k, tt)
  send_so (makes_on_gets i) k h = (k, tt)
  send_so {w} (makes_on_asks {m} {c} {s} {k = l} {o} i) k h = (k, subst PlainTurn i (made_plain w c s o k.1))
  send_so (makes_on_waits i) k h = (k, tt)
  send_so (made_remakes made) k h = (k.0, tt)
  send_so making_rests k h = (k, tt)
  send_so remade_draws k h = (k, refl)
  send_so _ k h = (tt, tt)

  pub step_so : (w : Ways) (s : Send) (y : News) → MessageSo s → NewsSo y → StepSo y (produce.send_told w e s y)
  step_so w s y k h = by (produce.send_told w e s y) (send_arcs w e s y)
    where
      by : (x : Sent) → ArcsTo (SendArc w e s y) x → StepSo y x
      by (transition.Stays q d) r = send_so r k h
      by (transition.Gives a) r = tt

  -- A PLAN OF IT

  abbrev pub PlanSo : Plan → Type 0
  PlanSo (Sending w x share s) = (x ≡ e) × MessageSo s
  PlanSo (Reporting w x) = x ≡ e
  PlanSo (Leaving f) = Unit {0}
  PlanSo _ = ⊥

  abbrev pub AsksSo : Outcome → Plan → Action → Type 0
  AsksSo u q (Ask l (words.Send n name s m block)) =
      (d : Drawn) × (u ≡ outcome.Granted (news.Drew d)) × (l ≡ d.link) × (n ≡ e.producer) × (name ≡ d.name) × (s ≡ d.number) × (block ≡ e.block) × Versioned m
      × (w : Ways) × (share : Option Share) × (k : Option ProducerMessageValues) × (q ≡ Sending w e share (send.Asked k))
  AsksSo u q (OfTopic n Draw) = n ≡ e.producer
  AsksSo u q _ = Unit {0}

  abbrev pub TurnSo : Outcome → Plan → Action → Type 0
  TurnSo u q a = PlanSo q × AsksSo u q a

  plain_asks : (u : Outcome) (q : Plan) (l : ℕ) (request : Words) → is_message request ≡ false → AsksSo u q (Ask l request)
  plain_asks u q l (words.Send n name s m block) h = absurd cc
  plain_asks u q l _ h = tt

  wish_asks : (u : Outcome) (q : Plan) (x : Wish) → IsPlainWish x → AsksSo u q (wished x)
  wish_asks u q (wish.Get p) h = tt
  wish_asks u q (wish.Ask l request) h = plain_asks u q l request h
  wish_asks u q (wish.Wait delay) h = tt

  pub drew_told : (u : Outcome) (d : Drawn) → news_of u ≡ news.Drew d → u ≡ outcome.Granted (news.Drew d)
  drew_told (outcome.Granted n) d h = ap outcome.Granted h
  drew_told outcome.Queued d h = absurd cc
  drew_told outcome.InLine d h = absurd cc
  drew_told _ d h = absurd cc

  deed_asks : (u : Outcome) (w : Ways) (share : Option Share) (s : Send) (d : Deed) → DeedSo (news_of u) s d → AsksSo u (Sending w e share s) (action_of d)
  deed_asks u w share s (deed.Sends l x) k =
      (k.0, drew_told u k.0 k.1, k.2, k.3, k.4, k.5, k.6, k.7, w, share, k.8, ap (Sending w e share) k.9)
  deed_asks u w share s (deed.Draws n) k = k
  deed_asks u w share s (deed.Does x) k = wish_asks u (Sending w e share s) x k
  deed_asks u w share s _ k = tt

  part_so : (u : Outcome) (w : Ways) (x : Errand) (share : Option Share) (s q : Send) (d : Deed) → SendArc w x s (news_of u) q d →
      (x ≡ e) × MessageSo s → NewsSo (news_of u) → TurnSo u (Sending w x share q) (action_of d)
  part_so u w x share s q d r k h =
      let j = send_so (subst (λ z. SendArc w z s (news_of u) q d) k.0 r) k.1 h in
      ((k.0, j.0), subst (λ z. AsksSo u (Sending w z share q) (action_of d)) (sym k.0) (deed_asks u w share q d j.1))

  arc_so : {p q : Plan} {u : Outcome} {a : Action} → Arc p u q a → PlanSo p → NewsSo (news_of u) → TurnSo u q a
  arc_so (sends {w} {e = x} {s} {q} {u} d r) k h = part_so u w x None s q d r k h
  arc_so (part_sends {w} {e = x} {h = part} {s} {q} {u} d r b) k h = part_so u w x (Some part) s q d r k h
  arc_so (part_tells q d r b) k h = (k.0, tt)
  arc_so part_fails k h = (tt, tt)
  arc_so (part_halts b) k h = (tt, tt)
  arc_so reports_on k h = ((k, tt), tt)
  arc_so _ k h = absurd k

  pub told_so : (p : Plan) (u : Outcome) → PlanSo p → NewsSo (news_of u) → StaysSo (TurnSo u) (told p u)
  told_so p u k h = stays_by (TurnSo u) p u (λ q a r. arc_so r k h)
