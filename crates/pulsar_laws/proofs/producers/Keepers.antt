-- Those whose messages a topic producer stores, or has in a batch, wait for what becomes of them, or have ended.
use Rattle.std.proofs.Common.{◌≡◌, inl, inr, ◌∙◌, sym, ap, subst, ℕ, ◌+◌, ◌≤◌, arith, List, [], ◌∷◌, refl, map, Bool, true, false, cond, Option, Some, None, Ok, Err}
use Rattle.std.proofs.lemmas.Bool.{cases_Bool}
use Rattle.pulsar_laws.proofs.ActWords.{Act, Action, Call, Consumer, Does, Notice, OfTopic, Outcome, Procedure, Producer, Starts, Store, TakeBatch, Told, Who, is_same, turn_of}
use Rattle.pulsar_laws.proofs.PlanWords.{action_of, Batches, Batching, begins, Deed, Errand, Member, News, news_of, Plan, Stored, Storing, told, Ways}
use Rattle.pulsar_laws.proofs.RunWords.{Begins, begun_same, counted, Each, each_map, Entry, IsRun, Options, rules, start_of, stays, stays_some, Then, told_some, view, View}
use Rattle.pulsar_frame.specs.Batch.{EntryValues}
use Rattle.pulsar_searches.specs.declared.turn.Action.TheVariants as wish
use Rattle.pulsar_outgoing.specs.Batch.{member_of}
use Rattle.pulsar_outgoing.specs.Storage.{Item, SingleMessage, Flush as FlushItem}
use Rattle.pulsar_outgoing.specs.declared.multi_topic.Taker.{Taker}
use Rattle.pulsar_producer.specs.Topic as topic
use Rattle.pulsar_producer.proofs.Tickets.{BringsSo, UsersSo, users_map, users_so}
use Rattle.pulsar_outgoing.specs.declared.batch.Member.TheVariants as member
use Rattle.pulsar_producer.specs.declared.batching.Batching.TheVariants as batching
use Rattle.pulsar_producer.specs.declared.deed.Deed.TheVariants as deed
use Rattle.pulsar_outgoing.specs.declared.news.News.TheVariants as news
use Rattle.pulsar_calls.specs.declared.act.Outcome.TheVariants as outcome
use Rattle.pulsar_producer_table.specs.declared.table.Topic.{Topic}
use Rattle.pulsar_run.specs.Things.{along}
use Rattle.pulsar_run.proofs.Things.{holds_along}
use Rattle.pulsar_acts.specs.Things.{topics}
use Rattle.pulsar_laws.proofs.Lists.{each_along}
use Rattle.pulsar_laws.proofs.plans.Standing.{stood_begun}
use Rattle.pulsar_plans.proofs.Arcs.{Arc, BatchArc, Begun, batch_sends, batches_go, begins_batch, by_arcs, by_begun, taken_starts}
use Rattle.pulsar_laws.proofs.Cases.{none_some}
use Rattle.pulsar_laws.specs.ProducerLaws.{topic_acts}
use Rattle.pulsar_producer_table.specs.Producers.{next_batch_at, topic_after}
use Rattle.pulsar_laws.proofs.plans.Batchers.{batcher_does}
use Rattle.pulsar_laws.proofs.plans.Fitting.{stores_so}
use Rattle.pulsar_laws.proofs.plans.Granted.{GivenBy, does_fit, granted_by, grants_given, is_grant}
use Rattle.pulsar_laws.proofs.calls.Once.{ends_once_lem}
use Rattle.pulsar_laws.proofs.producers.Drawing.{born_joins, topics_keep}
use Rattle.pulsar_laws.proofs.producers.Topics.{CameFrom, acts_each}
use Rattle.pulsar_laws.proofs.plans.Servers.{server_does}
use Rattle.pulsar_laws.proofs.plans.Consuming.{is_modest}
use Rattle.pulsar_acts.specs.View.{topic_born}

-- WHERE ONE STANDS THAT STORES A MESSAGE: it ends with what becomes of it

abbrev pub ends_settled : Option Plan → Bool
ends_settled None = true
ends_settled (Some Stored) = true
ends_settled (Some (Storing share)) = true
ends_settled _ = false

settled_told : (plan : Plan) (u : Outcome) → ends_settled (Some plan) ≡ true → ends_settled (stays (told plan u)) ≡ true
settled_told (Storing None) (outcome.Granted news.Done) h = refl
settled_told (Storing (Some s)) (outcome.Granted news.Done) h = refl
settled_told (Storing share) u h = refl
settled_told Stored (outcome.Settled (Ok receipt)) h = refl
settled_told Stored (outcome.Settled (Err f)) h = refl
settled_told Stored (outcome.Granted news.Done) h = refl
settled_told Stored u h = refl
settled_told plan u h = absurd cc

pub settled_some : (row : Option Plan) (u : Outcome) → ends_settled row ≡ true → ends_settled (stays_some (told_some row u)) ≡ true
settled_some None u h = refl
settled_some (Some plan) u h = settled_told plan u h

pub record Keeps (o : Options) (log : List Entry) (t : ℕ) : Type 0 where
  pub began : 1 ≤ counted (start_of t) log
  pub waits : ends_settled ((view o log).stand (Call t)) ≡ true

pub keeps_more : (o : Options) (log : List Entry) (e : Entry) (t : ℕ) → IsRun o (e ∷ log) → Keeps o log t → Keeps o (e ∷ log) t
keeps_more o log (Begins e) t run k = record { began = k.began; waits = ap ends_settled (begun_same (λ v. v.stand (Call t)) e (view o log) refl) ∙ k.waits }
keeps_more o log (Then (Starts who p)) t run k =
    let was : 1 ≤ counted (start_of t) log = k.began in
    elim (cases_Bool (is_same (Call t) who)) [
      | inl e ↦
          (let once : counted (start_of t) log + start_of t (Starts who p) ≤ 1 = (ends_once_lem o (Then (Starts who p) ∷ log) t run).0 in
          let one : start_of t (Starts who p) ≡ 1 = ap (λ b. cond b 1 0) e in
          absurd (omega (arith, once, one, was)))
      | inr e ↦ record { began = omega (arith, was); waits = rw e k.waits }
    ]
keeps_more o log (Then (Told n)) t run k =
    let was : 1 ≤ counted (start_of t) log = k.began in
    elim (cases_Bool (is_same (Call t) n.who)) [
      | inl e ↦ record { began = omega (arith, was); waits = rw e (settled_some ((view o log).stand (Call t)) n.outcome k.waits) }
      | inr e ↦ record { began = omega (arith, was); waits = rw e k.waits }
    ]
keeps_more o log (Then a) t run k = let was : 1 ≤ counted (start_of t) log = k.began in record { began = omega (arith, was); waits = k.waits }

-- one that stores
pub store_keeps : (o : Options) (log : List Entry) (t n : ℕ) (entry : EntryValues) → IsRun o (Then (Does (Call t) (OfTopic n (Store entry))) ∷ log) →
    Keeps o log t
store_keeps o log t n entry run =
    let k = does_fit o log (Call t) (OfTopic n (Store entry)) refl run in
    let s = stores_so k.0 n entry k.1 in
    record { began = stood_begun o log t k.0 k.2; waits = ap ends_settled (k.2 ∙ ap Some s.1) }

-- WHAT IS STORED

pub no_store : (d : Deed) (n : ℕ) (entry : EntryValues) → OfTopic n (Store entry) ≡ action_of d → ⊥
no_store (deed.Does (wish.Get p)) n entry h = cc
no_store (deed.Does (wish.Ask l request)) n entry h = cc
no_store (deed.Does (wish.Wait delay)) n entry h = cc
no_store _ n entry h = cc

abbrev pub is_store : topic.Act → Bool
is_store (topic.Stores t entry) = true
is_store _ = false

abbrev pub NoStore : topic.Act → Type 0
NoStore act = is_store act ≡ false

abbrev pub stores_it : Act → Bool
stores_it (Does who (OfTopic n (Store entry))) = true
stores_it _ = false

pub none_stored : (v : View) (n : ℕ) (a : Act) → stores_it a ≡ false → Each NoStore (topic_acts v n a)
none_stored v n a h = acts_each NoStore v n a none
  where
    none : (act : topic.Act) → CameFrom n a act → NoStore act
    none (topic.Stores t entry) k = let e : true ≡ false = sym (ap stores_it k.1) ∙ h in absurd cc
    none act k = refl

-- who stores it is a call, of that ticket
stored_by : (o : Options) (log : List Entry) (ticket n : ℕ) (entry : EntryValues) (who : Who) → IsRun o (Then (Does who (OfTopic n (Store entry))) ∷ log) →
    ticket ≡ turn_of who → Keeps o log ticket
stored_by o log ticket n entry (Call t) run is = let same : ticket ≡ t = is in subst (Keeps o log) (sym same) (store_keeps o log t n entry run)
stored_by o log ticket n entry (Consumer k t) run is =
    let f : is_modest (OfTopic n (Store entry)) ≡ true = server_does o log k t (OfTopic n (Store entry)) run in absurd cc
stored_by o log ticket n entry (Producer k) run is =
    let d = batcher_does o log k (OfTopic n (Store entry)) run in absurd (no_store d.0 n entry d.1)

-- A TOPIC PRODUCER has no messages but those that were stored

abbrev pub OfItem : (ℕ → Type 0) → Item → Type 0
OfItem P (SingleMessage t entry) = P t
OfItem P (FlushItem t) = Unit {0}

item_map : (P Q : ℕ → Type 0) → ((t : ℕ) → P t → Q t) → (x : Item) → OfItem P x → OfItem Q x
item_map P Q f (SingleMessage t entry) p = f t p
item_map P Q f (FlushItem t) p = tt

abbrev Anyone : Taker → Type 0
Anyone t = Unit {0}

abbrev KeptIn : (ℕ → Type 0) → topic.Seen → Type 0
KeptIn P v = UsersSo Anyone (OfItem P) v

kept_more : (o : Options) (log : List Entry) (e : Entry) (v : topic.Seen) → IsRun o (e ∷ log) → KeptIn (Keeps o log) v → KeptIn (Keeps o (e ∷ log)) v
kept_more o log e v run k =
    users_map Anyone Anyone (OfItem (Keeps o log)) (OfItem (Keeps o (e ∷ log))) v (λ t p. p)
    (item_map (Keeps o log) (Keeps o (e ∷ log)) (λ t p. keeps_more o log e t run p)) k

acts_keep : (o : Options) (log : List Entry) (n : ℕ) (a : Act) → IsRun o (Then a ∷ log) →
    Each (BringsSo Anyone (OfItem (Keeps o (Then a ∷ log)))) (topic_acts (view o log) n a)
acts_keep o log n a run = acts_each (BringsSo Anyone (OfItem (Keeps o (Then a ∷ log)))) (view o log) n a by
  where
    by : (act : topic.Act) → CameFrom n a act → BringsSo Anyone (OfItem (Keeps o (Then a ∷ log))) act
    by (topic.Stores t entry) k =
        keeps_more o log (Then a) t run (stored_by o log t n entry k.0 (subst (λ (x : Act). IsRun o (Then x ∷ log)) k.1 run) k.2)
    by act k = tt

topic_keeps : (o : Options) (log : List Entry) (n : ℕ) (row : Topic) → IsRun o log → (view o log).producers.topics n ≡ Some row → KeptIn (Keeps o log) row.seen
topic_keeps o log n row run h =
    holds_along rules topics topics_keep o (λ m t past. KeptIn (Keeps o past) t.seen) born
    (λ x past m t r is k. kept_more o past (Begins x) t.seen r k) done log n row run h
  where
    born : (a : Act) (past : List Entry) (m : ℕ) (t : Topic) → IsRun o (Then a ∷ past) → topic_born (view o past) m a ≡ Some t →
        KeptIn (Keeps o (Then a ∷ past)) t.seen
    born a past m t r is = subst (λ (x : Topic). KeptIn (Keeps o (Then a ∷ past)) x.seen) (born_joins (view o past) a m t is).is_new.is_it (tt, tt, tt)

    done : (a : Act) (past : List Entry) (m : ℕ) (t : Topic) → IsRun o (Then a ∷ past) → (view o past).producers.topics m ≡ Some t →
        KeptIn (Keeps o past) t.seen → KeptIn (Keeps o (Then a ∷ past)) (along topic_after (topic_acts (view o past) m a) t).seen
    done a past m t r is k =
        let P : Item → Type 0 = OfItem (Keeps o (Then a ∷ past)) in
        each_along topic_after (BringsSo Anyone P) (λ x. UsersSo Anyone P x.seen) (λ act x. users_so Anyone P act x.seen)
        (topic_acts (view o past) m a) t (acts_keep o past m a r) (kept_more o past (Then a) t.seen r k)

-- the batch that is taken next
batch_kept : (P : ℕ → Type 0) (row : Option Topic) (items : List Item) → ((t : Topic) → row ≡ Some t → KeptIn P t.seen) → next_batch_at row ≡ Some items →
    Each (OfItem P) items
batch_kept P None items k h = absurd (none_some h)
batch_kept P (Some t) items k h = first t.seen.cut (k t refl).2 h
  where
    first : (c : List (List Item)) → Each (Each (OfItem P)) c → topic.next_of c ≡ Some items → Each (OfItem P) items
    first [] p e = absurd (none_some e)
    first (b ∷ bs) p e = let same : b ≡ items = cc in subst (Each (OfItem P)) same p.0

-- THE PLAN OF BATCHES: those of its batch

abbrev pub OfMember : (ℕ → Type 0) → Member → Type 0
OfMember P (member.Message t) = P t
OfMember P (member.Flush t) = Unit {0}

abbrev pub StateSo : (ℕ → Type 0) → Batches → Type 0
StateSo P (batching.Sending ms count s) = Each (OfMember P) ms
StateSo P _ = Unit {0}

abbrev NewsSo : (ℕ → Type 0) → News → Type 0
NewsSo P (news.HasBatch (Some items)) = Each (OfItem P) items
NewsSo P _ = Unit {0}

state_map : (P Q : ℕ → Type 0) (b : Batches) → ((t : ℕ) → P t → Q t) → StateSo P b → StateSo Q b
state_map P Q (batching.Sending ms count s) f k = each_map (OfMember P) (OfMember Q) ms of_member k
  where
    of_member : (m : Member) → OfMember P m → OfMember Q m
    of_member (member.Message t) p = f t p
    of_member (member.Flush t) p = tt
state_map P Q batching.Resting f k = tt
state_map P Q batching.Taking f k = tt
state_map P Q batching.Settling f k = tt

items_map : (P Q : ℕ → Type 0) (items : List Item) → ((t : ℕ) → P t → Q t) → Each (OfItem P) items → Each (OfItem Q) items
items_map P Q items f k = each_map (OfItem P) (OfItem Q) items (item_map P Q f) k

module _ (P : ℕ → Type 0) where
  members_so : (items : List Item) → Each (OfItem P) items → Each (OfMember P) (map member_of items)
  members_so [] k = tt
  members_so (SingleMessage t entry ∷ items) k = (k.0, members_so items k.1)
  members_so (FlushItem t ∷ items) k = (tt, members_so items k.1)

  batch_so : {w : Ways} {e : Errand} {b q : Batches} {y : News} {d : Deed} → BatchArc w e b y q d → StateSo P b → NewsSo P y → StateSo P q
  batch_so (taken_starts {items}) k h = members_so items h
  batch_so (batch_sends e) k h = k
  batch_so _ k h = tt

-- what a row says of a plan of batches
abbrev pub RowSo : (ℕ → Type 0) → Option Plan → Type 0
RowSo P (Some (Batching w e b)) = StateSo P b
RowSo P _ = Unit {0}

module _ (P : ℕ → Type 0) where
  arc_row : {p q : Plan} {u : Outcome} {a : Action} → Arc p u q a → RowSo P (Some p) → NewsSo P (news_of u) → RowSo P (Some q)
  arc_row (batches_go d e) k h = batch_so P e k h
  arc_row _ k h = tt

  begun_row : {p : Procedure} {q : Plan} {a : Action} → Begun p q a → RowSo P (Some q)
  begun_row begins_batch = tt
  begun_row _ = tt

  begins_row : (p : Procedure) → RowSo P (stays (begins p))
  begins_row p = by_begun (λ t. RowSo P (stays t)) p (λ q a e. begun_row e) (λ v e. tt)

  some_row : (row : Option Plan) (u : Outcome) → RowSo P row → NewsSo P (news_of u) → RowSo P (stays_some (told_some row u))
  some_row None u k h = tt
  some_row (Some plan) u k h = by_arcs (λ t. RowSo P (stays t)) plan u (λ q a e. arc_row e k h) (λ v e. tt)

row_map : (P Q : ℕ → Type 0) (row : Option Plan) → ((t : ℕ) → P t → Q t) → RowSo P row → RowSo Q row
row_map P Q None f k = tt
row_map P Q (Some (Batching w e b)) f k = state_map P Q b f k
row_map P Q (Some plan) f k = tt

-- ALONG A LOG

batch_by : (v : View) (action : Action) (items : List Item) → GivenBy v action (news.HasBatch (Some items)) →
    (m : ℕ) × (next_batch_at (v.producers.topics m) ≡ Some items)
batch_by v (OfTopic m TakeBatch) items h = (m, h)
batch_by v action items h = absurd h

module _ (o : Options) (log : List Entry) (n : Notice) (run : IsRun o (Then (Told n) ∷ log)) where
  batch_news : (items : List Item) → n.outcome ≡ outcome.Granted (news.HasBatch (Some items)) → Each (OfItem (Keeps o log)) items
  batch_news items e =
      let k = granted_by o log n (ap is_grant e) run in
      let b = batch_by (view o k.older) k.action items (grants_given o log n k (news.HasBatch (Some items)) e) in
      let r : IsRun o (Then (Does n.who k.action) ∷ k.older) = subst (IsRun o) k.is_there run.0 in
      let was = batch_kept (Keeps o k.older) ((view o k.older).producers.topics b.0) items (λ t h. topic_keeps o k.older b.0 t r.0 h) b.1 in
      subst (λ l. Each (OfItem (Keeps o l)) items) (sym k.is_there)
      (items_map (Keeps o k.older) (Keeps o (Then (Does n.who k.action) ∷ k.older)) items
      (λ t p. keeps_more o k.older (Then (Does n.who k.action)) t r p) was)

  news_so : (u : Outcome) → n.outcome ≡ u → NewsSo (Keeps o log) (news_of u)
  news_so (outcome.Granted (news.HasBatch (Some items))) e = batch_news items e
  news_so (outcome.Granted (news.HasBatch None)) e = tt
  news_so (outcome.Granted _) e = tt
  news_so _ e = tt

pub batch_keeps : (o : Options) (log : List Entry) (w : Who) → IsRun o log → RowSo (Keeps o log) ((view o log).stand w)
batch_keeps o [] w run = tt
batch_keeps o (Begins e ∷ log) w run =
    let s = begun_same (λ v. v.stand w) e (view o log) refl in
    subst (RowSo (Keeps o (Begins e ∷ log))) (sym s)
    (row_map (Keeps o log) (Keeps o (Begins e ∷ log)) ((view o log).stand w) (λ t k. keeps_more o log (Begins e) t run k) (batch_keeps o log w run.0))
batch_keeps o (Then a ∷ log) w run =
    row_map (Keeps o log) (Keeps o (Then a ∷ log)) ((view o (Then a ∷ log)).stand w) (λ t k. keeps_more o log (Then a) t run k)
    (next a run (batch_keeps o log w run.0))
  where
    next : (a : Act) → IsRun o (Then a ∷ log) → RowSo (Keeps o log) ((view o log).stand w) → RowSo (Keeps o log) ((view o (Then a ∷ log)).stand w)
    next (Starts who p) r k = elim (is_same w who) as (λ b. RowSo (Keeps o log) (cond b (stays (begins p)) ((view o log).stand w))) [
      | true ↦ begins_row (Keeps o log) p
      | false ↦ k
    ]
    next (Told n) r k =
        elim (is_same w n.who) as (λ b. RowSo (Keeps o log) (cond b (stays_some (told_some ((view o log).stand w) n.outcome)) ((view o log).stand w))) [
          | true ↦ some_row (Keeps o log) ((view o log).stand w) n.outcome k (news_so o log n r n.outcome refl)
          | false ↦ k
        ]
    next _ r k = k
