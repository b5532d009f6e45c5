-- Each number of a topic producer was drawn by the call that built it, and by no other; and that call has ended.
use Rattle.std.proofs.Common.{◌≡◌, ◌⊎◌, inl, inr, ◌∙◌, sym, ap, subst, ℕ, ◌+◌, ◌-◌, ◌^◌, ◌<◌, ◌≤◌, ◌==◌, arith, List, [], ◌∷◌, ◌++◌, refl, map, Bool, true, false, ◌&&◌, nat_lt, cond, Option, Some, None}
use Rattle.std.proofs.lemmas.Bool.{cases_Bool, eqb-true}
use Rattle.std.proofs.lemmas.Bool.Decides.{nat_tests}
use Rattle.std.specs.Option.{is_some}
use Rattle.pulsar_laws.proofs.ActWords.{Act, Action, Answers, Asked, Call, Calls, Comes, Does, Heard, Makes, Nothing, Notice, Number, Outcome, Procedure, Starts, Told, Verdict, Who, is_same, lacks_tickets, shares}
use Rattle.pulsar_laws.proofs.PlanWords.{Asking, Awaiting, begins, Built, fails, Gives, Plan, PlanTransition, Producing, Stays, told}
use Rattle.pulsar_laws.proofs.RunWords.{Answered, Begins, begun_same, counted, each_map, Entry, In, IsRun, may_call, notice, Options, producers_listed, started, stays, stays_some, Then, told_some, view, View, rules}
use Rattle.pulsar_laws.proofs.LinkWords.{Exhausted}
use Rattle.pulsar_messages.specs.Content.{ProducerMessageValues}
use Rattle.pulsar_messages.specs.Claims.{is_spent}
use Rattle.pulsar_exchange.specs.Request.{named_producer}
use Rattle.pulsar_producer.specs.Producer as producer
use Rattle.pulsar_outgoing.specs.Storage.{limits_of}
use Rattle.pulsar_producer.specs.Topic.{Act as Deed, fresh}
use Rattle.pulsar_outgoing.specs.declared.storage.Limits.{Limits}
use Rattle.pulsar_outgoing.specs.declared.news.News.TheVariants as news
use Rattle.pulsar_calls.specs.declared.act.Makes.TheVariants.{Producer}
use Rattle.pulsar_acts.specs.View.{producers_left}
use Rattle.pulsar_calls.specs.declared.act.Outcome.TheVariants as outcome
use Rattle.pulsar_calls.specs.declared.act.Who.TheVariants as one
use Rattle.pulsar_calls.specs.declared.content.BuiltProducer.{BuiltProducer}
use Rattle.pulsar_producer_table.specs.declared.table.Topic.{Topic}
use Rattle.pulsar_calls.specs.Content as content
pub use Rattle.pulsar_laws.proofs.plans.Standing.{began_on}
use Rattle.pulsar_laws.specs.Laws.{end_of}
use Rattle.pulsar_producer_table.specs.Producers.{Producers, all_routed, called_on, free_from, made_of, names_in, next_free, number_drawn, numbered, opened_on, routed, sent_on, topic_after, why_not, with_built, topic_in, last_of, fresh_topic}
use Rattle.pulsar_acts.specs.View as seen
use Rattle.pulsar_calls.specs.Who.{rank}
use Rattle.pulsar_laws.proofs.plans.Batchers.{batcher_stands}
use Rattle.pulsar_laws.proofs.plans.Follow.{same_is}
use Rattle.pulsar_laws.proofs.plans.Granted.{GivenBy, granted_by, grants_given, in_each, is_grant}
use Rattle.pulsar_laws.proofs.plans.Led.{deeds_follow_lem}
use Rattle.pulsar_laws.proofs.producers.Numbering.{IsSound, MakesSound, TurnSound, begins_sound, drawn_in, number_of, told_sound}
use Rattle.pulsar_laws.proofs.calls.Once.{ends_once_lem}
use Rattle.pulsar_laws.proofs.plans.Owned.{batcher_told, batches_begun, starts_own}
use Rattle.pulsar_laws.proofs.calls.Ticketed.{Began}
use Rattle.pulsar_laws.proofs.calls.Begun.{has_begun}
use Rattle.pulsar_laws.proofs.calls.Same.{same_self}
use Rattle.pulsar_laws.proofs.plans.Servers.{server_gives, server_stands, serve_goes_on}
use Rattle.pulsar_run.specs.Things.{along, Keeps}
use Rattle.pulsar_run.proofs.Things.{came, WasIn, IsNewIn}
use Rattle.pulsar_acts.specs.View.{topic_born, topic_of, building_of}
use Rattle.pulsar_laws.specs.ProducerLaws.{topic_acts}
use Rattle.pulsar_acts.specs.Things.{topics}

-- ALL THAT IS SO ALONG A LOG

abbrev pub Every : (List Entry → Type 0) → List Entry → Type 0
Every P [] = P []
Every P (e ∷ log) = P (e ∷ log) × Every P log

pub here : (P : List Entry → Type 0) (log : List Entry) → Every P log → P log
here P [] k = k
here P (e ∷ log) k = k.0

pub every_run : (o : Options) (P : List Entry → Type 0) → ((log : List Entry) → IsRun o log → P log) → (log : List Entry) → IsRun o log → Every P log
every_run o P f [] run = f [] run
every_run o P f (Begins e ∷ log) run = (f (Begins e ∷ log) run, every_run o P f log run.0)
every_run o P f (Then a ∷ log) run = (f (Then a ∷ log) run, every_run o P f log run.0)

-- ROWS

-- what comes of a call leaves what is drawn next
routed_kept : (t : ℕ) (ms : List ProducerMessageValues) (ps : Producers) → (all_routed t ms ps).next ≡ ps.next
routed_kept t [] ps = refl
routed_kept t (m ∷ ms) ps = routed_kept t ms (routed t m ps)

either_kept : (b : Bool) (n : ℕ) (x y : Producers) → x.next ≡ n → y.next ≡ n → (cond b x y).next ≡ n
either_kept true n x y p q = p
either_kept false n x y p q = q

sent_kept : (t : ℕ) (ms : List ProducerMessageValues) (ps : Producers) → (sent_on t ms ps).next ≡ ps.next
sent_kept t ms ps = either_kept (is_some (why_not ps t)) ps.next ps (all_routed t ms ps) refl (routed_kept t ms ps)

opened_kept : (asked : Asked) (ps : Producers) → (opened_on asked ps).next ≡ ps.next
opened_kept (content.Send t m) ps = sent_kept t (m ∷ []) ps
opened_kept (content.SendAll t ms) ps = sent_kept t ms ps
opened_kept (content.Raw l words) ps = elim (named_producer words) as (λ r. (names_in r ps).next ≡ ps.next) [ None ↦ refl | Some n ↦ refl ]
opened_kept _ ps = refl

called_kept : (v : View) (asked : Asked) (advice : List (Option ℕ)) → (seen.after (Comes (Calls asked advice)) v).producers.next ≡ v.producers.next
called_kept v asked advice =
    either_kept (lacks_tickets v.calls.drawn (shares asked)) v.producers.next v.producers (called_on (may_call v.calls) asked v.producers) refl
    (either_kept (may_call v.calls) v.producers.next (opened_on asked v.producers) v.producers (opened_kept asked v.producers) refl)

-- several topic producers join: one that is there is new, or was there
pub record IsNew (owner first_number : ℕ) (limits : Limits) (n : ℕ) (bs : List Built) (t : Topic) : Type 0 where
  pub built : Built
  pub is_in : In built bs
  pub listed : In n (map number_of bs)
  pub number : built.number ≡ n
  pub is_it : record { owner = owner; seen = fresh (record { built = built; first_number = first_number; limits = limits }) } ≡ t

new_row : (owner f : ℕ) (limits : Limits) (n : ℕ) (bs : List Built) (t : Topic) → topic_in owner f limits bs n ≡ Some t → IsNew owner f limits n bs t
new_row owner f limits n [] t h = absurd cc
new_row owner f limits n (b ∷ bs) t h = by (topic_in owner f limits bs n) refl (λ e. new_row owner f limits n bs t e) h
  where
    by : (r : Option Topic) → topic_in owner f limits bs n ≡ r → (topic_in owner f limits bs n ≡ Some t → IsNew owner f limits n bs t) →
        last_of r (cond (n == b.number) (Some (fresh_topic owner f limits b)) None) ≡ Some t →
        IsNew owner f limits n (b ∷ bs) t
    by (Some u) e rest k =
        let i = rest (e ∙ k) in record { built = i.built; is_in = inr i.is_in; listed = inr i.listed; number = i.number; is_it = i.is_it }
    by None e rest k = elim (cases_Bool (n == b.number)) [
      | inl q ↦
          (let is : Some (fresh_topic owner f limits b) ≡ Some t = rw q at k in
          record { built = b; is_in = inl refl; listed = inl (eqb-true n b.number q); number = sym (eqb-true n b.number q); is_it = cc })
      | inr q ↦ (let is : None ≡ Some t = rw q at k in absurd cc)
    ]

next_built : (t : ℕ) (r : Option producer.Seen) (ps : Producers) → (with_built t r ps).next ≡ ps.next
next_built t None ps = refl
next_built t (Some p) ps = refl

-- a row that was there, of the same owner
pub record WasThere (ps : Producers) (n : ℕ) (t : Topic) : Type 0 where
  pub row : Topic
  pub was : ps.topics n ≡ Some row
  pub owner : row.owner ≡ t.owner

same_owner : (es : List Deed) (t : Topic) → (along topic_after es t).owner ≡ t.owner
same_owner [] t = refl
same_owner (e ∷ es) t = same_owner es t

-- it joins with a verdict
pub record Joins (v : View) (a : Act) (n : ℕ) (t : Topic) : Type 0 where
  pub who : Who
  pub verdict : Verdict
  pub building : BuiltProducer
  pub is_act : a ≡ Answers who verdict
  pub makes : verdict.makes ≡ Producer building
  pub is_new : IsNew (rank who).1 v.chosen.first_number (limits_of building.settings) n building.parts t

building_made : (m : Makes) (b : BuiltProducer) → building_of m ≡ Some b → m ≡ Producer b
building_made (Producer x) b h = let e : x ≡ b = cc in ap (λ y. Producer y) e
building_made Nothing b h = absurd cc
building_made _ b h = absurd cc

pub born_joins : (v : View) (a : Act) (n : ℕ) (t : Topic) → topic_born v n a ≡ Some t → Joins v a n t
born_joins v (Answers who verdict) n t h = by (building_of verdict.makes) refl h
  where
    by : (r : Option BuiltProducer) → building_of verdict.makes ≡ r → topic_of r who v.chosen n ≡ Some t → Joins v (Answers who verdict) n t
    by (Some b) e k = record {
      who = who;
      verdict = verdict;
      building = b;
      is_act = refl;
      makes = building_made verdict.makes b e;
      is_new = new_row (rank who).1 v.chosen.first_number (limits_of b.settings) n b.parts t k;
    }
    by None e k = absurd cc
born_joins v a n t h = absurd cc

pub topics_keep : Keeps rules topics
topics_keep = record {
  none = λ o n. refl;
  begins = λ e v n. begun_same (λ w. w.producers.topics n) e v refl;
  then_so = λ a v n. refl;
}

pub row_from : (v : View) (a : Act) (n : ℕ) (t : Topic) → (seen.after a v).producers.topics n ≡ Some t → WasThere v.producers n t ⊎ Joins v a n t
row_from v a n t h = elim (came topic_after (topic_born v n a) false (topic_acts v n a) (v.producers.topics n) t h) [
  | WasIn w ↦
      inl (record { row = w.before; was = w.was; owner = sym (ap (λ x. x.owner) w.is_it ∙ same_owner (topic_acts v n a) w.before) })
  | IsNewIn b ↦ inr (born_joins v a n t b)
]

-- NUMBERS

abbrev drew_by : Option ℕ → Who → ℕ → Option Who → Option Who
drew_by None who n row = row
drew_by (Some m) who n row = cond (n == m) (Some who) row

-- who drew a number
abbrev pub drew : Options → ℕ → List Entry → Option Who
drew o n [] = None
drew o n (Then (Does who Number) ∷ log) = drew_by (number_drawn (view o log).producers) who n (drew o n log)
drew o n (_ ∷ log) = drew o n log

free_more : (ks : List ℕ) (n : ℕ) → n ≤ free_from ks n
free_more [] n = omega arith
free_more (k ∷ ks) n = elim ((k == n) && nat_lt n (2 ^ 64 - 1)) as (λ b. n ≤ cond b (free_from ks (n + 1)) (free_from ks n)) [
  | true ↦ (let e : n + 1 ≤ free_from ks (n + 1) = free_more ks (n + 1) in omega (arith, e))
  | false ↦ free_more ks n
]

made_next : (v : View) (who : Who) (m : Makes) → (producers_listed v.chosen who m v.producers).next ≡ v.producers.next
made_next v who (Producer b) =
    next_built (rank who).1 (made_of v.chosen.seed (rank who).1 b)
    (record v.producers { numbers = v.producers.numbers ++ map (λ q. q.number) b.parts })
made_next v who _ = refl

left_next : (who : Who) (ps : Producers) → (producers_left who ps).next ≡ ps.next
left_next (one.Call t) ps = refl
left_next (one.Consumer n t) ps = refl
left_next (one.Producer n) ps = refl

next_more : (ps : Producers) → ps.next ≤ (numbered ps).next
next_more ps =
    let e : ps.next ≤ next_free ps = free_more ps.named ps.next in
    elim (is_spent (next_free ps)) as (λ b. ps.next ≤ cond b (next_free ps) (next_free ps + 1)) [ true ↦ e | false ↦ omega (arith, e) ]

pub next_after : (v : View) (a : Act) → v.producers.next ≤ (seen.after a v).producers.next
next_after v (Comes (Calls asked advice)) = let e = called_kept v asked advice in rw e (omega arith)
next_after v (Does who Number) = next_more v.producers
next_after v (Answers who verdict) =
    let e = left_next who (producers_listed v.chosen who verdict.makes v.producers) ∙ made_next v who verdict.makes in rw e (omega arith)
next_after v _ = omega arith

-- ALONG A LOG

pub record Drawn (o : Options) (log : List Entry) : Type 0 where
  pub below : (n : ℕ) (w : Who) → drew o n log ≡ Some w → n < (view o log).producers.next
  pub plans : (w : Who) (p : Plan) → (view o log).stand w ≡ Some p → IsSound (λ n. drew o n log ≡ Some w) p
  pub topics : (n : ℕ) (row : Topic) → (view o log).producers.topics n ≡ Some row →
      (drew o n log ≡ Some (Call row.owner)) × (1 ≤ counted (end_of row.owner) log)

sound_map : (Q R : ℕ → Type 0) (p : Plan) → ((n : ℕ) → Q n → R n) → IsSound Q p → IsSound R p
sound_map Q R (Producing w o b) f k = each_map Q R (drawn_in b) f k
sound_map Q R (Asking w) f k = k
sound_map Q R (Awaiting w) f k = k
sound_map Q R _ f k = tt

stays_sound : (Q : ℕ → Type 0) (t : PlanTransition) (p : Plan) → TurnSound Q t → stays t ≡ Some p → IsSound Q p
stays_sound Q (Stays q action) p k h = subst (IsSound Q) (let e : q ≡ p = cc in e) k
stays_sound Q (Gives verdict) p k h = absurd cc

-- where one is told a number, it has just drawn it
number_by : (v : View) (action : Action) (m : ℕ) → GivenBy v action (news.Numbered m) → (action ≡ Number) × (number_drawn v.producers ≡ Some m)
number_by v Number m h = (refl, h)
number_by v _ m h = absurd h

drew_self : (o : Options) (older : List Entry) (who : Who) (m : ℕ) → number_drawn (view o older).producers ≡ Some m →
    drew o m (Then (Does who Number) ∷ older) ≡ Some who
drew_self o older who m h =
    ap (λ r. drew_by r who m (drew o m older)) h ∙ (let e : (m == m) ≡ true = grind (arith, nat_tests) in ap (λ b. cond b (Some who) (drew o m older)) e)

pub told_number : (o : Options) (log : List Entry) (n : Notice) (m : ℕ) → IsRun o (Then (Told n) ∷ log) → n.outcome ≡ outcome.Granted (news.Numbered m) →
    drew o m log ≡ Some n.who
told_number o log n m run e =
    let k = granted_by o log n (ap is_grant e) run in
    let g : GivenBy (view o k.older) k.action (news.Numbered m) = grants_given o log n k (news.Numbered m) e in
    let a = number_by (view o k.older) k.action m g in
    subst (λ l. drew o m l ≡ Some n.who) (sym k.is_there)
    (subst (λ (x : Action). drew o m (Then (Does n.who x) ∷ k.older) ≡ Some n.who) (sym a.0) (drew_self o k.older n.who m a.1))

module _ (o : Options) (log : List Entry) (k : Drawn o log) where
  abbrev Owns : Who → ℕ → Type 0
  Owns w n = drew o n log ≡ Some w

  -- what one is told
  pub told_drawn : (n : Notice) → IsRun o (Then (Told n) ∷ log) → (p : Plan) → (view o log).stand n.who ≡ Some p → TurnSound (Owns n.who) (told p n.outcome)
  told_drawn n run p h = told_sound (Owns n.who) p n.outcome (k.plans n.who p h) (λ m e. told_number o log n m run e)

  -- a number that was drawn stays so
  drew_more : (a : Act) (n : ℕ) (w : Who) → Owns w n → drew o n (Then a ∷ log) ≡ Some w
  drew_more (Does who Number) n w h = more (number_drawn (view o log).producers) refl
    where
      ps : Producers
      ps = (view o log).producers

      above : (m : ℕ) → number_drawn ps ≡ Some m → ps.next ≤ m
      above m e = elim (cases_Bool (is_spent (next_free ps))) [
        | inl s ↦ (let f : None ≡ Some m = rw s at e in absurd cc)
        | inr s ↦
            (let f : Some (next_free ps) ≡ Some m = rw s at e in
            let same : next_free ps ≡ m = cc in
            let lt : ps.next ≤ next_free ps = free_more ps.named ps.next in
            omega (arith, lt, same))
      ]

      more : (r : Option ℕ) → number_drawn ps ≡ r → drew_by r who n (drew o n log) ≡ Some w
      more None e = h
      more (Some m) e =
          let a : ps.next ≤ m = above m e in
          let b : n < ps.next = k.below n w h in
          let d : (n == m) ≡ false = grind (arith, nat_tests) in
          ap (λ x. cond x (Some who) (drew o n log)) d ∙ h
  drew_more (Does who _) n w h = h
  drew_more _ n w h = h

  below_on : (a : Act) (n : ℕ) (w : Who) → drew o n (Then a ∷ log) ≡ Some w → n < (view o (Then a ∷ log)).producers.next
  below_on (Does who Number) n w h = on (number_drawn (view o log).producers) refl h
    where
      ps : Producers
      ps = (view o log).producers

      old : drew o n log ≡ Some w → n < (numbered ps).next
      old e = (let b : n < ps.next = k.below n w e in let m : ps.next ≤ (numbered ps).next = next_more ps in omega (arith, b, m))

      new : (m : ℕ) → number_drawn ps ≡ Some m → m < (numbered ps).next
      new m e = elim (cases_Bool (is_spent (next_free ps))) [
        | inl s ↦ (let f : None ≡ Some m = rw s at e in absurd cc)
        | inr s ↦ (let f : Some (next_free ps) ≡ Some m = rw s at e in let same : next_free ps ≡ m = cc in rw s (omega (arith, same)))
      ]

      on : (r : Option ℕ) → number_drawn ps ≡ r → drew_by r who n (drew o n log) ≡ Some w → n < (numbered ps).next
      on None e d = old d
      on (Some m) e d = elim (cases_Bool (n == m)) [
        | inl q ↦ (let x : m < (numbered ps).next = new m e in let y : n ≡ m = eqb-true n m q in omega (arith, x, y))
        | inr q ↦ old (rw q at d)
      ]
  below_on (Does who a) n w h = (let b : n < (view o log).producers.next = k.below n w h in let m = next_after (view o log) (Does who a) in omega (arith, b, m))
  below_on a n w h = (let b : n < (view o log).producers.next = k.below n w h in let m = next_after (view o log) a in omega (arith, b, m))

  -- the plans
  told_stays : (n : Notice) → IsRun o (Then (Told n) ∷ log) → (w : Who) → n.who ≡ w → (row : Option Plan) → (view o log).stand w ≡ row → (p : Plan) →
      stays_some (told_some row n.outcome) ≡ Some p → IsSound (Owns w) p
  told_stays n run w same None e p h = absurd cc
  told_stays n run w same (Some q) e p h =
      stays_sound (Owns w) (told q n.outcome) p
      (subst (λ x. TurnSound (Owns x) (told q n.outcome)) same (told_drawn n run q (ap (view o log).stand same ∙ e))) h

  plans_on : (a : Act) → IsRun o (Then a ∷ log) → (w : Who) (p : Plan) → (view o (Then a ∷ log)).stand w ≡ Some p → IsSound (Owns w) p
  plans_on (Starts who q) run w p h = elim (cases_Bool (is_same w who)) [
    | inl e ↦ stays_sound (Owns w) (begins q) p (begins_sound (Owns w) q) (rw e at h)
    | inr e ↦ k.plans w p (rw e at h)
  ]
  plans_on (Told n) run w p h = elim (cases_Bool (is_same w n.who)) [
    | inl e ↦ told_stays n run w (sym (same_is w n.who e)) ((view o log).stand w) refl p (rw e at h)
    | inr e ↦ k.plans w p (rw e at h)
  ]
  plans_on a run w p h = k.plans w p h

-- one ends with this verdict: it was told, or began with, what leads to it
pub record IsEndedSo (o : Options) (log : List Entry) (w : Who) (verdict : Verdict) : Type 0 where
  pub outcome : Outcome
  pub before : Plan
  pub older : List Entry
  pub is_there : log ≡ Then (Told (notice w outcome)) ∷ older
  pub stood : (view o older).stand w ≡ Some before
  pub leads : told before outcome ≡ Gives verdict

pub record IsBegunSo (log : List Entry) (w : Who) (verdict : Verdict) : Type 0 where
  pub procedure : Procedure
  pub older : List Entry
  pub is_there : log ≡ Then (Starts w procedure) ∷ older
  pub leads : begins procedure ≡ Gives verdict

pub answers_from : (o : Options) (log : List Entry) (w : Who) (verdict : Verdict) → IsRun o (Then (Answers w verdict) ∷ log) →
    IsEndedSo o log w verdict ⊎ (IsBegunSo log w verdict ⊎ (verdict ≡ fails Exhausted))
answers_from o log w verdict run =
    let k = deeds_follow_lem o log w (Answered verdict) run in
    elim k.3 [
      | inl s ↦ inr (inl (record { procedure = s.0; older = k.1; is_there = k.2 ∙ ap (λ e. e ∷ k.1) s.1; leads = s.2 }))
      | inr m ↦ elim m [
        | inl t ↦ inl (record { outcome = t.0; before = t.1; older = k.1; is_there = k.2 ∙ ap (λ e. e ∷ k.1) t.2; stood = t.3; leads = t.4 })
        | inr late ↦ inr (inr (let f : Answered verdict ≡ Answered (fails Exhausted) = late.5 in cc))
      ]
    ]

-- what it joins was drawn by it, and by no other
joins_own : (o : Options) (log : List Entry) → Every (Drawn o) log → (w : Who) (verdict : Verdict) → IsRun o (Then (Answers w verdict) ∷ log) →
    MakesSound (λ n. drew o n log ≡ Some w) verdict.makes
joins_own o log k w verdict run = elim (answers_from o log w verdict run) [
  | inl t ↦
      (let e : Every (Drawn o) (Then (Told (notice w t.outcome)) ∷ t.older) = subst (Every (Drawn o)) t.is_there k in
      let r : IsRun o (Then (Told (notice w t.outcome)) ∷ t.older) = subst (IsRun o) t.is_there run.0 in
      let s : TurnSound (λ n. drew o n t.older ≡ Some w) (told t.before t.outcome) =
      told_drawn o t.older (here (Drawn o) t.older e.1) (notice w t.outcome) r t.before t.stood in
      subst (λ l. MakesSound (λ n. drew o n l ≡ Some w) verdict.makes) (sym t.is_there)
      (subst (TurnSound (λ n. drew o n t.older ≡ Some w)) t.leads s))
  | inr m ↦ elim m [
    | inl b ↦
        subst (TurnSound (λ n. drew o n log ≡ Some w)) b.leads (begins_sound (λ n. drew o n log ≡ Some w) b.procedure)
    | inr e ↦ subst (λ x. MakesSound (λ n. drew o n log ≡ Some w) x.makes) (sym e) tt
  ]
]

owned_in : (Q : ℕ → Type 0) (n : ℕ) (m : Makes) (b : BuiltProducer) → m ≡ Producer b → MakesSound Q m → In n (map number_of b.parts) → Q n
owned_in Q n m b e k i = let s : MakesSound Q (Producer b) = subst (MakesSound Q) e k in in_each Q n (map number_of b.parts) s i

self_same : (t : ℕ) → is_same (Call t) (Call t) ≡ true
self_same t = same_self (Call t)

-- a topic producer makes no producer
no_producer : (o : Options) (log : List Entry) (m : ℕ) (verdict : Verdict) (b : BuiltProducer) → verdict.makes ≡ Producer b →
    IsRun o (Then (Answers (one.Producer m) verdict) ∷ log) → ⊥
no_producer o log m verdict b makes run = elim (answers_from o log (one.Producer m) verdict run) [
  | inl t ↦
      (let r : IsRun o (Then (Told (notice (one.Producer m) t.outcome)) ∷ t.older) = subst (IsRun o) t.is_there run.0 in
      batcher_told t.before t.outcome verdict (batcher_stands o t.older m t.before r.0 t.stood) t.leads)
  | inr x ↦ elim x [
    | inl k ↦
        (let r : IsRun o (Then (Starts (one.Producer m) k.procedure) ∷ k.older) = subst (IsRun o) k.is_there run.0 in
        batches_begun m k.procedure verdict (starts_own o k.older m k.procedure r) k.leads)
    | inr e ↦ (let f : (fails Exhausted).makes ≡ Producer b = sym (ap (λ y. y.makes) e) ∙ makes in absurd cc)
  ]
]

-- and no consumer does
no_consumer : (o : Options) (log : List Entry) (n t : ℕ) (verdict : Verdict) (b : BuiltProducer) → verdict.makes ≡ Producer b →
    IsRun o (Then (Answers (one.Consumer n t) verdict) ∷ log) → ⊥
no_consumer o log n t verdict b makes run = elim (answers_from o log (one.Consumer n t) verdict run) [
  | inl k ↦
      (let r : IsRun o (Then (Told (notice (one.Consumer n t) k.outcome)) ∷ k.older) = subst (IsRun o) k.is_there run.0 in
      let f : Nothing ≡ Producer b =
      sym (server_gives k.before k.outcome verdict (server_stands o k.older n t k.before r.0 k.stood) k.leads) ∙ makes in
      absurd cc)
  | inr x ↦ elim x [
    | inl k ↦
        (let r : IsRun o (Then (Starts (one.Consumer n t) k.procedure) ∷ k.older) = subst (IsRun o) k.is_there run.0 in
        serve_goes_on o k.older n t k.procedure verdict r k.leads)
    | inr e ↦ (let f : (fails Exhausted).makes ≡ Producer b = sym (ap (λ y. y.makes) e) ∙ makes in absurd cc)
  ]
]

pub who_call : (o : Options) (log : List Entry) (w : Who) (verdict : Verdict) (b : BuiltProducer) → verdict.makes ≡ Producer b →
    IsRun o (Then (Answers w verdict) ∷ log) → w ≡ Call (rank w).1
who_call o log (Call t) verdict b makes run = refl
who_call o log (one.Consumer n t) verdict b makes run = absurd (no_consumer o log n t verdict b makes run)
who_call o log (one.Producer m) verdict b makes run = absurd (no_producer o log m verdict b makes run)

end_self : (w : Who) (verdict : Verdict) (t : ℕ) → w ≡ Call t → end_of t (Answers w verdict) ≡ 1
end_self w verdict t e = ap (λ x. end_of t (Answers x verdict)) e ∙ ap (λ b. cond b 1 0) (self_same t)

unspent : (t : ℕ) → Began (Call t) → is_spent t ≡ false
unspent t k = k

ends_began : (o : Options) (log : List Entry) (t : ℕ) (verdict : Verdict) (b : BuiltProducer) → verdict.makes ≡ Producer b →
    IsRun o (Then (Answers (Call t) verdict) ∷ log) → is_spent t ≡ false
ends_began o log t verdict b makes run = elim (answers_from o log (Call t) verdict run) [
  | inl k ↦
      (let r : IsRun o (Then (Told (notice (Call t) k.outcome)) ∷ k.older) = subst (IsRun o) k.is_there run.0 in
      let s = began_on o k.older (Call t) k.before k.stood in
      unspent t (has_begun o k.older (Call t) s.0 r.0 s.1))
  | inr m ↦ elim m [
    | inl k ↦
        (let r : IsRun o (Then (Starts (Call t) k.procedure) ∷ k.older) = subst (IsRun o) k.is_there run.0 in
        unspent t (has_begun o (Then (Starts (Call t) k.procedure) ∷ k.older) (Call t) k.procedure r
        (ap (λ x. cond x (Some k.procedure) (started (Call t) k.older)) (self_same t))))
    | inr e ↦ (let f : (fails Exhausted).makes ≡ Producer b = sym (ap (λ x. x.makes) e) ∙ makes in absurd cc)
  ]
]

-- A topic producer that joins has a number that no other has.
pub joins_new : (o : Options) (log : List Entry) → Every (Drawn o) log → (who : Who) (verdict : Verdict) (b : BuiltProducer) (n : ℕ) (row : Topic) →
    verdict.makes ≡ Producer b →
    IsRun o (Then (Answers who verdict) ∷ log) → In n (map number_of b.parts) → (view o log).producers.topics n ≡ Some row → ⊥
joins_new o log k (Call t) verdict b n row makes run i h =
    let own : drew o n log ≡ Some (Call t) = owned_in (λ m. drew o m log ≡ Some (Call t)) n verdict.makes b makes (joins_own o log k (Call t) verdict run) i in
    let was = (here (Drawn o) log k).topics n row h in
    let same : Some (Call t) ≡ Some (Call row.owner) = sym own ∙ was.0 in
    let w : t ≡ row.owner = cc in
    let once : counted (end_of t) (Then (Answers (Call t) verdict) ∷ log) ≤ 1 = (ends_once_lem o (Then (Answers (Call t) verdict) ∷ log) t run).1
    (ends_began o log t verdict b makes run) in
    let one : end_of t (Answers (Call t) verdict) ≡ 1 = end_self (Call t) verdict t refl in
    let before : 1 ≤ counted (end_of t) log = subst (λ u. 1 ≤ counted (end_of u) log) (sym w) was.1 in
    let total : counted (end_of t) log + end_of t (Answers (Call t) verdict) ≤ 1 = once in
    omega (arith, one, before, total)
joins_new o log k (one.Consumer m t) verdict b n row makes run i h = absurd (no_consumer o log m t verdict b makes run)
joins_new o log k (one.Producer m) verdict b n row makes run i h = absurd (no_producer o log m verdict b makes run)

topics_on : (o : Options) (log : List Entry) → Every (Drawn o) log → (a : Act) → IsRun o (Then a ∷ log) → (n : ℕ) (row : Topic) →
    (view o (Then a ∷ log)).producers.topics n ≡ Some row →
    (drew o n (Then a ∷ log) ≡ Some (Call row.owner)) × (1 ≤ counted (end_of row.owner) (Then a ∷ log))
topics_on o log k a run n row h = elim (row_from (view o log) a n row h) [
  | inl w ↦
      (let was = (here (Drawn o) log k).topics n w.row w.was in
      let c : 1 ≤ counted (end_of row.owner) log = subst (λ u. 1 ≤ counted (end_of u) log) w.owner was.1 in (
        drew_more o log (here (Drawn o) log k) a n (Call row.owner) (was.0 ∙ ap (λ u. Some (Call u)) w.owner),
        omega (arith, c),
      ))
  | inr j ↦ (let is_call : j.who ≡ Call (rank j.who).1 =
      who_call o log j.who j.verdict j.building j.makes (subst (λ (x : Act). IsRun o (Then x ∷ log)) j.is_act run) in (
        subst (λ (x : Act). drew o n (Then x ∷ log) ≡ Some (Call row.owner)) (sym j.is_act)
            (owned_in (λ m. drew o m log ≡ Some j.who) n j.verdict.makes j.building j.makes
            (joins_own o log k j.who j.verdict (subst (λ (x : Act). IsRun o (Then x ∷ log)) j.is_act run)) j.is_new.listed
            ∙ ap Some is_call
            ∙ ap (λ x. Some (Call x.owner)) j.is_new.is_it),
        (let one : end_of row.owner (Answers j.who j.verdict) ≡ 1 = end_self j.who j.verdict row.owner (is_call ∙ ap (λ x. Call x.owner) j.is_new.is_it) in
            subst (λ (x : Act). 1 ≤ counted (end_of row.owner) (Then x ∷ log)) (sym j.is_act) (omega (arith, one))),
      ))
]

drawn_begins : (o : Options) (log : List Entry) (e : Heard) → Drawn o log → Drawn o (Begins e ∷ log)
drawn_begins o log e k =
    let p = begun_same (λ v. v.producers) e (view o log) refl in
    let s = begun_same (λ v. v.stand) e (view o log) refl in
    record {
      below = λ n w h. subst (λ x. n < x.next) (sym p) (k.below n w h);
      plans = λ w q h. k.plans w q (sym (ap (λ f. f w) s) ∙ h);
      topics = λ n row h. k.topics n row (sym (ap (λ x. x.topics n) p) ∙ h);
    }

drawn_then : (o : Options) (log : List Entry) (a : Act) → IsRun o (Then a ∷ log) → Every (Drawn o) log → Drawn o (Then a ∷ log)
drawn_then o log a run k = record {
  below = below_on o log (here (Drawn o) log k) a;
  plans = λ w p h.
      sound_map (λ n. drew o n log ≡ Some w) (λ n. drew o n (Then a ∷ log) ≡ Some w) p (λ n e. drew_more o log (here (Drawn o) log k) a n w e)
      (plans_on o log (here (Drawn o) log k) a run w p h);
  topics = topics_on o log k a run;
}

pub drawn_run : (o : Options) (log : List Entry) → IsRun o log → Every (Drawn o) log
drawn_run o [] run = record { below = λ n w h. absurd cc; plans = λ w p h. absurd cc; topics = λ n row h. absurd cc }
drawn_run o (Begins e ∷ log) run = let k = drawn_run o log run.0 in (drawn_begins o log e (here (Drawn o) log k), k)
drawn_run o (Then a ∷ log) run = let k = drawn_run o log run.0 in (drawn_then o log a run k, k)
