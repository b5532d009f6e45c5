-- The send of a ticket is queued at most once, by itself or as a message of a batch.
use Rattle.std.proofs.Common.{◌≡◌, inl, inr, ◌∙◌, sym, ap, subst, ℕ, zero, suc, ◌+◌, ◌≤◌, ◌==◌, arith, List, [], ◌∷◌, ◌++◌, refl, Bool, true, false, ◌&&◌, cond, Option, Some, None, eq-eqb}
use Rattle.std.proofs.lemmas.Bool.{cases_Bool, eqb-true}
use Rattle.pulsar_laws.proofs.ActWords.{Act, Call, Consumer, Does, Notice, OfTopic, Outcome, Producer, Starts, Store, TakeBatch, TellAll, Told, Who, is_same, turn_of}
use Rattle.pulsar_laws.proofs.PlanWords.{Plan, Stored, Storing}
use Rattle.pulsar_laws.proofs.RunWords.{Begins, begun_same, counted, Each, Entry, IsRun, Options, start_of, Then, view, View}
use Rattle.pulsar_frame.specs.Batch.{EntryValues}
use Rattle.pulsar_messages.specs.Claims.{is_spent}
use Rattle.pulsar_outgoing.specs.Storage.{Item, SingleMessage, Flush, is_nothing, is_ready, pushed}
use Rattle.pulsar_outgoing.specs.declared.multi_topic.Taker.{Taker}
use Rattle.pulsar_producer.specs.Topic as topic
use Rattle.pulsar_producer.specs.Topic.{Act as Deed, Closes, Cuts, cuts, Draws, Flushes, Halts, is_settled, left_of, next_of, Passes, Remakes, Seen, Stores, stores, Takes, takes_in, TakesBatch}
use Rattle.pulsar_calls.specs.declared.act.Procedure.TheVariants as procedure
use Rattle.pulsar_producer_table.specs.Producers.{next_batch_at, topic_after}
use Rattle.pulsar_producer_table.specs.declared.table.Topic.{Topic}
use Rattle.pulsar_laws.proofs.Cases.{cond_so, none_some}
use Rattle.pulsar_laws.specs.BatchLaws.{EachSentOnce, asks_batch, batched_at, batched_times, frames_queued, times_in, times_under, under_way}
use Rattle.pulsar_laws.specs.ProducerLaws.{asks_send, is_queued, queued_times, topic_acts}
use Rattle.pulsar_laws.proofs.calls.Once.{ends_once_lem}
use Rattle.pulsar_laws.proofs.calls.Same.{same_self, same_producer}
use Rattle.pulsar_laws.proofs.plans.Batchers.{batcher_does}
use Rattle.pulsar_laws.proofs.plans.Consuming.{is_modest}
use Rattle.pulsar_laws.proofs.plans.Servers.{server_does}
use Rattle.pulsar_laws.proofs.plans.Stores.{stored_at_once_lem}
use Rattle.pulsar_laws.proofs.plans.Takers.{taken_by_own}
use Rattle.pulsar_laws.proofs.producers.BatchSent.{batch_sent_once_lem}
use Rattle.pulsar_laws.proofs.producers.Drawing.{Every, drawn_run, here, row_from}
use Rattle.pulsar_laws.proofs.producers.InTurn.{at_most_none}
use Rattle.pulsar_laws.proofs.producers.Keepers.{Keeps, NoStore, ends_settled, keeps_more, no_store, none_stored, store_keeps}
use Rattle.pulsar_laws.proofs.producers.OnceSent.{few_run, left_some, sent_once_lem}
use Rattle.pulsar_laws.proofs.producers.Topics.{all_after, row_as}
use Rattle.pulsar_run.specs.Things.{row_by}

-- HOW OFTEN A TICKET STANDS in what a topic producer stores, and in what it has cut

module _ (t : ℕ) where
  times_append : (xs ys : List Item) → times_in t (xs ++ ys) ≡ times_in t xs + times_in t ys
  times_append [] ys = omega arith
  times_append (SingleMessage u e ∷ xs) ys =
      let k : times_in t (xs ++ ys) ≡ times_in t xs + times_in t ys = times_append xs ys in
      let c : ℕ = cond (t == u) 1 0 in
      let g : c + times_in t (xs ++ ys) ≡ c + times_in t xs + times_in t ys = omega (arith, k) in
      g
  times_append (Flush u ∷ xs) ys = times_append xs ys

  abbrev times_all : List (List Item) → ℕ
  times_all [] = 0
  times_all (b ∷ bs) = times_in t b + times_all bs

  all_append : (bs cs : List (List Item)) → times_all (bs ++ cs) ≡ times_all bs + times_all cs
  all_append [] cs = omega arith
  all_append (b ∷ bs) cs = let k : times_all (bs ++ cs) ≡ times_all bs + times_all cs = all_append bs cs in omega (arith, k)

  abbrev held : Seen → ℕ
  held v = times_all v.cut + times_in t v.storage.items

  -- what an act stores
  abbrev gives : Deed → ℕ
  gives (Stores u e) = cond (t == u) 1 0
  gives _ = 0

  cut_held : (v : Seen) → held (cuts v) ≤ held v
  cut_held v =
      let k : times_all (v.cut ++ v.storage.items ∷ []) ≡ times_all v.cut + (times_in t v.storage.items + 0) = all_append v.cut (v.storage.items ∷ []) in
      let g : times_all (v.cut ++ v.storage.items ∷ []) + 0 ≤ times_all v.cut + times_in t v.storage.items = omega (arith, k) in
      g

  push_held : (x : Item) (v : Seen) → held (stores x v) ≤ held v + times_in t (x ∷ [])
  push_held x v =
      let w : Seen = record v { storage = pushed x v.storage } in
      let k : times_in t (v.storage.items ++ x ∷ []) ≡ times_in t v.storage.items + times_in t (x ∷ []) = times_append v.storage.items (x ∷ []) in
      let more : held w ≤ held v + times_in t (x ∷ []) = omega (arith, k) in
      let cut : held (cuts w) ≤ held w = cut_held w in
      cond_so (λ z. held z ≤ held v + times_in t (x ∷ [])) (is_ready w.storage) (cuts w) w (omega (arith, more, cut)) more

  -- a batch that is taken is held no longer
  takes_held : (v : Seen) (bs : List (List Item)) → v.cut ≡ bs → held (left_of bs v) + times_under t (next_of bs) ≤ held v
  takes_held v [] e = omega arith
  takes_held v (b ∷ bs) e = let k : times_all v.cut ≡ times_in t b + times_all bs = ap times_all e in omega (arith, k)

  one_held : (d : Deed) (v : Seen) → held (topic.after d v) ≤ held v + gives d
  one_held (Takes u) v = by v.holder
    where
      by : (h : Option Taker) → held (takes_in h u v) ≤ held v + 0
      by None = omega arith
      by (Some x) = omega arith
  one_held Draws v = cond_so (λ z. held z ≤ held v + 0) (is_spent v.next) v (record v { next = v.next + 1 }) (omega arith) (omega arith)
  one_held (Stores u e) v =
      let k : held (stores (SingleMessage u e) v) ≤ held v + (cond (t == u) 1 0 + 0) = push_held (SingleMessage u e) v in omega (arith, k)
  one_held (Flushes u) v = cond_so (λ z. held z ≤ held v + 0) (is_settled v) v (stores (Flush u) v) (omega arith) (push_held (Flush u) v)
  one_held Cuts v =
      let k : held (cuts v) ≤ held v = cut_held v in
      cond_so (λ z. held z ≤ held v + 0) (is_nothing v.storage.items) v (cuts v) (omega arith) (omega (arith, k))
  one_held TakesBatch v = let k : held (left_of v.cut v) + times_under t (next_of v.cut) ≤ held v = takes_held v v.cut refl in omega (arith, k)
  one_held _ v = omega arith

  abbrev gives_all : List Deed → ℕ
  gives_all [] = 0
  gives_all (d ∷ ds) = gives d + gives_all ds

  all_held : (ds : List Deed) (v : Seen) → held (all_after ds v) ≤ held v + gives_all ds
  all_held [] v = omega arith
  all_held (d ∷ ds) v =
      let a : held (all_after ds v) ≤ held v + gives_all ds = all_held ds v in
      let b : held (topic.after d (all_after ds v)) ≤ held (all_after ds v) + gives d = one_held d (all_after ds v) in
      omega (arith, a, b)

  no_gift : (d : Deed) → NoStore d → gives d ≡ 0
  no_gift (Stores u e) h = absurd cc
  no_gift _ h = refl

  none_given : (ds : List Deed) → Each NoStore ds → gives_all ds ≡ 0
  none_given [] k = refl
  none_given (d ∷ ds) k = let a : gives d ≡ 0 = no_gift d k.0 in let b : gives_all ds ≡ 0 = none_given ds k.1 in omega (arith, a, b)

  -- ACTS THAT STORE IT, at this topic producer, and at any

  abbrev stores_at : (number : ℕ) → Act → ℕ
  stores_at m (Does who (OfTopic k (Store e))) = cond (m == k) (cond (t == turn_of who) 1 0) 0
  stores_at m _ = 0

  abbrev stores_by : Act → ℕ
  stores_by (Does who (OfTopic k (Store e))) = cond (t == turn_of who) 1 0
  stores_by _ = 0

  acts_given : (v : View) (m : ℕ) (a : Act) → gives_all (topic_acts v m a) ≤ stores_at m a
  acts_given v m (Does who (OfTopic k (Store e))) =
      elim (m == k) as (λ b. gives_all (cond b (Stores (turn_of who) e ∷ []) []) ≤ cond b (cond (t == turn_of who) 1 0) 0) [
        | true ↦ omega arith
        | false ↦ omega arith
      ]
  acts_given v m (Does who a) =
      let k : gives_all (topic_acts v m (Does who a)) ≡ 0 = none_given (topic_acts v m (Does who a)) (none_stored v m (Does who a) refl) in omega (arith, k)
  acts_given v m a = let k : gives_all (topic_acts v m a) ≡ 0 = none_given (topic_acts v m a) (none_stored v m a refl) in omega (arith, k)

  abbrev at_row : Option Topic → ℕ
  at_row None = 0
  at_row (Some row) = held row.seen

  row_held : (o : Options) (log : List Entry) (a : Act) (m : ℕ) → IsRun o (Then a ∷ log) →
      at_row ((view o (Then a ∷ log)).producers.topics m) ≤ at_row ((view o log).producers.topics m) + stores_at m a
  row_held o log a m run = by ((view o log).producers.topics m) refl
    where
      new : (r : Option Topic) → (view o (Then a ∷ log)).producers.topics m ≡ r → (view o log).producers.topics m ≡ None → at_row r ≤ 0 + stores_at m a
      new None e f = omega arith
      new (Some row) e f = elim (row_from (view o log) a m row e) [
        | inl was ↦ absurd (none_some (sym f ∙ was.was))
        | inr j ↦ (let z : held row.seen ≡ 0 = ap (λ (x : Topic). held x.seen) (sym j.is_new.is_it) in omega (arith, z))
      ]

      by : (r : Option Topic) → (view o log).producers.topics m ≡ r →
          at_row ((view o (Then a ∷ log)).producers.topics m) ≤ at_row r + stores_at m a
      by None e = new ((view o (Then a ∷ log)).producers.topics m) refl e
      by (Some u) e =
          let k : held (all_after (topic_acts (view o log) m a) u.seen) ≤ held u.seen + gives_all (topic_acts (view o log) m a) =
          all_held (topic_acts (view o log) m a) u.seen in
          let g : gives_all (topic_acts (view o log) m a) ≤ stores_at m a = acts_given (view o log) m a in
          subst (λ r. at_row r ≤ held u.seen + stores_at m a) (sym (row_as o log (drawn_run o log run.0) m u e a run)) (omega (arith, k, g))

  took_row : (c : Bool) (r : Option Topic) → c ≡ true →
      at_row (row_by topic_after (cond c (TakesBatch ∷ []) []) r) + times_under t (next_batch_at r) ≤ at_row r
  took_row true None e = omega arith
  took_row true (Some u) e = takes_held u.seen u.seen.cut refl
  took_row false r e = absurd cc

  -- AT ONE TOPIC PRODUCER: it is queued no more often there than it was stored

  module _ (o : Options) (m : ℕ) where
    abbrev is_frame : List Entry → Notice → Bool
    is_frame log x = is_same (Producer m) x.who && (is_queued x.outcome && asks_batch ((view o log).stand (Producer m)))

    abbrev queued_with : List Entry → ℕ
    queued_with [] = 0
    queued_with (Then (Told x) ∷ log) = queued_with log + cond (is_frame log x) (times_under t (under_way o m log)) 0
    queued_with (_ ∷ log) = queued_with log

    -- it may be queued with the batch under way, or later
    abbrev waits_with : List Entry → ℕ
    waits_with log = cond (frames_queued o m log == 0) (times_under t (under_way o m log)) 0

    abbrev Bound : List Entry → Type 0
    Bound log = queued_with log + waits_with log + at_row ((view o log).producers.topics m) ≤ counted (stores_at m) log

  queued_step : (b : Bool) (f q c r s : ℕ) → cond b (f + 1) f ≤ 1 → q + cond (f == 0) c 0 + r ≤ s →
      q + cond b c 0 + cond (cond b (f + 1) f == 0) c 0 + r ≤ s + 0
  queued_step true zero q c r s once h = let k : q + c + r ≤ s = h in let g : q + c + 0 + r ≤ s + 0 = omega (arith, k) in g
  queued_step true (suc f) q c r s once h = absurd (omega (arith, once))
  queued_step false f q c r s once h =
      let x : ℕ = cond (f == 0) c 0 in let k : q + x + r ≤ s = h in let g : q + 0 + x + r ≤ s + 0 = omega (arith, k) in g

  none_step : (b c : Bool) (q : ℕ) (u : Option (List Item)) (r s : ℕ) → q + cond c (times_under t u) 0 + r ≤ s →
      q + cond c (times_under t (cond b None u)) 0 + r ≤ s + 0
  none_step true true q u r s h = let x : ℕ = times_under t u in let k : q + x + r ≤ s = h in let g : q + 0 + r ≤ s + 0 = omega (arith, k) in g
  none_step true false q u r s h = omega (arith, h)
  none_step false c q u r s h = let x : ℕ = cond c (times_under t u) 0 in let k : q + x + r ≤ s = h in let g : q + x + r ≤ s + 0 = omega (arith, k) in g

  module _ (o : Options) (m : ℕ) (log : List Entry) (k : Bound o m log) where
    abbrev v : View
    v = view o log

    abbrev waits : ℕ
    waits = waits_with o m log

    takes_bound : (who : Who) (n : ℕ) → IsRun o (Then (Does who (OfTopic n TakeBatch)) ∷ log) → Bound o m (Then (Does who (OfTopic n TakeBatch)) ∷ log)
    takes_bound who n run = elim (cases_Bool (is_same (Producer m) who)) [
      | inl e ↦
          (let own : m ≡ n = same_producer m n (ap (is_same (Producer m)) (sym (taken_by_own o log who n run)) ∙ e) in
          let later : ℕ → ℕ = λ i. at_row ((view o (Then (Does who (OfTopic n TakeBatch)) ∷ log)).producers.topics i) in
          let taken : later n + times_under t (next_batch_at (v.producers.topics n)) ≤ at_row (v.producers.topics n) =
          took_row (n == n) (v.producers.topics n) (eq-eqb n n refl) in
          let row : later m + times_under t (next_batch_at (v.producers.topics n)) ≤ at_row (v.producers.topics m) =
          subst (λ i. later i + times_under t (next_batch_at (v.producers.topics n)) ≤ at_row (v.producers.topics i)) (sym own) taken in
          let was : queued_with o m log + waits + at_row (v.producers.topics m) ≤ counted (stores_at m) log = k in
          rw e (omega (arith, was, row)))
      | inr e ↦
          (let h = row_held o log (Does who (OfTopic n TakeBatch)) m run in
          let was : queued_with o m log + waits + at_row (v.producers.topics m) ≤ counted (stores_at m) log = k in
          rw e (omega (arith, was, h)))
    ]

    then_bound : (a : Act) → IsRun o (Then a ∷ log) → Bound o m (Then a ∷ log)
    then_bound (Told x) run =
        queued_step (is_frame o m log x) (frames_queued o m log) (queued_with o m log) (times_under t (under_way o m log))
        (at_row (v.producers.topics m)) (counted (stores_at m) log) (batch_sent_once_lem o (Then (Told x) ∷ log) m run) k
    then_bound (Starts who p) run =
        none_step (is_same (Producer m) who) (frames_queued o m log == 0) (queued_with o m log) (under_way o m log) (at_row (v.producers.topics m))
        (counted (stores_at m) log) k
    then_bound (Does who (TellAll ns)) run =
        none_step (is_same (Producer m) who) (frames_queued o m log == 0) (queued_with o m log) (under_way o m log) (at_row (v.producers.topics m))
        (counted (stores_at m) log) k
    then_bound (Does who (OfTopic n TakeBatch)) run = takes_bound who n run
    then_bound (Does who a) run =
        let h = row_held o log (Does who a) m run in
        let was : queued_with o m log + waits + at_row (v.producers.topics m) ≤ counted (stores_at m) log = k in
        omega (arith, was, h)
    then_bound a run =
        let h = row_held o log a m run in
        let was : queued_with o m log + waits + at_row (v.producers.topics m) ≤ counted (stores_at m) log = k in
        omega (arith, was, h)

  bound_run : (o : Options) (m : ℕ) (log : List Entry) → IsRun o log → Bound o m log
  bound_run o m [] run = omega arith
  bound_run o m (Begins e ∷ log) run =
      subst (λ r. queued_with o m log + waits_with o m log + at_row r ≤ counted (stores_at m) log)
      (sym (begun_same (λ v. v.producers.topics m) e (view o log) refl)) (bound_run o m log run.0)
  bound_run o m (Then a ∷ log) run = then_bound o m log (bound_run o m log run.0) a run

  queued_bound : (o : Options) (m : ℕ) (log : List Entry) → IsRun o log → queued_with o m log ≤ counted (stores_at m) log
  queued_bound o m log run =
      let b : queued_with o m log + waits_with o m log + at_row ((view o log).producers.topics m) ≤ counted (stores_at m) log = bound_run o m log run in
      omega (arith, b)

  -- AT ALL OF THEM: it is stored at one

  at_most : (m : ℕ) (a : Act) → stores_at m a ≤ stores_by a
  at_most m (Does who (OfTopic k (Store e))) =
      let c : ℕ = cond (t == turn_of who) 1 0 in elim (m == k) as (λ b. cond b c 0 ≤ c) [ true ↦ omega arith | false ↦ omega arith ]
  at_most m (Does who a) = omega arith
  at_most m a = omega arith

  all_most : (m : ℕ) (log : List Entry) → counted (stores_at m) log ≤ counted stores_by log
  all_most m [] = omega arith
  all_most m (Begins e ∷ log) = all_most m log
  all_most m (Then a ∷ log) =
      let h : counted (stores_at m) log ≤ counted stores_by log = all_most m log in let g : stores_at m a ≤ stores_by a = at_most m a in omega (arith, h, g)

  one_apart : (n m k c : ℕ) → (n == m) ≡ false → cond (n == k) c 0 + cond (m == k) c 0 ≤ c
  one_apart n m k c h = elim (cases_Bool (n == k)) [
    | inl e ↦ elim (cases_Bool (m == k)) [
      | inl f ↦ (let same : true ≡ false = sym (eq-eqb n m (eqb-true n k e ∙ sym (eqb-true m k f))) ∙ h in absurd cc)
      | inr f ↦ rw (e, f) (omega arith)
    ]
    | inr e ↦ rw e (elim (m == k) as (λ b. 0 + cond b c 0 ≤ c) [ true ↦ omega arith | false ↦ omega arith ])
  ]

  apart : (n m : ℕ) → (n == m) ≡ false → (log : List Entry) → counted (stores_at n) log + counted (stores_at m) log ≤ counted stores_by log
  apart n m h [] = omega arith
  apart n m h (Begins e ∷ log) = apart n m h log
  apart n m h (Then (Does who (OfTopic k (Store e))) ∷ log) =
      let c : ℕ = cond (t == turn_of who) 1 0 in
      let x : ℕ = cond (n == k) c 0 in
      let y : ℕ = cond (m == k) c 0 in
      let was : counted (stores_at n) log + counted (stores_at m) log ≤ counted stores_by log = apart n m h log in
      let one : x + y ≤ c = one_apart n m k c h in
      let g : counted (stores_at n) log + x + (counted (stores_at m) log + y) ≤ counted stores_by log + c = omega (arith, was, one) in
      g
  apart n m h (Then (Does who a) ∷ log) =
      let was : counted (stores_at n) log + counted (stores_at m) log ≤ counted stores_by log = apart n m h log in omega (arith, was)
  apart n m h (Then a ∷ log) =
      let was : counted (stores_at n) log + counted (stores_at m) log ≤ counted stores_by log = apart n m h log in omega (arith, was)

  some_store : (log : List Entry) → 1 ≤ counted stores_by log → (m : ℕ) × (1 ≤ counted (stores_at m) log)
  some_store [] h = absurd (omega (arith, h))
  some_store (Begins e ∷ log) h = some_store log h
  some_store (Then (Does who (OfTopic k (Store e))) ∷ log) h = elim (cases_Bool (t == turn_of who)) [
    | inl f ↦ (k, (let own : (k == k) ≡ true = eq-eqb k k refl in rw (f, own) (omega arith)))
    | inr f ↦
        (let was : 1 ≤ counted stores_by log + 0 = rw f at h in
        let x = some_store log (omega (arith, was)) in
        let one : 1 ≤ counted (stores_at x.0) log = x.1 in
        (x.0, omega (arith, one)))
  ]
  some_store (Then (Does who a) ∷ log) h = let x = some_store log (omega (arith, h)) in let one : 1 ≤ counted (stores_at x.0) log = x.1 in (x.0, omega (arith, one))
  some_store (Then a ∷ log) h = let x = some_store log (omega (arith, h)) in let one : 1 ≤ counted (stores_at x.0) log = x.1 in (x.0, omega (arith, one))

  abbrev at_one : Options → List Entry → Outcome → ℕ → ℕ
  at_one o log u i = cond (is_queued u && asks_batch ((view o log).stand (Producer i))) (times_under t (under_way o i log)) 0

  -- what is queued at another topic producer has none of it
  told_one : (o : Options) (m : ℕ) (log : List Entry) (x : Notice) → IsRun o (Then (Told x) ∷ log) →
      counted stores_by log ≤ counted (stores_at m) log → (w : Who) → x.who ≡ w →
      batched_at o t log w x.outcome
      ≤ cond (is_same (Producer m) w && (is_queued x.outcome && asks_batch ((view o log).stand (Producer m)))) (times_under t (under_way o m log)) 0
  told_one o m log x run h (Call u) e = omega arith
  told_one o m log x run h (Consumer n u) e = omega arith
  told_one o m log x run h (Producer n) e = elim (cases_Bool (n == m)) [
    | inl s ↦
        (let same : m ≡ n = sym (eqb-true n m s) in
        let own : is_same (Producer m) (Producer n) ≡ true = ap (is_same (Producer m)) (ap Producer (sym same)) ∙ same_self (Producer m) in
        rw own (subst (λ i. at_one o log x.outcome i ≤ at_one o log x.outcome m) same (omega arith)))
    | inr s ↦
        (let bound : queued_with o n log + cond (is_same (Producer n) x.who && (is_queued x.outcome && asks_batch ((view o log).stand (Producer n))))
        (times_under t (under_way o n log)) 0 ≤ counted (stores_at n) log + 0 = queued_bound o n (Then (Told x) ∷ log) run in
        let named : queued_with o n log + at_one o log x.outcome n ≤ counted (stores_at n) log + 0 =
        subst (λ b. queued_with o n log + cond (b && (is_queued x.outcome && asks_batch ((view o log).stand (Producer n))))
        (times_under t (under_way o n log)) 0 ≤ counted (stores_at n) log + 0)
        (ap (is_same (Producer n)) e ∙ same_self (Producer n)) bound in
        let two : counted (stores_at n) log + counted (stores_at m) log ≤ counted stores_by log = apart n m s log in
        omega (arith, named, two, h))
  ]

  all_bound : (o : Options) (m : ℕ) (log : List Entry) → IsRun o log → counted stores_by log ≤ counted (stores_at m) log →
      batched_times o t log ≤ queued_with o m log
  all_bound o m [] run h = omega arith
  all_bound o m (Begins e ∷ log) run h = all_bound o m log run.0 h
  all_bound o m (Then (Told x) ∷ log) run h =
      let g : counted stores_by log ≤ counted (stores_at m) log = omega (arith, h) in
      let was : batched_times o t log ≤ queued_with o m log = all_bound o m log run.0 g in
      let one = told_one o m log x run g x.who refl in
      omega (arith, was, one)
  all_bound o m (Then a ∷ log) run h =
      let most : stores_at m a ≤ stores_by a = at_most m a in
      let was : counted stores_by log + stores_by a ≤ counted (stores_at m) log + stores_at m a = h in
      all_bound o m log run.0 (omega (arith, was, most))

  -- ONE THAT STORES has no frame of its own, and stores once

  record Once (o : Options) (log : List Entry) : Type 0 where
    few : counted stores_by log ≤ 1
    none : 1 ≤ counted stores_by log → (queued_times o t log ≡ 0) × Keeps o log t

  settled_asks : (r : Option Plan) → ends_settled r ≡ true → asks_send r ≡ false
  settled_asks None h = refl
  settled_asks (Some Stored) h = refl
  settled_asks (Some (Storing share)) h = refl
  settled_asks (Some _) h = absurd cc

  -- an act that stores nothing of it, and by which no frame of its own is queued
  kept_on : (o : Options) (log : List Entry) (a : Act) (s q : ℕ) → s ≡ 0 → (Keeps o log t → q ≡ 0) → IsRun o (Then a ∷ log) → Once o log →
      (counted stores_by log + s ≤ 1)
      × (1 ≤ counted stores_by log + s → (queued_times o t log + q ≡ 0) × Keeps o (Then a ∷ log) t)
  kept_on o log a s q z none run k =
      let few : counted stores_by log ≤ 1 = k.few in (
        omega (arith, few, z),
        λ one. (let was = k.none (omega (arith, one, z)) in
            let e : queued_times o t log ≡ 0 = was.0 in
            let f : q ≡ 0 = none was.1 in
            (omega (arith, e, f), keeps_more o log (Then a) t run was.1)),
      )

  stores_call : (o : Options) (log : List Entry) (who : Who) (n : ℕ) (e : EntryValues) → IsRun o (Then (Does who (OfTopic n (Store e))) ∷ log) → (u : ℕ) × (who ≡ Call u)
  stores_call o log (Call u) n e run = (u, refl)
  stores_call o log (Consumer k u) n e run = let f : is_modest (OfTopic n (Store e)) ≡ true = server_does o log k u (OfTopic n (Store e)) run in absurd cc
  stores_call o log (Producer k) n e run = let d = batcher_does o log k (OfTopic n (Store e)) run in absurd (no_store d.0 n e d.1)

  own_store : (o : Options) (log : List Entry) (n : ℕ) (e : EntryValues) → IsRun o (Then (Does (Call t) (OfTopic n (Store e))) ∷ log) → Every (Once o) log →
      (counted stores_by log ≡ 0) × (queued_times o t log ≡ 0) × Keeps o (Then (Does (Call t) (OfTopic n (Store e))) ∷ log) t
  own_store o log n e run k =
      let x = stored_at_once_lem o log t n e run in
      let older : List Entry = x.1 in
      let r : IsRun o (Then (Starts (Call t) (procedure.Store n x.0 e)) ∷ older) = subst (IsRun o) x.2 run.0 in
      let every : Every (Once o) (Then (Starts (Call t) (procedure.Store n x.0 e)) ∷ older) = subst (Every (Once o)) x.2 k in
      let was : Once o older = here (Once o) older every.1 in
      let once : counted (start_of t) older + start_of t (Starts (Call t) (procedure.Store n x.0 e)) ≤ 1 =
      (ends_once_lem o (Then (Starts (Call t) (procedure.Store n x.0 e)) ∷ older) t r).0 in
      let one : start_of t (Starts (Call t) (procedure.Store n x.0 e)) ≡ 1 = ap (λ b. cond b 1 0) (same_self (Call t)) in
      let unstored : counted stores_by older ≡ 0 =
      at_most_none (counted stores_by older) (λ some. (let b : 1 ≤ counted (start_of t) older = (was.none some).1.began in omega (arith, b, once, one))) in
      let few : queued_times o t older + left_some ((view o older).stand (Call t)) ≤ counted (start_of t) older = few_run o older t in
      let unqueued : queued_times o t older ≡ 0 = omega (arith, few, once, one) in (
        ap (counted stores_by) x.2 ∙ (let g : counted stores_by older + 0 ≡ 0 = omega (arith, unstored) in g),
        ap (queued_times o t) x.2 ∙ (let g : queued_times o t older + 0 ≡ 0 = omega (arith, unqueued) in g),
        keeps_more o log (Then (Does (Call t) (OfTopic n (Store e)))) t run (store_keeps o log t n e run),
      )

  once_then : (o : Options) (log : List Entry) (a : Act) → IsRun o (Then a ∷ log) → Every (Once o) log → Once o (Then a ∷ log)
  once_then o log (Does who (OfTopic n (Store e))) run k = elim (cases_Bool (t == turn_of who)) [
    | inl f ↦
        (let c = stores_call o log who n e run in
        let same : who ≡ Call t = c.1 ∙ ap Call (sym (eqb-true t (turn_of (Call c.0)) (ap (λ (w : Who). t == turn_of w) (sym c.1) ∙ f))) in
        let x = own_store o log n e (subst (λ (w : Who). IsRun o (Then (Does w (OfTopic n (Store e))) ∷ log)) same run) k in
        let z : counted stores_by log ≡ 0 = x.0 in
        let q : queued_times o t log ≡ 0 = x.1 in
        record {
          few = rw f (omega (arith, z));
          none = λ one. (omega (arith, q), subst (λ (w : Who). Keeps o (Then (Does w (OfTopic n (Store e))) ∷ log) t) (sym same) x.2);
        })
    | inr f ↦
        (let z : ◌≡◌ {A = ℕ} (cond (t == turn_of who) 1 0) 0 = ap (λ b. cond b 1 0) f in
        let x = kept_on o log (Does who (OfTopic n (Store e))) (cond (t == turn_of who) 1 0) 0 z (λ h. refl) run (here (Once o) log k) in
        record { few = x.0; none = x.1 })
  ]
  once_then o log (Told n) run k =
      let x = kept_on o log (Told n) 0 (cond (is_same (Call t) n.who && (is_queued n.outcome && asks_send ((view o log).stand (Call t)))) 1 0) refl
      (λ h. unasked (is_same (Call t) n.who) (is_queued n.outcome) (asks_send ((view o log).stand (Call t))) (settled_asks _ h.waits)) run
      (here (Once o) log k) in
      record { few = x.0; none = x.1 }
    where
      unasked : (a b c : Bool) → c ≡ false → ◌≡◌ {A = ℕ} (cond (a && (b && c)) 1 0) 0
      unasked true true c h = ap (λ x. cond x 1 0) h
      unasked true false c h = refl
      unasked false b c h = refl
  once_then o log (Does who a) run k =
      let x = kept_on o log (Does who a) 0 0 refl (λ h. refl) run (here (Once o) log k) in record { few = x.0; none = x.1 }
  once_then o log a run k = let x = kept_on o log a 0 0 refl (λ h. refl) run (here (Once o) log k) in record { few = x.0; none = x.1 }

  once_run : (o : Options) (log : List Entry) → IsRun o log → Every (Once o) log
  once_run o [] run = record { few = omega arith; none = λ one. absurd (omega (arith, one)) }
  once_run o (Begins e ∷ log) run =
      let k = once_run o log run.0 in
      let x : Once o log = here (Once o) log k in
      (record { few = x.few; none = λ one. (let was = x.none one in (was.0, keeps_more o log (Begins e) t run was.1)) }, k)
  once_run o (Then a ∷ log) run = let k = once_run o log run.0 in (once_then o log a run k, k)

  -- THE LAW

  batched_bound : (o : Options) (log : List Entry) (m : ℕ) → IsRun o log → counted stores_by log ≤ counted (stores_at m) log →
      batched_times o t log ≤ counted stores_by log
  batched_bound o log m run h =
      let all : batched_times o t log ≤ queued_with o m log = all_bound o m log run h in
      let one : queued_with o m log ≤ counted (stores_at m) log = queued_bound o m log run in
      let most : counted (stores_at m) log ≤ counted stores_by log = all_most m log in
      omega (arith, all, one, most)

some_at_least : (n : ℕ) → (n == 0) ≡ false → 1 ≤ n
some_at_least zero h = absurd cc
some_at_least (suc n) h = omega arith

pub each_sent_once_lem : EachSentOnce
each_sent_once_lem o log t run = elim (cases_Bool (counted (stores_by t) log == 0)) [
  | inl e ↦
      (let z : counted (stores_by t) log ≡ 0 = eqb-true (counted (stores_by t) log) 0 e in
      let b : batched_times o t log ≤ counted (stores_by t) log = batched_bound t o log 0 run (omega (arith, z)) in
      let q : queued_times o t log ≤ 1 = sent_once_lem o log t run in
      omega (arith, z, b, q))
  | inr e ↦
      (let k : Once t o log = here (Once t o) log (once_run t o log run) in
      let few : counted (stores_by t) log ≤ 1 = k.few in
      let some : 1 ≤ counted (stores_by t) log = some_at_least (counted (stores_by t) log) e in
      let m = some_store t log some in
      let at : 1 ≤ counted (stores_at t m.0) log = m.1 in
      let b : batched_times o t log ≤ counted (stores_by t) log = batched_bound t o log m.0 run (omega (arith, few, at)) in
      let q : queued_times o t log ≡ 0 = (k.none some).0 in
      omega (arith, b, q, few))
]
