-- A receipt that a topic producer is told is that of the frame that it asked for last, and since it took its batch.
use Rattle.std.proofs.Common.{◌≡◌, inl, inr, ◌∙◌, sym, ap, subst, ℕ, arith, List, [], ◌∷◌, refl, map, Bool, true, false, ◌&&◌, cond, Option, Some, None}
use Rattle.std.proofs.lemmas.Bool.{cases_Bool}
use Rattle.pulsar_run.specs.Laws.{Arises, InOne}
use Rattle.pulsar_laws.proofs.ActWords.{Act, Action, Ask, below, Comes, Does, is_same, Notice, OfTopic, Outcome, Part, PassTurn, TakeBatch, Told, Who}
use Rattle.pulsar_laws.proofs.PlanWords.{Batching, Plan}
use Rattle.pulsar_messages.specs.Words as words
use Rattle.pulsar_wire.specs.declared.key.RequestKey.TheVariants as keys
use Rattle.pulsar_producer.specs.declared.batching.Batching.TheVariants as batching
use Rattle.pulsar_laws.proofs.RunWords.{agenda, arranged, at_once, Begins, causes, Cause, Each, each_append, each_map, Entry, first_of, In, IsRun, joins, notice, Options, rest, rest_of, rules, Then, view, View}
use Rattle.pulsar_laws.proofs.LinkWords.{is_body, Reply, Seat, Words}
use Rattle.pulsar_wire.specs.declared.key.RequestKey.{RequestKey}
use Rattle.pulsar_calls.specs.declared.act.Outcome.TheVariants as outcome
use Rattle.pulsar_laws.specs.BatchLaws.{ReceiptsOfBatches, asked_last}
use Rattle.pulsar_laws.specs.Laws.{stopped}
use Rattle.pulsar_laws.proofs.Lists.{each_arranged, each_put_all}
use Rattle.pulsar_laws.proofs.calls.Caused.{is_caused}
use Rattle.pulsar_laws.proofs.calls.Same.{same_self, same_who}
use Rattle.pulsar_laws.proofs.calls.Stopping.{never_replied}
use Rattle.pulsar_laws.proofs.links.Receipts.{IsSentFor, receipt_so}
use Rattle.pulsar_laws.proofs.plans.Batchers.{batcher_stands, is_batcher}
use Rattle.pulsar_laws.proofs.plans.LastWords.{is_leaving}
use Rattle.pulsar_laws.proofs.plans.Spots.{spot_of}
use Rattle.pulsar_laws.proofs.producers.BatchFrames.{asked_own}
use Rattle.pulsar_laws.proofs.producers.Awaiting.{is_passing}
use Rattle.pulsar_laws.proofs.producers.OneAtATime.{Single, left_not, owes_none, single_run, waits_none}
use Rattle.pulsar_laws.proofs.producers.Others.{NotOwn, going}
use Rattle.pulsar_laws.proofs.producers.Spotting.{is_stop}
use Rattle.pulsar_laws.proofs.Cases.{none_some, some_is}
use Rattle.pulsar_laws.proofs.producers.Owed.{all_owed, is_hard, me, note, owed, owing, rest_owed}

-- what is first of all that is left, and what is left behind it
module _ (Q : Act → Type 0) where
  abbrev AllSo : List Act → List Notice → List (List Notice) → Type 0
  AllSo now here behind = Each Q now × Each (λ m. Q (Told m)) here × Each (Each (λ m. Q (Told m))) behind

  first_so : (now : List Act) (here : List Notice) (behind : List (List Notice)) (parts : List Part) (m : Notice) → AllSo now here behind →
      first_of rules now here behind parts ≡ Some (Told m) → Q (Told m)
  first_so (b ∷ now) here behind parts m k h = let e : b ≡ Told m = cc in subst Q e k.0.0
  first_so [] (x ∷ here) behind parts m k h = let e : Told x ≡ Told m = cc in subst Q e k.1.0
  first_so [] [] (c ∷ behind) parts m k h = first_so [] c behind parts m (tt, k.2.0, k.2.1) h
  first_so [] [] [] (p ∷ parts) m k h = absurd cc
  first_so [] [] [] [] m k h = absurd cc

  rest_so : (now : List Act) (here : List Notice) (behind : List (List Notice)) (parts : List Part) → AllSo now here behind →
      AllSo (rest_of now here behind parts).now (rest_of now here behind parts).here (rest_of now here behind parts).behind
  rest_so (b ∷ now) here behind parts k = (k.0.1, k.1, k.2)
  rest_so [] (x ∷ here) behind parts k = (tt, k.1.1, k.2)
  rest_so [] [] (c ∷ behind) parts k = rest_so [] c behind parts (tt, k.2.0, k.2.1)
  rest_so [] [] [] parts k = (tt, tt, tt)

each_in : {A B : Type 0} (P : B → Type 0) (f : A → B) (xs : List A) → ((y : B) → In y (map f xs) → P y) → Each (λ x. P (f x)) xs
each_in P f [] k = tt
each_in P f (x ∷ xs) k = (k (f x) (inl refl), each_in P f xs (λ y i. k y (inr i)))

each_self : {A : Type 0} (P : A → Type 0) (xs : List A) → ((y : A) → In y xs → P y) → Each P xs
each_self P [] k = tt
each_self P (x ∷ xs) k = (k x (inl refl), each_self P xs (λ y i. k y (inr i)))

every_in : {A B : Type 0} (P : B → Type 0) (f : A → B) (xss : List (List A)) → ((y : B) → InOne y (map (map f) xss) → P y) →
    Each (Each (λ x. P (f x))) xss
every_in P f [] k = tt
every_in P f (xs ∷ xss) k = (each_in P f xs (λ y i. k y (inl i)), every_in P f xss (λ y i. k y (inr i)))

module _ (o : Options) (n : ℕ) where
  -- it takes a batch, or asks for something
  abbrev own_take : Act → Bool
  own_take (Does w (OfTopic m TakeBatch)) = is_same (me n) w
  own_take (Does w (Ask l r)) = is_same (me n) w
  own_take _ = false

  last_same : (a : Act) (log : List Entry) → own_take a ≡ false → asked_last n (Then a ∷ log) ≡ asked_last n log
  last_same (Does w (Ask l q)) log h = ap (λ b. cond b (Some q) (asked_last n log)) h
  last_same (Does w (OfTopic m TakeBatch)) log h = ap (λ b. cond b None (asked_last n log)) h
  last_same (Does w (OfTopic m _)) log h = refl
  last_same (Does w _) log h = refl
  last_same _ log h = refl

  abbrev Goes : List Entry → Type 0
  Goes log = IsRun o log × (stopped log ≡ false)

  abbrev Since : List Entry → (link : ℕ) → Who → Words → Type 0
  Since log l w r = w ≡ me n → asked_last n log ≡ Some r

  goes_older : (e : Entry) (log : List Entry) → Goes (e ∷ log) → Goes log
  goes_older (Begins e) log ok = (ok.0.0, ok.1)
  goes_older (Then a) log ok = (ok.0.0, (going a log ok.1).1)

  -- as it does so it waits for nothing
  free_take : (a : Act) (log : List Entry) → IsRun o (Then a ∷ log) → own_take a ≡ true → Single n o log →
      (l : ℕ) (seat : Seat) → (view o log).links.live l ≡ Some seat → (p : ℕ) → seat.askers p ≡ Some (me n) → ⊥
  free_take (Does w (OfTopic m TakeBatch)) log run h k l seat live p i =
      waits_none n o log k (OfTopic m TakeBatch)
      (subst (λ (x : Who). IsRun o (Then (Does x (OfTopic m TakeBatch)) ∷ log)) (sym (same_who (me n) w h)) run) refl refl l seat live p i
  free_take (Does w (Ask j r)) log run h k l seat live p i =
      waits_none n o log k (Ask j r) (subst (λ (x : Who). IsRun o (Then (Does x (Ask j r)) ∷ log)) (sym (same_who (me n) w h)) run) refl refl l seat live p i
  free_take _ log run h k l seat live p i = absurd cc

  since_kept : (e : Entry) (log : List Entry) → Goes (e ∷ log) → (l : ℕ) (seat : Seat) → (view o log).links.live l ≡ Some seat → (p : ℕ) (w : Who) →
      seat.askers p ≡ Some w → (r : Words) → Since log l w r → Since (e ∷ log) l w r
  since_kept (Begins e) log ok l seat live p w i r k = k
  since_kept (Then a) log ok l seat live p w i r k = λ same. elim (cases_Bool (own_take a)) [
    | inr f ↦ last_same a log f ∙ k same
    | inl t ↦
        absurd (free_take a log ok.0 t (single_run n o log ok.0.0 (going a log ok.1).1) l seat live p (i ∙ ap Some same))
  ]

  since_new : (log : List Entry) (l : ℕ) (w : Who) (r : Words) → Since (Then (Does w (Ask l r)) ∷ log) l w r
  since_new log l w r = λ same. ap (λ b. cond b (Some r) (asked_last n log)) (ap (is_same (me n)) same ∙ same_self (me n))

  -- WHAT IS LEFT TO BE TOLD

  abbrev IsSince : List Entry → Option RequestKey → Type 0
  IsSince log k = IsSentFor (λ r. asked_last n log ≡ Some r) k

  abbrev FreshSo : List Entry → Who → Outcome → Type 0
  FreshSo log w u = is_same (me n) w ≡ true → (r : Reply) → u ≡ outcome.Replied r → is_body 7 r.content.body ≡ true → IsSince log r.content.key

  abbrev Fresh : List Entry → Act → Type 0
  Fresh log (Told m) = FreshSo log m.who m.outcome
  Fresh log a = Unit {0}

  since_then : (a : Act) (log : List Entry) → own_take a ≡ false → (k : Option RequestKey) → IsSince log k → IsSince (Then a ∷ log) k
  since_then a log h k s = record {
    producer = s.producer;
    sequence = s.sequence;
    name = s.name;
    message = s.message;
    block = s.block;
    listed = last_same a log h ∙ s.listed;
    bears = s.bears;
  }

  fresh_more : (a : Act) (log : List Entry) → own_take a ≡ false → (b : Act) → Fresh log b → Fresh (Then a ∷ log) b
  fresh_more a log h (Told m) f = λ same r is body. since_then a log h r.content.key (f same r is body)
  fresh_more a log h (Comes p) f = tt
  fresh_more a log h _ f = tt

  abbrev entry_take : Entry → Bool
  entry_take (Then a) = own_take a
  entry_take (Begins e) = false

  reply_fresh : (a : Act) (log : List Entry) → Goes log → (r : Reply) → Cause o (me n) (outcome.Replied r) (Then a) log →
      is_body 7 r.content.body ≡ true → IsSince (Then a ∷ log) r.content.key
  reply_fresh a log ok r c body =
      let x = receipt_so o Goes Since goes_older since_kept since_new log ok (me n) r (Then a) c body in
      let s = x.1 in
      let h : own_take a ≡ false = ap entry_take c.5 in
      since_then a log h r.content.key (record {
        producer = s.producer;
        sequence = s.sequence;
        name = s.name;
        message = s.message;
        block = s.block;
        listed = s.listed refl;
        bears = s.bears;
      })

  arisen_fresh : (a : Act) (log : List Entry) → IsRun o (Then a ∷ log) → stopped log ≡ false → (b : Act) → Arises rules o b (Then a) log →
      Fresh (Then a ∷ log) b
  arisen_fresh a log run h (Told m) arises = λ same r is body.
      reply_fresh a log (run.0, h) r
      (subst (λ w. Cause o w (outcome.Replied r) (Then a) log) (sym (same_who (me n) m.who same))
      (subst (λ u. Cause o m.who u (Then a) log) is (is_caused o m.who m.outcome log (Then a) run arises))) body
  arisen_fresh a log run h (Comes p) arises = tt
  arisen_fresh a log run h _ arises = tt

  abbrev AllFresh : List Entry → List Act → List Notice → List (List Notice) → Type 0
  AllFresh log now here behind = AllSo (Fresh log) now here behind

  -- as it takes a batch nothing is left
  abbrev Other : List Entry → Notice → Type 0
  Other log m = FreshSo log m.who m.outcome

  none_fresh : (log : List Entry) (m : Notice) → note n m ≡ 0 → Other log m
  none_fresh log m z same r is body =
      let a : note n m ≡ cond (is_hard m.outcome) 1 0 = ap (λ b. cond (b && is_hard m.outcome) 1 0) same in
      let b : ◌≡◌ {A = ℕ} (cond (is_hard m.outcome) 1 0) 1 = ap (λ u. cond (is_hard u) 1 0) is in
      absurd (omega (arith, z, a, b))

  owed_fresh : (log : List Entry) (ns : List Notice) → owed n ns ≡ 0 → Each (Other log) ns
  owed_fresh log [] z = tt
  owed_fresh log (m ∷ ns) z = (none_fresh log m (omega (arith, z)), owed_fresh log ns (omega (arith, z)))

  all_fresh : (log : List Entry) (nss : List (List Notice)) → all_owed n nss ≡ 0 → Each (Each (Other log)) nss
  all_fresh log [] z = tt
  all_fresh log (ns ∷ nss) z = (owed_fresh log ns (omega (arith, z)), all_fresh log nss (omega (arith, z)))

  not_fresh : (log : List Entry) (xs : List Act) → Each (NotOwn n) xs → Each (Fresh log) xs
  not_fresh log [] k = tt
  not_fresh log (x ∷ xs) k = (one x k.0, not_fresh log xs k.1)
    where
      one : (x : Act) → NotOwn n x → Fresh log x
      one (Told m) h = λ same r is body. (let f : true ≡ false = sym same ∙ h in absurd cc)
      one (Comes p) h = tt
      one _ h = tt

  abbrev Left : List Entry → List Entry → Type 0
  Left later log = let g = rest (agenda o log) in AllFresh later g.now g.here g.behind

  taken_left : (later log : List Entry) (x : Action) → IsRun o (Then (Does (me n) x) ∷ log) → is_stop (Does (me n) x) ≡ false → is_passing x ≡ false →
      Single n o log → Left later log
  taken_left later log x run stop pass k =
      let g = agenda o log in
      let c : owing n o log ≡ 0 = owes_none n o log k x run stop pass in
      let e = rest_owed n g.now g.here g.behind g.parts (Does (me n) x) run.1 in (
        not_fresh later (rest g).now (left_not n o log k),
        owed_fresh later (rest g).here (omega (arith, c, e)),
        all_fresh later (rest g).behind (omega (arith, c, e)),
      )

  left_fresh : (a : Act) (log : List Entry) → IsRun o (Then a ∷ log) → stopped log ≡ false →
      AllFresh log (agenda o log).now (agenda o log).here (agenda o log).behind → Left (Then a ∷ log) log
  left_fresh a log run h k = elim (cases_Bool (own_take a)) [
    | inl t ↦ taken a run t
    | inr f ↦
        (let g = agenda o log in
        let q = rest_so (Fresh log) g.now g.here g.behind g.parts k in
        let more : (b : Act) → Fresh log b → Fresh (Then a ∷ log) b = fresh_more a log f in
        let told : (m : Notice) → Fresh log (Told m) → Fresh (Then a ∷ log) (Told m) = λ m. more (Told m) in (
          each_map (Fresh log) (Fresh (Then a ∷ log)) (rest g).now more q.0,
          each_map (λ m. Fresh log (Told m)) (λ m. Fresh (Then a ∷ log) (Told m)) (rest g).here told q.1,
          each_map (Each (λ m. Fresh log (Told m))) (Each (λ m. Fresh (Then a ∷ log) (Told m))) (rest g).behind
              (λ ns. each_map (λ m. Fresh log (Told m)) (λ m. Fresh (Then a ∷ log) (Told m)) ns told) q.2,
        ))
  ]
    where
      taken : (b : Act) → IsRun o (Then b ∷ log) → own_take b ≡ true → Left (Then a ∷ log) log
      taken (Does w (OfTopic m TakeBatch)) r t =
          taken_left (Then a ∷ log) log (OfTopic m TakeBatch)
          (subst (λ (x : Who). IsRun o (Then (Does x (OfTopic m TakeBatch)) ∷ log)) (sym (same_who (me n) w t)) r) refl refl (single_run n o log r.0 h)
      taken (Does w (Ask l q)) r t =
          taken_left (Then a ∷ log) log (Ask l q) (subst (λ (x : Who). IsRun o (Then (Does x (Ask l q)) ∷ log)) (sym (same_who (me n) w t)) r) refl refl
          (single_run n o log r.0 h)
      taken _ r t = absurd cc

  fresh_run : (log : List Entry) → IsRun o log → stopped log ≡ false → AllFresh log (agenda o log).now (agenda o log).here (agenda o log).behind
  fresh_run [] run h = (tt, tt, tt)
  fresh_run (Begins e ∷ log) run h = (tt, tt, tt)
  fresh_run (Then a ∷ log) run h =
      let v : View = view o log in
      let s = (going a log h).1 in
      let left = left_fresh a log run s (fresh_run log run.0 s) in
      let Q : Act → Type 0 = Fresh (Then a ∷ log) in
      let g = rest (agenda o log) in (
        each_append Q (at_once v a) g.now (each_self Q (at_once v a) (λ b i. arisen_fresh a log run s b (inl i))) left.0,
        each_put_all (λ m. Q (Told m)) below (joins v a) g.here
            (each_in Q Told (joins v a) (λ b i. arisen_fresh a log run s b (inr (inl i)))) left.1,
        each_append (Each (λ m. Q (Told m))) g.behind (map (arranged below) (causes v a)) left.2
            (each_arranged (λ m. Q (Told m)) below (causes v a)
            (every_in Q Told (causes v a) (λ b i. arisen_fresh a log run s b (inr (inr (inl i)))))),
      )

  receipt_since : (log : List Entry) (r : Reply) → IsRun o (Then (Told (notice (me n) (outcome.Replied r))) ∷ log) → stopped log ≡ false →
      is_body 7 r.content.body ≡ true → IsSince log r.content.key
  receipt_since log r run h body =
      let g = agenda o log in
      first_so (Fresh log) g.now g.here g.behind g.parts (notice (me n) (outcome.Replied r)) (fresh_run log run.0 h) run.1 (same_self (me n)) r refl body

  -- which it asked for on some link
  last_asked : (log : List Entry) (q : Words) → asked_last n log ≡ Some q → (l : ℕ) × In (Then (Does (me n) (Ask l q))) log
  last_asked [] q i = absurd (none_some i)
  last_asked (Then (Does w (Ask l r)) ∷ log) q i = elim (cases_Bool (is_same (me n) w)) [
    | inr e ↦ (let k = last_asked log q (sym (ap (λ b. cond b (Some r) (asked_last n log)) e) ∙ i) in (k.0, inr k.1))
    | inl e ↦
        (let same : r ≡ q = some_is (sym (ap (λ b. cond b (Some r) (asked_last n log)) e) ∙ i) in
        let h : me n ≡ w = same_who (me n) w e in
        (l, inl (λ j. Then (Does (h j) (Ask l (sym same j))))))
  ]
  last_asked (Then (Does w (OfTopic m TakeBatch)) ∷ log) q i = elim (cases_Bool (is_same (me n) w)) [
    | inr e ↦ (let k = last_asked log q (sym (ap (λ b. cond b None (asked_last n log)) e) ∙ i) in (k.0, inr k.1))
    | inl e ↦ absurd (none_some (sym (ap (λ b. cond b None (asked_last n log)) e) ∙ i))
  ]
  last_asked (Then (Does w (OfTopic m PassTurn)) ∷ log) q i = let k = last_asked log q i in (k.0, inr k.1)
  last_asked (Then (Does w (OfTopic m _)) ∷ log) q i = let k = last_asked log q i in (k.0, inr k.1)
  last_asked (Then (Does w _) ∷ log) q i = let k = last_asked log q i in (k.0, inr k.1)
  last_asked (Then _ ∷ log) q i = let k = last_asked log q i in (k.0, inr k.1)
  last_asked (Begins e ∷ log) q i = let k = last_asked log q i in (k.0, inr k.1)

-- THE LAW

stays_on : (row : Option Plan) → ((p : Plan) → row ≡ Some p → is_batcher p ≡ true) → is_leaving (spot_of row) ≡ false
stays_on None k = refl
stays_on (Some p) k = by p (k p refl)
  where
    by : (p : Plan) → is_batcher p ≡ true → is_leaving (spot_of (Some p)) ≡ false
    by (Batching w e batching.Resting) h = refl
    by (Batching w e batching.Taking) h = refl
    by (Batching w e (batching.Sending ms c s)) h = refl
    by (Batching w e batching.Settling) h = refl
    by _ h = absurd cc

pub receipts_of_batches_lem : ReceiptsOfBatches
receipts_of_batches_lem o log n r run body = elim (cases_Bool (stopped log)) [
  | inl h ↦
      (let f : false ≡ true =
      sym (stays_on ((view o log).stand (me n)) (λ p e. batcher_stands o log n p run.0 e)) ∙ never_replied o log (me n) r run h in
      absurd cc)
  | inr h ↦
      (let k = receipt_since o n log r run h body in
      let i = last_asked o n log (words.Send k.producer k.name k.sequence k.message k.block) k.listed in
      let own : k.producer ≡ n = asked_own o log n i.0 k.producer k.sequence k.name k.message k.block run.0 i.1 in (
        k.sequence,
        k.bears ∙ ap (λ m. Some (keys.ProducerSend m k.sequence)) own,
        (k.name, k.message, k.block, k.listed ∙ ap (λ m. Some (words.Send m k.name k.sequence k.message k.block)) own),
      ))
]
