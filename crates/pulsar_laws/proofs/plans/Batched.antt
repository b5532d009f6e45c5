-- What one step makes of the plan that sends the batches of a topic producer.
use Rattle.std.proofs.Common.{◌≡◌, ◌⊎◌, inl, inr, sym, ap, subst, ℕ, List, [], ◌∷◌, refl, length, map, Bool, true, false, Some, None, Result, Ok, Err}
use Rattle.pulsar_laws.proofs.ActWords.{Action, Notice, OfTopic, Outcome, Rest, TakeBatch, TakeTurn, TellAll}
use Rattle.pulsar_laws.proofs.PlanWords.{action_of, Batches, batches_on, Batching, Deed, Errand, Fate, Member, News, news_of, overrides, Plan, Sending as Send, told_to, Ways}
use Rattle.pulsar_laws.proofs.LinkWords.{Failure}
use Rattle.pulsar_frame.specs.Batch.{EntryValues}
use Rattle.pulsar_messages.specs.Content.{ProducerMessageValues}
use Rattle.pulsar_frame.specs.Reply.{Reply as Content}
use Rattle.pulsar_wire.specs.declared.error.Reason.{Reason}
use Rattle.pulsar_outgoing.specs.Batch.{batch_of, cut_report, entries_in, failed, member_of, not_written, receipt_fate, reports}
use Rattle.pulsar_producer.specs.Batching as batches
use Rattle.pulsar_producer.specs.Plans as produce
use Rattle.pulsar_producer.specs.Plans.{Sent}
use Rattle.pulsar_outgoing.specs.Storage.{Item}
use Rattle.pulsar_outgoing.specs.declared.batch.Fate.TheVariants as fate
use Rattle.pulsar_producer.specs.declared.batching.Batching.TheVariants as batching
use Rattle.pulsar_producer.specs.declared.batching.Goes.{Goes}
use Rattle.pulsar_outgoing.specs.declared.news.News.TheVariants as news
use Rattle.pulsar_producer.specs.declared.sending.Sending.TheVariants as send
use Rattle.pulsar_calls.specs.declared.act.Outcome.TheVariants as outcome
use Rattle.pulsar_plans.specs.Plan.{told_batch}
use Rattle.pulsar_producer.proofs.Arcs.{SendArc, draws, send_arc}
use Rattle.pulsar_laws.proofs.Cases.{cond_when}
use Rattle.pulsar_plans.proofs.Arcs.{StaysSo}
use Rattle.pulsar_searches.specs.declared.transition.Transition.TheVariants as transition

-- HOW IT COMES TO A STATE, and what it does there

abbrev pub is_batch : Outcome → Bool
is_batch (outcome.Granted (news.HasBatch (Some items))) = true
is_batch _ = false

-- it rests
abbrev pub IsRested : Batches → Outcome → Type 0
IsRested batching.Resting u = Unit {0}
IsRested batching.Taking u = is_batch u ≡ false
IsRested (batching.Sending ms c s) u = ⊥
IsRested batching.Settling u = overrides u ≡ true

-- it takes the next batch
abbrev pub IsTaking : Batches → Outcome → Type 0
IsTaking batching.Resting u = u ≡ outcome.Granted news.Ready
IsTaking batching.Taking u = ⊥
IsTaking (batching.Sending ms c s) u = ⊥
IsTaking batching.Settling u = Unit {0}

-- it sends one
abbrev pub Writes : Errand → List Member → ℕ → Send → Action → Outcome → Type 0
Writes e ms c s a u =
    (items : List Item) × (m : ProducerMessageValues) × (u ≡ outcome.Granted (news.HasBatch (Some items))) × (ms ≡ map member_of items)
    × (c ≡ length (entries_in items)) × (batch_of (entries_in items) ≡ Ok m) × (s ≡ send.Waiting m) × (a ≡ OfTopic e.producer TakeTurn)

abbrev pub GoesOn : Ways → Errand → Send → Send → Action → Outcome → Type 0
GoesOn w e old s a u = (d : Deed) × (produce.send_told w e old (news_of u) ≡ transition.Stays s d) × (a ≡ action_of d)

abbrev pub IsSending : Ways → Errand → List Member → ℕ → Send → Action → Batches → Outcome → Type 0
IsSending w e ms c s a batching.Resting u = ⊥
IsSending w e ms c s a batching.Taking u = Writes e ms c s a u
IsSending w e ms c s a (batching.Sending ns d old) u = (ms ≡ ns) × (c ≡ d) × GoesOn w e old s a u
IsSending w e ms c s a batching.Settling u = ⊥

-- it tells what became of one: of one that is not sent, and of one that was
abbrev pub Unsent : List Item → Fate → Type 0
Unsent items f = ((entries_in items ≡ []) × (f ≡ fate.Flushed)) ⊎ ((r : Reason) × (batch_of (entries_in items) ≡ Err r) × (f ≡ not_written r))

abbrev pub Comes : Ways → Errand → Send → Outcome → Fate → Type 0
Comes w e s u f =
    ((overrides u ≡ true) × (f ≡ fate.Halted))
    ⊎ (((r : Content) × (produce.send_told w e s (news_of u) ≡ transition.Gives (Ok r)) × (f ≡ receipt_fate r))
    ⊎ ((g : Failure) × (produce.send_told w e s (news_of u) ≡ transition.Gives (Err g)) × (f ≡ failed g)))

abbrev pub IsSettling : Ways → Errand → Action → Batches → Outcome → Type 0
IsSettling w e a batching.Resting u = ⊥
IsSettling w e a batching.Taking u =
    (items : List Item) × (f : Fate) × (u ≡ outcome.Granted (news.HasBatch (Some items))) × Unsent items f
    × (a ≡ TellAll (map told_to (reports (length (entries_in items)) f (map member_of items))))
IsSettling w e a (batching.Sending ms c s) u =
    ((overrides u ≡ true) × (a ≡ TellAll (map told_to (map cut_report ms))))
    ⊎ ((f : Fate) × Comes w e s u f × (a ≡ TellAll (map told_to (reports c f ms))))
IsSettling w e a batching.Settling u = ⊥

abbrev pub StepTo : Ways → Errand → Batches → Outcome → Batches → Action → Type 0
StepTo w e b u batching.Resting a = (a ≡ Rest) × IsRested b u
StepTo w e b u batching.Taking a = (a ≡ OfTopic e.producer TakeBatch) × IsTaking b u
StepTo w e b u (batching.Sending ms c s) a = IsSending w e ms c s a b u
StepTo w e b u batching.Settling a = IsSettling w e a b u

abbrev pub BatchSo : Ways → Errand → Batches → Outcome → Plan → Action → Type 0
BatchSo w e b u (Batching v x q) a = (v ≡ w) × (x ≡ e) × StepTo w e b u q a
BatchSo w e b u _ a = ⊥

not_batch : (u : Outcome) → overrides u ≡ true → is_batch u ≡ false
not_batch (outcome.Granted n) h = absurd cc
not_batch _ h = refl

module _ (w : Ways) (e : Errand) where
  abbrev GoesTo : Batches → Outcome → Goes → Type 0
  GoesTo b u g = StepTo w e b u g.state (action_of g.deed)

  cuts_goes : (ms : List Member) (c : ℕ) (s : Send) (u : Outcome) (b : Bool) → overrides u ≡ true →
      GoesTo (batching.Sending ms c s) u (batches.cuts_off b ms c)
  cuts_goes ms c s u true h = inl (h, refl)
  cuts_goes ms c s u false h = inr (fate.Halted, inl (h, refl), refl)

  halted_goes : (b : Batches) (u : Outcome) → overrides u ≡ true → GoesTo b u (batches.halted b)
  halted_goes batching.Resting u h = (refl, tt)
  halted_goes batching.Taking u h = (refl, not_batch u h)
  halted_goes (batching.Sending ms c s) u h = cuts_goes ms c s u (batches.is_sent_send s) h
  halted_goes batching.Settling u h = (refl, h)

  resting_goes : (u : Outcome) → GoesTo batching.Resting u (batches.in_resting e (news_of u))
  resting_goes (outcome.Granted news.Ready) = (refl, refl)
  resting_goes (outcome.Granted _) = (refl, tt)
  resting_goes _ = (refl, tt)

  written : (items : List Item) (c : ℕ) (r : Result ProducerMessageValues Reason) → c ≡ length (entries_in items) → batch_of (entries_in items) ≡ r →
      GoesTo batching.Taking (outcome.Granted (news.HasBatch (Some items))) (batches.sends_batch e (map member_of items) c r)
  written items c (Ok m) n h = (items, m, refl, refl, n, h, refl, refl)
  written items c (Err r) n h = (
    items,
    not_written r,
    refl,
    inr (r, h, refl),
    ap (λ k. TellAll (map told_to (reports k (not_written r) (map member_of items)))) n,
  )

  started : (items : List Item) (xs : List EntryValues) → entries_in items ≡ xs →
      GoesTo batching.Taking (outcome.Granted (news.HasBatch (Some items))) (batches.starts_with e (map member_of items) xs)
  started items [] h = (
    items,
    fate.Flushed,
    refl,
    inl (h, refl),
    ap (λ ys. TellAll (map told_to (reports (length ys) fate.Flushed (map member_of items)))) (sym h),
  )
  started items (x ∷ xs) h = written items (length (x ∷ xs)) (batch_of (x ∷ xs)) (ap length (sym h)) (ap batch_of h)

  taking_goes : (u : Outcome) → GoesTo batching.Taking u (batches.in_taking e (news_of u))
  taking_goes (outcome.Granted (news.HasBatch (Some items))) = started items (entries_in items) refl
  taking_goes (outcome.Granted (news.HasBatch None)) = (refl, refl)
  taking_goes (outcome.Granted _) = (refl, refl)
  taking_goes _ = (refl, refl)

  sends_goes : (ms : List Member) (c : ℕ) (s : Send) (u : Outcome) (x : Sent) → produce.send_told w e s (news_of u) ≡ x →
      GoesTo (batching.Sending ms c s) u (batches.sends ms c x)
  sends_goes ms c s u (transition.Stays q d) h = (refl, refl, (d, h, refl))
  sends_goes ms c s u (transition.Gives (Ok r)) h = inr (receipt_fate r, inr (inl (r, h, refl)), refl)
  sends_goes ms c s u (transition.Gives (Err g)) h = inr (failed g, inr (inr (g, h, refl)), refl)

  told_goes : (b : Batches) (u : Outcome) → GoesTo b u (batches.told w e b (news_of u))
  told_goes batching.Resting u = resting_goes u
  told_goes batching.Taking u = taking_goes u
  told_goes (batching.Sending ms c s) u = sends_goes ms c s u (produce.send_told w e s (news_of u)) refl
  told_goes batching.Settling u = (refl, tt)

  pub batch_goes : (b : Batches) (u : Outcome) → StaysSo (BatchSo w e b u) (told_batch w e b u)
  batch_goes b u =
      cond_when (StaysSo (BatchSo w e b u)) (overrides u) (batches_on w e (batches.halted b)) (batches_on w e (batches.told w e b (news_of u)))
      (λ h. (refl, refl, halted_goes b u h)) (λ h. (refl, refl, told_goes b u))

-- WHAT IT DOES NOT

-- only where it takes one it takes a batch, and only where it settles one it tells others
abbrev is_take : Action → Bool
is_take (OfTopic n TakeBatch) = true
is_take _ = false

abbrev is_tell : Action → Bool
is_tell (TellAll ns) = true
is_tell _ = false

send_plain : {w : Ways} {e : Errand} {s q : Send} {y : News} {d : Deed} → SendArc w e s y q d →
    (is_take (action_of d) ≡ false) × (is_tell (action_of d) ≡ false)
send_plain draws = (refl, refl)
send_plain _ = (refl, refl)

goes_plain : (w : Ways) (e : Errand) (old s : Send) (a : Action) (u : Outcome) → GoesOn w e old s a u → (is_take a ≡ false) × (is_tell a ≡ false)
goes_plain w e old s a u k =
    subst (λ x. (is_take x ≡ false) × (is_tell x ≡ false)) (sym k.2) (send_plain {w = w} {e = e} {s = old} {y = news_of u} (send_arc k.1))

pub takes_where : (w : Ways) (e : Errand) (b : Batches) (u : Outcome) (q : Batches) (m : ℕ) → StepTo w e b u q (OfTopic m TakeBatch) →
    (m ≡ e.producer) × (q ≡ batching.Taking) × IsTaking b u
takes_where w e b u batching.Resting m k = (let f : is_take (OfTopic m TakeBatch) ≡ false = ap is_take k.0 in absurd cc)
takes_where w e b u batching.Taking m k = ((let f : OfTopic m TakeBatch ≡ OfTopic e.producer TakeBatch = k.0 in cc), refl, k.1)
takes_where w e b u (batching.Sending ms c s) m k = absurd (sending b k)
  where
    sending : (b : Batches) → IsSending w e ms c s (OfTopic m TakeBatch) b u → ⊥
    sending batching.Resting k = k
    sending batching.Taking k = (let f : is_take (OfTopic m TakeBatch) ≡ false = ap is_take k.7 in absurd cc)
    sending (batching.Sending ns d old) k = (let f : true ≡ false = (goes_plain w e old s (OfTopic m TakeBatch) u k.2).0 in absurd cc)
    sending batching.Settling k = k
takes_where w e b u batching.Settling m k = absurd (settling b k)
  where
    settling : (b : Batches) → IsSettling w e (OfTopic m TakeBatch) b u → ⊥
    settling batching.Resting k = k
    settling batching.Taking k = (let f : is_take (OfTopic m TakeBatch) ≡ false = ap is_take k.4 in absurd cc)
    settling (batching.Sending ms c s) (inl k) = (let f : is_take (OfTopic m TakeBatch) ≡ false = ap is_take k.1 in absurd cc)
    settling (batching.Sending ms c s) (inr k) = (let f : is_take (OfTopic m TakeBatch) ≡ false = ap is_take k.2 in absurd cc)
    settling batching.Settling k = k

pub tells_where : (w : Ways) (e : Errand) (b : Batches) (u : Outcome) (q : Batches) (ns : List Notice) → StepTo w e b u q (TellAll ns) →
    (q ≡ batching.Settling) × IsSettling w e (TellAll ns) b u
tells_where w e b u batching.Resting ns k = (let f : is_tell (TellAll ns) ≡ false = ap is_tell k.0 in absurd cc)
tells_where w e b u batching.Taking ns k = (let f : is_tell (TellAll ns) ≡ false = ap is_tell k.0 in absurd cc)
tells_where w e b u (batching.Sending ms c s) ns k = absurd (sending b k)
  where
    sending : (b : Batches) → IsSending w e ms c s (TellAll ns) b u → ⊥
    sending batching.Resting k = k
    sending batching.Taking k = (let f : is_tell (TellAll ns) ≡ false = ap is_tell k.7 in absurd cc)
    sending (batching.Sending ms d old) k = (let f : true ≡ false = (goes_plain w e old s (TellAll ns) u k.2).1 in absurd cc)
    sending batching.Settling k = k
tells_where w e b u batching.Settling ns k = (refl, k)
