-- From a Stop on no attempt begins. The stop is asked for where nothing else is left to do; in its step the links end one after the other,
-- and whatever a plan is told is its last word, or what became of a batch; behind it no link is left, no alarm is set, and each call is
-- refused.
use Rattle.std.proofs.Common.{◌≡◌, ◌⊎◌, inl, inr, ◌∙◌, sym, ap, subst, ℕ, zero, suc, ◌+◌, ◌≤◌, nat_lt, List, ◌∷◌, ◌++◌, refl, arith, map, Bool, true, false, ◌&&◌, ◌==◌, not, cond, Option, Some, None, [], ◌^◌, ◌-◌}
use Rattle.std.proofs.lemmas.Bool.{cases_Bool, eqb-true}
use Rattle.std.proofs.lemmas.Bool.Decides.{nat_tests}
use Rattle.std.specs.List.{filter_map, flat_map}
use Rattle.std.specs.Option.{option_map, is_some}
use Rattle.pulsar_laws.proofs.ActWords.{Act, Action, Alarm, Answers, Ask, Asked, Batch, below, Call, CallRefusal, Calls, CheckIdle, Comes, Dials, Does, Drains, Ends, FindConsumer, Get, Heard, is_same, KeepAlive, lacks_tickets, LinkAct, Makes, next_advice, Nothing, Notice, numbers_from, OfTopic, Opens, opens, Outcome, Part, Pings, Polls, Procedure, Reads, Retry, Rings, shares, Starts, StopAll, Stops, TakeBatch, Tell, TellAll, Told, ToLink, Wait, Wake, Who, OfConsumer}
use Rattle.pulsar_laws.proofs.PlanWords.{Batching, fails, Plan, verdict, Ways}
use Rattle.pulsar_laws.proofs.RunWords.{after, agenda, Agenda, arranged, asks_raw, asks_topics, at_once, Begins, begun, begun_same, builds_with, called, causes, checks, Chosen, closes, consumers_after, Each, each_append, each_either, each_flat, each_map, Entry, first, first_case, first_of, flushes, follows_some, from_base, gathers, In, IsRun, joins, left_with, lost_on, may_call, none_now, notice, Options, over_each, parts_of, procedure_for, produces, rest, rest_of, rules, searches, sends, shares_unless, starts, stays_some, stopped_on, tells, Then, Tickets, told_some, turned_by, unless_refused, view, View, ways_of, why_no_sends}
use Rattle.pulsar_laws.proofs.LinkWords.{address_key, Addresses, arrival_at, Base, closing, Exhausted, Nobody, over_links, Pause, Pauses, Place, Reply, rings, Runs, Seat, Series, Serves, stop_act, tells_asker, took_some}
use Rattle.pulsar_session.specs.Link.{ends}
use Rattle.pulsar_calls.specs.declared.act.Makes.TheVariants.{Client, Consumer, Producer, RawConsumer}
use Rattle.pulsar_links.specs.Alarms.{clear}
use Rattle.pulsar_laws.proofs.Lists.{each_arranged, each_asker, each_made, each_opens, each_put_all, in_left, in_right, into_flat}
use Rattle.pulsar_laws.specs.Laws.{stopped}
use Rattle.pulsar_laws.specs.AddressLaws.{NoneAfterStop}
use Rattle.pulsar_links.specs.Links.{line_places}
use Rattle.pulsar_acts.specs.Rules.{failed_on, stopped_with, waiters_of, stopped_one}
use Rattle.pulsar_links.specs.LinkRules.{dropped, ended_on, failed_at, failed_over, lost, on_link, stopped_at}
use Rattle.pulsar_producer_table.specs.Notices.{stopped_all, stopped_call}
use Rattle.pulsar_acts.specs.View.{alarms_after, alarms_built, alarms_on, alarms_over, building_of, builds, calls_after, member_made, pause_after, pause_of, pause_on, pause_rung, producers_after, stand_after, topic_of}
use Rattle.pulsar_links.specs.Seats.{Links, pause_put}
use Rattle.pulsar_producer_table.specs.declared.table.Topic.{Topic}
use Rattle.pulsar_outgoing.specs.Storage.{Item}
use Rattle.pulsar_producer.specs.Topic.{Act as Act', Halts, Seen, TakesBatch, left_of, next_of}
use Rattle.pulsar_outgoing.specs.declared.news.News.TheVariants as news
use Rattle.pulsar_messages.specs.Content.{ProducerMessageValues}
use Rattle.pulsar_producer_table.specs.Producers.{Producers, next_batch_at, topic_after, unsent, waiting, why_not}
use Rattle.pulsar_calls.specs.declared.act.CallRefusal.TheVariants as refusal
use Rattle.pulsar_producer.specs.declared.batching.Batching.TheVariants as batching
use Rattle.pulsar_calls.specs.declared.act.Outcome.TheVariants as outcome
use Rattle.pulsar_calls.specs.declared.act.Procedure.TheVariants as procedure
use Rattle.pulsar_searches.specs.declared.plan.Sought.TheVariants as sought
use Rattle.pulsar_calls.specs.Content as content
use Rattle.pulsar_laws.proofs.calls.Asked.{stop_clear}
use Rattle.pulsar_laws.proofs.links.Attempts.{is_dial}
use Rattle.pulsar_laws.proofs.producers.Keepers.{Keeps, RowSo, batch_keeps, ends_settled, settled_some}
use Rattle.pulsar_laws.proofs.plans.Spots.{calm_stop, same_self, same_who, spot_of}
use Rattle.pulsar_laws.proofs.calls.Whereabouts.{goes_nowhere}
use Rattle.pulsar_laws.proofs.plans.LastWords.{AreLast, batch_fine, batch_some, batch_told, calm_fine, each_last, ends_fine, ends_some, is_fine, is_last_word, is_leaving, IsLast, IsLastNotice, IsLate, IsParting, last_append, last_rest, last_some, left_fine, left_some, makes_nothing, settling_told, some_fine, taking_told}
use Rattle.pulsar_consumer_table.specs.Notices.{heard_at, lost_at}
use Rattle.pulsar_acts.specs.Reading.{acknowledges, leaves, made_due, subscribes}
use Rattle.pulsar_consumer_table.specs.Consumers.{Consumers, IsPolled, Member, hears, loses_by, member_after, member_by, over_rows}
use Rattle.pulsar_laws.proofs.consumers.Members.{Gone, gone_map, heard_gone, loss_gone, no_due, no_loss, poll_gone, row_made, there_each}
use Rattle.pulsar_laws.proofs.plans.Wording.{IsStoppedWord, is_stopped_word, rows_each, stopped_words}
use Rattle.pulsar_consumer_table.specs.Consumers as consumer
use Rattle.pulsar_consumer.specs.Topic as reader
use Rattle.pulsar_calls.specs.declared.act.Arrival.TheVariants as arrivals
use Rattle.pulsar_messages.specs.Words as words
use Rattle.pulsar_run.specs.Things.{row_by, row_after}
use Rattle.pulsar_laws.specs.ProducerLaws.{rung_by, topic_acts}
use Rattle.pulsar_acts.proofs.Linking.{took_is}
use Rattle.pulsar_laws.proofs.links.Rows.{after_holds as after_links, begun_holds as begun_links}
use Rattle.pulsar_laws.proofs.Cases.{none_some}

-- LISTS

pub in_numbers : (n start l : ℕ) → start ≤ l → nat_lt l (start + n) ≡ true → In l (numbers_from start n)
in_numbers zero start l h k = absurd (grind (arith, nat_tests))
in_numbers (suc n) start l h k = elim (cases_Bool (l == start)) [
  | inl e ↦ inl (eqb-true l start e)
  | inr e ↦ inr (in_numbers n (suc start) l (grind (arith, nat_tests)) (grind (arith, nat_tests)))
]

-- LINKS

same_either : {A : Type 0} (b : Bool) (x : A) → cond b x x ≡ x
same_either true x = refl
same_either false x = refl

-- only an attempt makes a link
stays_dead : (v : View) (a : Act) (l : ℕ) → is_dial a ≡ false → v.links.live l ≡ None → (after a v).links.live l ≡ None
stays_dead v a l n h =
    after_links (λ row. row ≡ None) v l a (λ seat d. (let f : true ≡ false = sym (ap is_dial d.is_act) ∙ n in absurd cc)) (λ end. refl)
    (λ d c seat at none. absurd (none_some (sym none))) h

begun_dead : (e : Heard) (l : ℕ) (v : View) → v.links.live l ≡ None → (begun e v).links.live l ≡ None
begun_dead e l v h = begun_links (λ row. row ≡ None) v l e (λ piece is seat at none. absurd (none_some (sym none))) h

-- a link that was not started is none
not_started : (o : Options) (log : List Entry) (l : ℕ) → (view o log).links.started ≤ l → (view o log).links.live l ≡ None
not_started o [] l h = refl
not_started o (Begins e ∷ log) l h =
    begun_dead e l (view o log) (not_started o log l (subst (λ n. n ≤ l) (begun_same (λ v. v.links.started) e (view o log) refl) h))
not_started o (Then (Dials p starter n) ∷ log) l h =
    let other : (l == (view o log).links.started) ≡ false = grind (arith, nat_tests) in
    let fewer : (view o log).links.started ≤ l = omega (arith, h) in
    rw other (not_started o log l fewer)
not_started o (Then a ∷ log) l h =
    stays_dead (view o log) a l refl (not_started o log l h)

pub is_started : (o : Options) (log : List Entry) (l : ℕ) (seat : Seat) → (view o log).links.live l ≡ Some seat → nat_lt l (view o log).links.started ≡ true
is_started o log l seat h = elim (cases_Bool (nat_lt l (view o log).links.started)) [
  | inl e ↦ e
  | inr e ↦
      (let more : (view o log).links.started ≤ l = grind (arith, nat_tests) in
      let f : None ≡ Some seat = sym (not_started o log l more) ∙ h in
      absurd cc)
]

-- EACH CALL IS REFUSED

refused_unless : (who : Who) (b : Bool) (p : Procedure) → b ≡ false → IsLast (Starts who (unless_refused b p))
refused_unless who b p h = rw h refl

not_open : (c : Tickets) → c.is_stopped ≡ true → may_call c ≡ false
not_open c h = rw h (elim c.is_built as (λ b. (b && false) ≡ false) [ true ↦ refl | false ↦ refl ])

last_call : (o : Chosen) (c : Tickets) (cs : Consumers) (ps : Producers) (advice : List (Option ℕ)) (asked : Asked) (who : Who) → c.is_stopped ≡ true →
    IsLast (Starts who (procedure_for o c cs ps advice asked))
last_call o c cs ps advice content.Build who h = refused_unless who (not c.is_stopped) (builds_with o.outbound o.base) (ap not h)
last_call o c cs ps advice content.Stop who h = refused_unless who (may_call c) procedure.Stop (not_open c h)
last_call o c cs ps advice (content.Topics namespace mode) who h =
    refused_unless who (may_call c) (from_base o.base (asks_topics namespace mode)) (not_open c h)
last_call o c cs ps advice (content.Lookup t) who h = refused_unless who (may_call c) (searches (ways_of o) (sought.Look t)) (not_open c h)
last_call o c cs ps advice (content.Partitions t) who h = refused_unless who (may_call c) (searches (ways_of o) (sought.CountPartitions t)) (not_open c h)
last_call o c cs ps advice (content.Brokers t) who h = refused_unless who (may_call c) (searches (ways_of o) (sought.Name t)) (not_open c h)
last_call o c cs ps advice (content.Producer wanted) who h = refused_unless who (may_call c) (produces o wanted) (not_open c h)
last_call o c cs ps advice (content.Send t m) who h = refused_unless who (may_call c) (sends o ps (next_advice advice) t m) (not_open c h)
last_call o c cs ps advice (content.SendAll t ms) who h = refused_unless who (may_call c) (gathers c ps t ms) (not_open c h)
last_call o c cs ps advice (content.Flush t) who h = refused_unless who (may_call c) (flushes ps t) (not_open c h)
last_call o c cs ps advice (content.CheckProducer t) who h = refused_unless who (may_call c) (checks ps t) (not_open c h)
last_call o c cs ps advice (content.CloseProducer t) who h = refused_unless who (may_call c) (closes ps t) (not_open c h)
last_call o c cs ps advice (content.Consumer wanted) who h = refused_unless who (may_call c) (subscribes o c.drawn wanted) (not_open c h)
last_call o c cs ps advice (content.Ack t name id cumulative) who h =
    refused_unless who (may_call c) (acknowledges cs t (λ n. words.SendAck n (id ∷ []) cumulative)) (not_open c h)
last_call o c cs ps advice (content.Nack t name id) who h =
    refused_unless who (may_call c) (acknowledges cs t (λ n. words.SendRedeliver n (id ∷ []))) (not_open c h)
last_call o c cs ps advice (content.CloseConsumer t) who h = refused_unless who (may_call c) (leaves cs t) (not_open c h)
last_call o c cs ps advice (content.Raw l request) who h = refused_unless who (may_call c) (asks_raw cs ps l request) (not_open c h)

-- and has no parts
last_shares : (why : Option CallRefusal) (v : View) (advice : List (Option ℕ)) (t : ℕ) (ms : List ProducerMessageValues) → is_some why ≡ true →
    Each IsLast (shares_unless why v advice t ms)
last_shares (Some r) v advice t ms h = tt
last_shares None v advice t ms h = absurd cc

last_parts : (v : View) (advice : List (Option ℕ)) (asked : Asked) → v.calls.is_stopped ≡ true → Each IsLast (parts_of v advice asked)
last_parts v advice (content.SendAll t ms) h =
    last_shares (why_no_sends v.calls v.producers t) v advice t ms
    (ap (λ b. is_some (cond b (why_not v.producers t) (Some refusal.Shutdown))) (not_open v.calls h))
last_parts v advice _ h = tt

last_called : (v : View) (advice : List (Option ℕ)) (asked : Asked) → v.calls.is_stopped ≡ true → Each IsLast (called v advice asked)
last_called v advice asked h =
    each_either IsLast (lacks_tickets v.calls.drawn (shares asked)) (Answers (Call (2 ^ 64 - 1)) (fails Exhausted) ∷ []) (starts v advice asked) (refl, tt)
    (last_call v.chosen v.calls v.consumers v.producers advice asked (Call v.calls.drawn) h, last_parts v advice asked h)

-- whoever asked on a link that the stop ends, or waits for its address
last_ended : (now : ℕ) (row : Option Seat) → Each IsLastNotice (ended_on Stops now row)
last_ended now None = tt
last_ended now (Some seat) =
    each_append IsLastNotice (filter_map (tells_asker (lost Stops now seat.seen) seat.askers) (ends seat.seen))
    (filter_map (tells_asker (λ p. dropped Stops) seat.askers) (line_places seat.seen))
    (each_asker IsLastNotice (lost Stops now seat.seen) seat.askers (λ p w. refl) (ends seat.seen))
    (each_asker IsLastNotice (λ p. dropped Stops) seat.askers (λ p w. refl) (line_places seat.seen))

last_failed : (s : Series) (ws : List Who) → Each IsLastNotice (failed_at Stops s ws)
last_failed Nobody ws = tt
last_failed (Runs starter retries l) [] = tt
last_failed (Runs starter retries l) (w ∷ ws) = (refl, last_failed (Runs starter retries l) ws)
last_failed (Pauses l) ws = tt
last_failed (Serves l) ws = tt

last_over : (pause : Option Pause) (b : Base) → Each IsLastNotice (failed_over Stops pause b)
last_over None b = last_failed b.series b.waiting
last_over (Some p) b = tt

last_waiters : (v : View) (l : ℕ) (row : Option Seat) →
    Each IsLastNotice (waiters_of (failed_on Stops) v.addresses (option_map (turned_by v.chosen v.addresses v.now l (Ends Stops)) row))
last_waiters v l None = tt
last_waiters v l (Some seat) =
    let b : Base = v.addresses.base (address_key seat.address) in last_over (pause_of v.chosen Stops seat.address b.series) b

last_caused : (v : View) (l : ℕ) → ((t : ℕ) → Gone (v.consumers.rows t)) → Each (Each IsLastNotice) (causes v (Comes (ToLink l (Ends Stops))))
last_caused v l gone =
    let row : Option Seat = v.links.live l in
    let waiters : List Notice = waiters_of (failed_on Stops) v.addresses (option_map (turned_by v.chosen v.addresses v.now l (Ends Stops)) row) in
    let readers : List Notice = lost_on v l Stops in
    each_opens IsLastNotice ((ended_on Stops v.now row ++ waiters) ++ readers)
    (each_append IsLastNotice (ended_on Stops v.now row ++ waiters) readers
    (each_append IsLastNotice (ended_on Stops v.now row) waiters (last_ended v.now row) (last_waiters v l row))
    (there_each IsLastNotice (lost_at l (closing Stops v.now row)) v.consumers
    (λ t m e. no_loss IsLastNotice l (closing Stops v.now row) t m (subst Gone e (gone t)))))

last_at : (known : Addresses) (row : Option Pause) → Each IsLastNotice (stopped_at known row)
last_at known None = tt
last_at known (Some p) = each_made IsLastNotice (λ who. notice who outcome.Stopped) (λ w. refl) (known.base (address_key p.address)).waiting

last_with : (known : Addresses) (a : Alarm) → Each IsLastNotice (stopped_with known a)
last_with known (Retry l) = last_at known (known.pause l)
last_with known (Wake who) = (refl, tt)
last_with known (Batch n) = tt
last_with known (KeepAlive l) = tt
last_with known CheckIdle = tt

-- NO ATTEMPT FOLLOWS A LINK THAT THE STOP ENDS

no_pause : (o : Chosen) (p : Place) (s : Series) → pause_of o Stops p s ≡ None
no_pause o p Nobody = refl
no_pause o p (Runs starter retries l) = refl
no_pause o p (Pauses l) = refl
no_pause o p (Serves l) = refl

no_pause_on : (v : View) (l k : ℕ) (row : Option Seat) → pause_on (option_map (turned_by v.chosen v.addresses v.now l (Ends Stops)) row) k None ≡ None
no_pause_on v l k None = refl
no_pause_on v l k (Some seat) = ap (λ pause. pause_put pause l k None) (no_pause v.chosen seat.address (v.addresses.base (address_key seat.address)).series)

no_alarm_on : (v : View) (l : ℕ) (row : Option Seat) → alarms_on v.chosen v.now (option_map (turned_by v.chosen v.addresses v.now l (Ends Stops)) row) [] ≡ []
no_alarm_on v l None = refl
no_alarm_on v l (Some seat) =
    ap (λ pause. alarms_over v.chosen v.now l pause (clear (KeepAlive l) []))
    (no_pause v.chosen seat.address (v.addresses.base (address_key seat.address)).series)

took_stops : (now : ℕ) (row : Option Seat) → took_some (Ends Stops) now row ≡ None
took_stops now None = refl
took_stops now (Some seat) = refl

-- no check of idle links begins with a verdict that makes nothing
none_left : (ways : Option Ways) (maker : Who) (m : Makes) → makes_nothing m ≡ true → Each IsLast (left_with ways maker m)
none_left ways maker Nothing is = tt
none_left ways maker m is = absurd cc

none_built : (b : Bool) (m : Makes) → makes_nothing m ≡ true → (b && builds m false) ≡ false
none_built true Nothing is = refl
none_built false Nothing is = refl
none_built b Client is = absurd cc
none_built b (Consumer j) is = absurd cc
none_built b (RawConsumer l made) is = absurd cc
none_built b (Producer building) is = absurd cc

-- WHERE THE CLIENT IS STOPPED

pub record Over (o : Options) (log : List Entry) : Type 0 where
  now : AreLast (view o log).stand (agenda o log).now
  here : Each (IsLate (view o log).stand) (agenda o log).here
  behind : Each (Each (IsLate (view o log).stand)) (agenda o log).behind
  pauses : (l : ℕ) → (view o log).addresses.pause l ≡ None
  alarms : (view o log).alarms ≡ []
  is_stopped : (view o log).calls.is_stopped ≡ true
  fine : (w : Who) → is_fine ((view o log).stand w) ≡ true
  bare : (m : ℕ) → next_batch_at ((view o log).producers.topics m) ≡ None
  pub gone : (t : ℕ) → Gone ((view o log).consumers.rows t)
  links : (l : ℕ) → ((view o log).links.live l ≡ None) ⊎ In (Comes (ToLink l (Ends Stops))) (agenda o log).now

-- a part that comes, where nothing else is left at once
record PartComes (a : Act) (now : List Act) : Type 0 where
  part : Part
  is_it : a ≡ Comes part
  none : now ≡ []

last_first : (stand : Who → Option Plan) (now : List Act) (here : List Notice) (behind : List (List Notice)) (ps : List Part) (a : Act) → AreLast stand now →
    Each (IsLate stand) here → Each (Each (IsLate stand)) behind → first_of rules now here behind ps ≡ Some a →
    IsLast a ⊎ (IsParting stand a ⊎ PartComes a now)
last_first stand (b ∷ now) here behind ps a n h c fits = elim n.0 [
  | inl is ↦ inl (subst IsLast (let e : b ≡ a = cc in e) is)
  | inr is ↦ inr (inl (subst (IsParting stand) (let e : b ≡ a = cc in e) is))
]
last_first stand [] (m ∷ here) behind ps a n h c fits =
    let e : Told m ≡ a = cc in
    elim h.0 [ inl is ↦ inl (subst IsLast e is) | inr is ↦ inr (inl (subst (IsParting stand) e (inr (inr is)))) ]
last_first stand [] [] (cause ∷ behind) ps a n h c fits = last_first stand [] cause behind ps a tt c.0 c.1 fits
last_first stand [] [] [] (p ∷ ps) a n h c fits = inr (inr (record { part = p; is_it = (let e : a ≡ Comes p = cc in e); none = refl }))
last_first stand [] [] [] [] a n h c fits = absurd cc

module _ (P : Notice → Type 0) where
  rest_here : (now : List Act) (here : List Notice) (behind : List (List Notice)) (ps : List Part) → Each P here → Each (Each P) behind →
      Each P (rest_of now here behind ps).here
  rest_here (a ∷ now) here behind ps h c = h
  rest_here [] (m ∷ here) behind ps h c = h.1
  rest_here [] [] (cause ∷ behind) ps h c = rest_here [] cause behind ps c.0 c.1
  rest_here [] [] [] ps h c = tt

  rest_behind : (now : List Act) (here : List Notice) (behind : List (List Notice)) (ps : List Part) → Each (Each P) behind →
      Each (Each P) (rest_of now here behind ps).behind
  rest_behind (a ∷ now) here behind ps c = c
  rest_behind [] (m ∷ here) behind ps c = c
  rest_behind [] [] (cause ∷ behind) ps c = rest_behind [] cause behind ps c.1
  rest_behind [] [] [] ps c = tt

-- no batch is found where none was cut
bare_left : (c : List (List Item)) (v : Seen) → next_of c ≡ None → next_of v.cut ≡ None → next_of (left_of c v).cut ≡ None
bare_left [] v h k = k
bare_left (b ∷ bs) v h k = absurd cc

bare_taken : (row : Option Topic) → next_batch_at row ≡ None → next_batch_at (option_map (topic_after TakesBatch) row) ≡ None
bare_taken None h = refl
bare_taken (Some t) h = bare_left t.seen.cut t.seen h h

bare_changed : (n m : ℕ) (row : Option Topic) → next_batch_at row ≡ None → next_batch_at (row_by topic_after (cond (m == n) (TakesBatch ∷ []) []) row) ≡ None
bare_changed n m row h = elim (m == n) as (λ b. next_batch_at (row_by topic_after (cond b (TakesBatch ∷ []) []) row) ≡ None) [
  | true ↦ bare_taken row h
  | false ↦ h
]

bare_halted : (row : Option Topic) → next_batch_at (option_map (topic_after Halts) row) ≡ None
bare_halted None = refl
bare_halted (Some t) = refl

made_none : (o : Chosen) (who : Who) (m : Makes) (n : ℕ) → makes_nothing m ≡ true → topic_of (building_of m) who o n ≡ None
made_none o who Nothing n h = refl
made_none o who m n h = absurd cc

none_made : (live : ℕ → Option Seat) (key : ℕ) (m : Makes) → makes_nothing m ≡ true → member_made live key m ≡ None
none_made live key Nothing h = refl
none_made live key m h = absurd cc

none_due_made : (live : ℕ → Option Seat) (key : ℕ) (who : Who) (m : Makes) → makes_nothing m ≡ true → made_due live key who m ≡ []
none_due_made live key who Nothing h = refl
none_due_made live key who m h = absurd cc

none_rung : (v : View) (m : ℕ) (a : Alarm) → rings v.now a v.alarms ≡ false → topic_acts v m (Comes (Rings a)) ≡ []
none_rung v m (Batch n) e = ap (λ b. cond (m == n) (rung_by b) []) e ∙ none_either (m == n)
  where
    none_either : (b : Bool) → ◌≡◌ {A = List Act'} (cond b [] []) []
    none_either true = refl
    none_either false = refl
none_rung v m _ e = refl

module _ (o : Options) (log : List Entry) (run : IsRun o log) (k : Over o log) where
  abbrev v : View
  v = view o log

  abbrev g : Agenda
  g = agenda o log

  -- where nothing is left at once no link is left
  all_dead : g.now ≡ [] → (l : ℕ) → v.links.live l ≡ None
  all_dead none l = elim (k.links l) [ inl e ↦ e | inr i ↦ absurd (subst (In (Comes (ToLink l (Ends Stops)))) none i) ]

  still_stopped : (a : Act) → (calls_after a v.calls).is_stopped ≡ true
  still_stopped (Does who StopAll) = refl
  still_stopped _ = k.is_stopped

  left_of_now : (a : Act) (l : ℕ) → first g ≡ Some a → In (Comes (ToLink l (Ends Stops))) g.now →
      (Comes (ToLink l (Ends Stops)) ≡ a) ⊎ In (Comes (ToLink l (Ends Stops))) (rest g).now
  left_of_now a l fits i = elim (first_case g.now g.here g.behind g.parts a fits) [
    | inl e ↦ subst (In (Comes (ToLink l (Ends Stops)))) e i
    | inr e ↦ absurd (subst (In (Comes (ToLink l (Ends Stops)))) e.0 i)
  ]

  -- one whose message is stored ends with that, whatever it is told
  abbrev StaysEnding : Act → Type 0
  StaysEnding a = (w : Who) → ends_settled (v.stand w) ≡ true → ends_settled (stand_after a w (v.stand w)) ≡ true

  late_more : (a : Act) → StaysEnding a → (n : Notice) → IsLate v.stand n → IsLate (after a v).stand n
  late_more a ends n (inl is) = inl is
  late_more a ends n (inr s) = inr (s.0, ends n.who s.1)

  lasts_late : (stand : Who → Option Plan) (nss : List (List Notice)) → Each (Each IsLastNotice) nss → Each (Each (IsLate stand)) nss
  lasts_late stand nss c = each_map (Each IsLastNotice) (Each (IsLate stand)) nss (λ ns h. each_map IsLastNotice (IsLate stand) ns (λ n is. inl is) h) c

  goes_over : (a : Act) → first g ≡ Some a → is_dial a ≡ false → StaysEnding a → AreLast (after a v).stand (at_once v a) →
      Each (IsLate (after a v).stand) (joins v a) → Each (Each IsLastNotice) (causes v a) → ((l : ℕ) → pause_after v a l None ≡ None) →
      alarms_after v a ≡ [] → ((w : Who) → is_fine (stand_after a w (v.stand w)) ≡ true) →
      ((m : ℕ) → next_batch_at ((producers_after v a).topics m) ≡ None) →
      ((t : ℕ) → Gone ((consumers_after v a).rows t)) →
      ((l : ℕ) → Comes (ToLink l (Ends Stops)) ≡ a → (after a v).links.live l ≡ None) → Over o (Then a ∷ log)
  goes_over a fits no_dial ends once join caused pauses alarms fine bare gone own =
      let late = late_more a ends in
      let P : Notice → Type 0 = IsLate v.stand in
      let Q : Notice → Type 0 = IsLate (after a v).stand in
      record {
        now = last_append (after a v).stand (at_once v a) (rest g).now once (last_rest v.stand g.now g.here g.behind g.parts k.now);
        here =
            each_put_all Q below (joins v a) (rest g).here join (each_map P Q (rest g).here late (rest_here P g.now g.here g.behind g.parts k.here k.behind));
        behind =
            each_append (Each Q) (rest g).behind (map (arranged below) (causes v a))
            (each_map (Each P) (Each Q) (rest g).behind (λ ns h. each_map P Q ns late h) (rest_behind P g.now g.here g.behind g.parts k.behind))
            (each_arranged Q below (causes v a) (lasts_late (after a v).stand (causes v a) caused));
        pauses = λ l. ap (pause_after v a l) (k.pauses l) ∙ pauses l;
        alarms = alarms;
        is_stopped = still_stopped a;
        fine = fine;
        bare = bare;
        gone = gone;
        links = λ l. elim (k.links l) [
          | inl e ↦ inl (stays_dead v a l no_dial e)
          | inr i ↦ elim (left_of_now a l fits i) [
            | inl e ↦ inl (own l e)
            | inr j ↦ inr (in_right (Comes (ToLink l (Ends Stops))) (at_once v a) (rest g).now j)
          ]
        ];
      }

  -- one is told
  abbrev told_stand : Notice → Who → Option Plan
  told_stand n w = stand_after (Told n) w (v.stand w)

  own_stand : (n : Notice) → told_stand n n.who ≡ stays_some (told_some (v.stand n.who) n.outcome)
  own_stand n = ap (λ b. cond b (stays_some (told_some (v.stand n.who) n.outcome)) (v.stand n.who)) (same_self n.who)

  told_ends : (n : Notice) → StaysEnding (Told n)
  told_ends n w h = elim (is_same w n.who) as (λ b. ends_settled (cond b (stays_some (told_some (v.stand w) n.outcome)) (v.stand w)) ≡ true) [
    | true ↦ settled_some (v.stand w) n.outcome h
    | false ↦ h
  ]

  told_fine : (n : Notice) (w : Who) → (w ≡ n.who → is_fine (stays_some (told_some (v.stand w) n.outcome)) ≡ true) → is_fine (told_stand n w) ≡ true
  told_fine n w c = by (is_same w n.who) refl
    where
      by : (b : Bool) → is_same w n.who ≡ b → is_fine (cond b (stays_some (told_some (v.stand w) n.outcome)) (v.stand w)) ≡ true
      by true e = c (same_who w n.who e)
      by false e = k.fine w

  -- what holds of the one who is told holds of whom it is
  of_told : (n : Notice) (w : Who) (test : Option Plan → Bool) → test (v.stand n.who) ≡ true → w ≡ n.who → test (v.stand w) ≡ true
  of_told n w test h e = ap (λ x. test (v.stand x)) e ∙ h

  refused_fine : (who w : Who) (r : CallRefusal) → is_fine (stand_after (Starts who (procedure.Refuse r)) w (v.stand w)) ≡ true
  refused_fine who w r = elim (is_same w who) as (λ b. is_fine (cond b None (v.stand w)) ≡ true) [ true ↦ refl | false ↦ k.fine w ]

  refused_ends : (who : Who) (r : CallRefusal) → StaysEnding (Starts who (procedure.Refuse r))
  refused_ends who r w h = elim (is_same w who) as (λ b. ends_settled (cond b None (v.stand w)) ≡ true) [ true ↦ refl | false ↦ h ]

  -- how each who waits for a batch stands
  abbrev kept_rows : (w : Who) → RowSo (Keeps o log) (v.stand w)
  kept_rows w = batch_keeps o log w run

  last_on : (a : Act) → first g ≡ Some a → IsLast a → Over o (Then a ∷ log)
  last_on (Comes (ToLink l (Ends Stops))) fits is =
      goes_over (Comes (ToLink l (Ends Stops))) fits refl (λ w h. h) tt tt (last_caused v l k.gone) (λ j. no_pause_on v l j (v.links.live l))
      (ap (alarms_after_end l) k.alarms ∙ no_alarm_on v l (v.links.live l)) k.fine k.bare
      (λ t. gone_map (loses_by l (closing Stops v.now (v.links.live l))) (v.consumers.rows t) (loss_gone l (closing Stops v.now (v.links.live l))) (k.gone t))
      own
    where
      alarms_after_end : ℕ → List (Alarm × ℕ) → List (Alarm × ℕ)
      alarms_after_end l alarms = alarms_on v.chosen v.now (option_map (turned_by v.chosen v.addresses v.now l (Ends Stops)) (v.links.live l)) alarms

      own : (j : ℕ) → Comes (ToLink j (Ends Stops)) ≡ Comes (ToLink l (Ends Stops)) →
          (after (Comes (ToLink l (Ends Stops))) v).links.live j ≡ None
      own j e =
          let same : j ≡ l = cc in
          let d : (j == l) ≡ true = rw same (grind (arith, nat_tests)) in
          took_is v l (Ends Stops) j ∙ (rw d (took_stops v.now (v.links.live j)))
  last_on (Told n) fits is =
      goes_over (Told n) fits refl (told_ends n)
      (last_some (Keeps o log) (told_stand n) n.who (v.stand n.who) n.outcome (λ t p. told_ends n (Call t) p.waits) (own_stand n) is (k.fine n.who)
      (kept_rows n.who)) tt tt (λ l. refl) k.alarms
      (λ w. told_fine n w (λ e. some_fine (Keeps o log) (v.stand w) n.outcome is (k.fine w) (kept_rows w))) k.bare k.gone (λ l e. absurd cc)
  last_on (Answers who verdict) fits is =
      goes_over (Answers who verdict) fits refl (λ w h. h)
      (each_last v.stand (left_with (ways_of v.chosen) who verdict.makes) (none_left (ways_of v.chosen) who verdict.makes is))
      (rw (none_due_made v.links.live v.consumers.next_key who verdict.makes is) tt) tt (λ l. refl)
      (ap (λ b. alarms_built v.now b v.alarms) (none_built (not v.calls.is_built) verdict.makes is) ∙ k.alarms) k.fine
      (λ m. ap (λ r. next_batch_at (row_after topic_after r false [] (v.producers.topics m))) (made_none v.chosen who verdict.makes m is) ∙ k.bare m)
      (λ t. subst Gone (sym (ap (λ r. row_made r who t (v.consumers.rows t)) (none_made v.links.live v.consumers.next_key verdict.makes is))) (k.gone t))
      (λ l e. absurd cc)
  last_on (Starts who (procedure.Refuse r)) fits is =
      goes_over (Starts who (procedure.Refuse r)) fits refl (refused_ends who r) (inl refl, tt) tt tt (λ l. refl) k.alarms (λ w. refused_fine who w r) k.bare
      k.gone
      (λ l e. absurd cc)
  last_on a fits is = absurd cc

  -- one leaves, or a plan of batches goes on, or one is told what became of its message
  told_on : (n : Notice) → first g ≡ Some (Told n) → AreLast (told_stand n) (follows_some n.who (told_some (v.stand n.who) n.outcome)) →
      ((w : Who) → w ≡ n.who → is_fine (stays_some (told_some (v.stand w) n.outcome)) ≡ true) → Over o (Then (Told n) ∷ log)
  told_on n fits once fine =
      goes_over (Told n) fits refl (told_ends n) once tt tt (λ l. refl) k.alarms (λ w. told_fine n w (fine w)) k.bare k.gone (λ l e. absurd cc)

  parts_told : (n : Notice) → first g ≡ Some (Told n) → IsParting v.stand (Told n) → Over o (Then (Told n) ∷ log)
  parts_told n fits (inl is) =
      told_on n fits (left_some (told_stand n) n.who (v.stand n.who) n.outcome is)
      (λ w e. left_fine (v.stand w) n.outcome (of_told n w (λ row. is_leaving (spot_of row)) is e))
  parts_told n fits (inr (inl is)) =
      told_on n fits (batch_some (told_stand n) n.who (v.stand n.who) n.outcome (own_stand n) is)
      (λ w e. batch_fine (v.stand w) n.outcome (of_told n w (λ row. batch_told row n.outcome) is e))
  parts_told n fits (inr (inr s)) =
      told_on n fits (ends_some (told_stand n) n.who (v.stand n.who) n.outcome s.0 s.1)
      (λ w e. ends_fine (v.stand w) n.outcome s.0 (of_told n w ends_settled s.1 e))

  parts_on : (a : Act) → first g ≡ Some a → IsParting v.stand a → Over o (Then a ∷ log)
  parts_on (Does who (Tell n)) fits is =
      goes_over (Does who (Tell n)) fits refl (λ w h. h) (inr (inl is.1), tt) (inl is.0, tt) tt (λ l. refl) k.alarms k.fine k.bare k.gone (λ l e. absurd cc)
  parts_on (Does who (TellAll ns)) fits is =
      goes_over (Does who (TellAll ns)) fits refl (λ w h. h) (inr (inr (inl (settling_told (v.stand who) is.1))), tt) is.0 tt (λ l. refl) k.alarms k.fine
      k.bare k.gone (λ l e. absurd cc)
  parts_on (Does who (OfTopic m TakeBatch)) fits is =
      let none : batch_told (v.stand who) (outcome.Granted (news.HasBatch (next_batch_at (v.producers.topics m)))) ≡ true =
      ap (λ r. batch_told (v.stand who) (outcome.Granted (news.HasBatch r))) (k.bare m) ∙ taking_told (v.stand who) is in
      goes_over (Does who (OfTopic m TakeBatch)) fits refl (λ w h. h) (inr (inr (inl none)), tt) tt tt (λ l. refl) k.alarms k.fine
      (λ n. bare_changed m n (v.producers.topics n) (k.bare n)) k.gone (λ l e. absurd cc)
  parts_on (Told n) fits is = parts_told n fits is
  parts_on a fits is = absurd is

  -- what comes to a link that has ended
  module _ (l : ℕ) (dead : v.links.live l ≡ None) where
    dead_once : (x : LinkAct) → AreLast v.stand (at_once v (Comes (ToLink l x)))
    dead_once Reads = rw dead tt
    dead_once _ = tt

    dead_causes : (x : LinkAct) → Each (Each IsLastNotice) (causes v (Comes (ToLink l x)))
    dead_causes Opens = tt
    dead_causes Reads = rw dead (each_opens IsLastNotice (over_rows (heard_at l arrivals.Nothing) v.consumers)
        (rows_each IsLastNotice (heard_at l arrivals.Nothing) v.consumers (λ t m. tt)))
    dead_causes (Drains most) = rw dead tt
    dead_causes Pings = tt
    dead_causes (Ends end) = rw dead (each_opens IsLastNotice (over_rows (lost_at l None) v.consumers)
        (rows_each IsLastNotice (lost_at l None) v.consumers (λ t m. tt)))

    dead_gone : (x : LinkAct) (t : ℕ) → Gone ((consumers_after v (Comes (ToLink l x))).rows t)
    dead_gone Reads t =
        gone_map (hears l (arrival_at (v.links.live l))) (v.consumers.rows t) (heard_gone l (arrival_at (v.links.live l))) (k.gone t)
    dead_gone (Ends end) t =
        gone_map (loses_by l (closing end v.now (v.links.live l))) (v.consumers.rows t) (loss_gone l (closing end v.now (v.links.live l))) (k.gone t)
    dead_gone Opens t = k.gone t
    dead_gone (Drains most) t = k.gone t
    dead_gone Pings t = k.gone t

    dead_pause : (x : LinkAct) (j : ℕ) → pause_after v (Comes (ToLink l x)) j None ≡ None
    dead_pause x j = rw dead refl

    dead_alarms : (x : LinkAct) → alarms_after v (Comes (ToLink l x)) ≡ []
    dead_alarms x = rw dead k.alarms

  no_alarm : (a : Alarm) → rings v.now a v.alarms ≡ false
  no_alarm a = ap (rings v.now a) k.alarms

  rung_pause : (b : Bool) (a : Alarm) (l : ℕ) → pause_rung b a l None ≡ None
  rung_pause b (Retry j) l = same_either (b && (l == j)) None
  rung_pause b _ l = refl

  part_on : (p : Part) → first g ≡ Some (Comes p) → g.now ≡ [] → Over o (Then (Comes p) ∷ log)
  part_on (Calls asked advice) fits none =
      goes_over (Comes (Calls asked advice)) fits refl (λ w h. h)
      (each_last v.stand (called v advice asked) (last_called v advice asked k.is_stopped)) tt tt (λ l. refl) k.alarms k.fine
      k.bare k.gone (λ l e. absurd cc)
  part_on (ToLink l x) fits none =
      let dead = all_dead none l in
      goes_over (Comes (ToLink l x)) fits refl (λ w h. h) (dead_once l dead x) tt (dead_causes l dead x) (dead_pause l dead x) (dead_alarms l dead x) k.fine
      k.bare (dead_gone l dead x)
      (λ j e. stays_dead v (Comes (ToLink l x)) j refl (all_dead none j))
  part_on (Rings a) fits none =
      let e = no_alarm a in
      goes_over (Comes (Rings a)) fits refl (λ w h. h) (rw e tt) tt (rw e tt) (λ l. rung_pause (rings v.now a v.alarms) a l) (rw e k.alarms) k.fine
      (λ m. ap (λ es. next_batch_at (row_by topic_after es (v.producers.topics m))) (none_rung v m a e) ∙ k.bare m)
      k.gone (λ l e. absurd cc)
  part_on (Polls t) fits none =
      let clock : ℕ = v.now in
      goes_over (Comes (Polls t)) fits refl (λ w h. h) tt
      (no_due (IsLate (after (Comes (Polls t)) v).stand) t (option_map (member_after (reader.Polls clock)) (v.consumers.rows t))
      (gone_map (member_after (reader.Polls clock)) (v.consumers.rows t) (poll_gone clock) (k.gone t))) tt (λ l. refl) k.alarms k.fine k.bare
      (λ u. elim (u == t) as (λ b. Gone (row_by member_by (cond b (IsPolled clock ∷ []) []) (v.consumers.rows u))) [
        | true ↦ gone_map (member_after (reader.Polls clock)) (v.consumers.rows u) (poll_gone clock) (k.gone u)
        | false ↦ k.gone u
      ]) (λ l e. absurd cc)

  over_on : (a : Act) → first g ≡ Some a → Over o (Then a ∷ log)
  over_on a fits = elim (last_first v.stand g.now g.here g.behind g.parts a k.now k.here k.behind fits) [
    | inl is ↦ last_on a fits is
    | inr q ↦ elim q [
      | inl is ↦ parts_on a fits is
      | inr p ↦ subst (λ b. Over o (Then b ∷ log)) (sym p.is_it) (part_on p.part (fits ∙ ap Some p.is_it) p.none)
    ]
  ]

  over_begins : (e : Heard) → first g ≡ None → Over o (Begins e ∷ log)
  over_begins e rests = record {
    now = tt;
    here = tt;
    behind = tt;
    pauses = λ l. begun_same (λ u. u.addresses.pause l) e v refl ∙ k.pauses l;
    alarms = begun_same (λ u. u.alarms) e v refl ∙ k.alarms;
    is_stopped = begun_same (λ u. u.calls.is_stopped) e v refl ∙ k.is_stopped;
    fine = λ w. ap is_fine (begun_same (λ u. u.stand w) e v refl) ∙ k.fine w;
    bare = λ m. ap (λ ps. next_batch_at (ps.topics m)) (begun_same (λ u. u.producers) e v refl) ∙ k.bare m;
    gone = λ t. subst (λ cs. Gone (cs.rows t)) (sym (begun_same (λ u. u.consumers) e v refl)) (k.gone t);
    links = λ l. inl (begun_dead e l v (all_dead (none_now g.now g.here g.behind g.parts rests) l));
  }

-- THE STOP

in_over : (ls : Links) (l : ℕ) (seat : Seat) → ls.live l ≡ Some seat → nat_lt l ls.started ≡ true → In (Comes (ToLink l (Ends Stops))) (over_links stop_act ls)
in_over ls l seat h lt =
    let own : In (Comes (ToLink l (Ends Stops))) (on_link stop_act ls.live l) = rw h (inl refl) in
    let below_all : nat_lt l (0 + ls.started) ≡ true = grind (arith, nat_tests) in
    into_flat (on_link stop_act ls.live) l (Comes (ToLink l (Ends Stops))) (numbers_from 0 ls.started) (in_numbers ls.started 0 l (omega arith) below_all) own

over_starts : (o : Options) (log : List Entry) (who : Who) → IsRun o log → first (agenda o log) ≡ Some (Does who StopAll) →
    Over o (Then (Does who StopAll) ∷ log)
over_starts o log who run fits =
    let v = view o log in
    let clear = stop_clear o log who run fits in
    let stops : List Act = over_links stop_act v.links in
    let ends : List Act = stops ++ tells who outcome.Stopped in
    let told : List Notice = flat_map (λ e. stopped_with v.addresses e.0) v.alarms in
    let waits : List Notice = stopped_all v.producers in
    let readers : List Notice = stopped_on v in
    let P : Notice → Type 0 = IsLate v.stand in
    record {
      now = each_last v.stand (ends ++ (rest (agenda o log)).now)
          (each_append IsLast ends (rest (agenda o log)).now
          (each_append IsLast stops (tells who outcome.Stopped) (over_each IsLast stop_act v.links (λ l seat. (refl, tt))) (refl, tt))
          (subst (Each IsLast) (sym clear.now) tt));
      here = subst (Each P) (sym clear.here) tt;
      behind =
          each_append (Each P) (rest (agenda o log)).behind (map (arranged below) (opens ((told ++ waits) ++ readers)))
          (subst (Each (Each P)) (sym clear.behind) tt)
          (each_arranged P below (opens ((told ++ waits) ++ readers))
          (each_opens P ((told ++ waits) ++ readers) (each_map IsLastNotice P ((told ++ waits) ++ readers) (λ n is. inl is)
          (each_append IsLastNotice (told ++ waits) readers
          (each_append IsLastNotice told waits (each_flat IsLastNotice (λ e. stopped_with v.addresses e.0) v.alarms (λ e. last_with v.addresses e.0))
          (each_append IsLastNotice (map stopped_one (waiting v.producers)) (map stopped_call (unsent v.producers)) (all_wait (waiting v.producers))
          (all_unsent (unsent v.producers))))
          (each_map IsStoppedWord IsLastNotice readers (λ n h. stopped_last n.outcome h) (stopped_words v))))));
      pauses = λ l. refl;
      alarms = refl;
      is_stopped = refl;
      fine = λ w. calm_fine (v.stand w) (calm_stop o w who log run fits);
      bare = λ m. bare_halted (v.producers.topics m);
      gone = λ t. gone_stopped (v.consumers.rows t);
      links = λ l. links_of l (v.links.live l) refl;
    }
  where
    gone_stopped : (row : Option Member) → Gone (option_map consumer.stopped row)
    gone_stopped None = tt
    gone_stopped (Some m) = refl

    stopped_last : (u : Outcome) → is_stopped_word u ≡ true → is_last_word u ≡ true
    stopped_last outcome.Stopped h = refl
    stopped_last u h = absurd cc

    all_wait : (ws : List Who) → Each IsLastNotice (map stopped_one ws)
    all_wait [] = tt
    all_wait (w ∷ ws) = (refl, all_wait ws)

    all_unsent : (ts : List ℕ) → Each IsLastNotice (map stopped_call ts)
    all_unsent [] = tt
    all_unsent (t ∷ ts) = (refl, all_unsent ts)

    links_of : (l : ℕ) (row : Option Seat) → (view o log).links.live l ≡ row →
        ((view o (Then (Does who StopAll) ∷ log)).links.live l ≡ None) ⊎ In (Comes (ToLink l (Ends Stops))) (agenda o (Then (Does who StopAll) ∷ log)).now
    links_of l None e = inl e
    links_of l (Some seat) e =
        let ls = (view o log).links in
        inr (in_left (Comes (ToLink l (Ends Stops))) (over_links stop_act ls ++ tells who outcome.Stopped) (rest (agenda o log)).now
        (in_left (Comes (ToLink l (Ends Stops))) (over_links stop_act ls) (tells who outcome.Stopped) (in_over ls l seat e (is_started o log l seat e))))

pub over_run : (o : Options) (log : List Entry) → IsRun o log → stopped log ≡ true → Over o log
over_run o [] run h = absurd cc
over_run o (Begins e ∷ log) run h = over_begins o log run.0 (over_run o log run.0 h) e run.1
over_run o (Then (Does who StopAll) ∷ log) run h = over_starts o log who run.0 run.1
over_run o (Then a ∷ log) run h = over_on o log run.0 (over_run o log run.0 h) a run.1

pub none_after_stop_lem : NoneAfterStop
none_after_stop_lem o log p starter n run = elim (cases_Bool (stopped log)) [
  | inl e ↦
      (let k = over_run o log run.0 e in
      let g = agenda o log in
      elim (last_first (view o log).stand g.now g.here g.behind g.parts (Dials p starter n) k.now k.here k.behind run.1) [
        | inl is ↦ (let f : false ≡ true = is in absurd cc)
        | inr q ↦ elim q [
          | inl left ↦ absurd left
          | inr k ↦ (let f : Dials p starter n ≡ Comes k.part = k.is_it in absurd cc)
        ]
      ])
  | inr e ↦ e
]

-- then a plan is told a reply only where it leaves
pub never_replied : (o : Options) (log : List Entry) (w : Who) (r : Reply) → IsRun o (Then (Told (notice w (outcome.Replied r))) ∷ log) →
    stopped log ≡ true → is_leaving (spot_of ((view o log).stand w)) ≡ true
never_replied o log w r run h =
    let k = over_run o log run.0 h in
    let g = agenda o log in
    elim (last_first (view o log).stand g.now g.here g.behind g.parts (Told (notice w (outcome.Replied r))) k.now k.here k.behind run.1) [
      | inl is ↦ (let f : false ≡ true = is in absurd cc)
      | inr q ↦ elim q [
        | inl p ↦ elim p [
          | inl leaves ↦ leaves
          | inr x ↦ elim x [ inl b ↦ absurd (none ((view o log).stand w) b) | inr s ↦ (let f : false ≡ true = s.0 in absurd cc) ]
        ]
        | inr c ↦ (let f : Told (notice w (outcome.Replied r)) ≡ Comes c.part = c.is_it in absurd cc)
      ]
    ]
  where
    none : (row : Option Plan) → batch_told row (outcome.Replied r) ≡ true → ⊥
    none (Some (Batching ways e batching.Settling)) b = absurd cc
    none (Some (Batching ways e batching.Taking)) b = absurd cc
    none row b = absurd cc

-- and none asks for anything
pub never_asks : (o : Options) (log : List Entry) (w : Who) (a : Action) → IsRun o (Then (Does w a) ∷ log) → stopped log ≡ true → goes_nowhere a ≡ true
never_asks o log w a run h =
    let k = over_run o log run.0 h in
    let g = agenda o log in
    elim (last_first (view o log).stand g.now g.here g.behind g.parts (Does w a) k.now k.here k.behind run.1) [
      | inl is ↦ (let f : false ≡ true = is in absurd cc)
      | inr q ↦ elim q [ inl p ↦ by a p | inr c ↦ (let f : Does w a ≡ Comes c.part = c.is_it in absurd cc) ]
    ]
  where
    by : (a : Action) → IsParting (view o log).stand (Does w a) → goes_nowhere a ≡ true
    by (Get p) left = absurd left
    by (Ask l request) left = absurd left
    by (Wait delay) left = absurd left
    by (OfConsumer (FindConsumer t)) left = absurd left
    by _ left = refl
