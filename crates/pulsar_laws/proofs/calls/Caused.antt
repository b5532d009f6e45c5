-- Whatever one is told has its cause before, in the same step.
use Rattle.std.proofs.Common.{◌≡◌, ◌⊎◌, inl, inr, ◌∙◌, sym, ap, subst, ℕ, List, ◌∷◌, ◌++◌, refl, map, Bool, true, false, cond, Option, Some, None, Result, Ok, Err, []}
use Rattle.std.specs.List.{filter_map, flat_map}
use Rattle.std.specs.Option.{option_map, option_to_list}
use Rattle.pulsar_laws.proofs.ActWords.{Act, Action, Alarm, Answers, Arrival, Ask, Batch, CheckIdle, Comes, Consumer, Does, Drains, Draw, End, Ends, FailConsumer, Find, FindConsumer, Flush, Get, Hold, Idles, KeepAlive, Makes, Notice, Number, OfTopic, Outcome, Overdue, Part, PassTurn, Polls, Reads, Recall, RecallConsumer, Remake, Rest, Retry, Revive, Rings, Shut, StopAll, Stops, Store, TakeBatch, TakeFlow, TakeNumber, TakeTurn, Tell, TellAll, ToLink, Told, Verdict, Wait, Wake, Who, Word, is_same, opens, ticket_of, turn_of, OfConsumer}
use Rattle.pulsar_laws.proofs.PlanWords.{closed_notice, Command, Drawn}
use Rattle.pulsar_laws.proofs.RunWords.{Arises, at_once, Begins, Cause, causes, chosen_same, Each, Entry, further, In, InOne, IsRun, joins, lost_on, member_on, notice, Options, over_each, parts, readied, ready_notice, room_of, rules, setup_of, stopped_on, tells, Then, turn_notice, turned_by, view, View}
use Rattle.pulsar_laws.proofs.LinkWords.{address_key, Addresses, answer_at, arrival_at, closed_by, closed_consumer, closing, ConnectionError, Exhausted, Failure, Fault, is_asked, is_reachable, Nobody, over_links, Pause, Pauses, Place, rings, Runs, Seat, Series, Serves, stop_act, tells_asker, told_at, url_at, Words}
use Rattle.pulsar_run.proofs.Arising.{acts_arise_lem}
use Rattle.pulsar_wire.specs.declared.error.IoKind.{IoKind}
use Rattle.pulsar_session.specs.declared.states.Asked.{Asked as Placed}
use Rattle.pulsar_wire.specs.Failures.{Disconnected, OfProducer, ProducerClosed}
use Rattle.pulsar_session.specs.Link.{Came, came, ends}
use Rattle.pulsar_exchange.specs.Messages.{read}
use Rattle.pulsar_calls.specs.declared.act.Arrival.TheVariants.{Readied}
use Rattle.pulsar_calls.specs.declared.act.End.TheVariants.{Unopened, Lost, Broken}
use Rattle.pulsar_laws.proofs.Lists.{in_append, in_each, in_map}
use Rattle.pulsar_laws.proofs.calls.Causes.{IsToldBy, OutcomesAreCaused}
use Rattle.pulsar_laws.proofs.links.Late.{lost_same}
use Rattle.pulsar_laws.specs.Laws.{AttemptEnds, CutsSo, LineEnds, RequestEnds, base_of, GrantsSo, BuiltDue, PolledDue, RevivedDue, SaysSo}
use Rattle.pulsar_links.specs.Links.{arrival, change_at, change_in, line_places, new_places, times_out}
use Rattle.pulsar_acts.specs.Rules.{caused, failed_by, failed_on, gets_from, served_on, stopped_with, waiters_of, woken, grants, number_said, stopped_one, says_to}
use Rattle.pulsar_links.specs.LinkRules.{answered_by, answered_on, dropped, ended_by, ended_on, failed, failed_over, failed_so, fails_so, lost, lost_so, lost_with, moved_on, served_by, stopped_at}
use Rattle.pulsar_producer_table.specs.Notices.{stopped_call}
use Rattle.pulsar_acts.specs.View.{pause_for, pause_of}
use Rattle.pulsar_calls.specs.Who.{in_turn}
use Rattle.pulsar_producer_table.specs.Takers.{who_at}
use Rattle.pulsar_laws.proofs.producers.Users.{passes_by_ticket}
use Rattle.pulsar_outgoing.specs.declared.multi_topic.Taker.{Taker}
use Rattle.pulsar_producer.specs.Topic as topic
use Rattle.pulsar_producer_table.specs.declared.table.Topic.{Topic}
use Rattle.pulsar_producer_table.specs.Producers.{drawn, is_settled_at, is_woken, link_at, next_batch_at, number_drawn, numbers_at, recalled, stored_at, stored_by, turn_passed, turn_taken, unsent, unsent_at, waiting, waiting_at}
use Rattle.pulsar_wire.specs.declared.error.IoKind.TheVariants as io_kind
use Rattle.pulsar_session.specs.declared.states.Asked.TheVariants as placed
use Rattle.pulsar_session.specs.Link as session
use Rattle.pulsar_calls.specs.declared.act.Outcome.TheVariants as outcome
use Rattle.pulsar_links.specs.Links as links
use Rattle.pulsar_outgoing.specs.declared.news.News.TheVariants as news
use Rattle.pulsar_client.proofs.Raising.{IsRaised, may, raises, OfNotice}
use Rattle.pulsar_laws.proofs.plans.Fitting.{is_said, is_settling}
use Rattle.pulsar_laws.proofs.plans.Granted.{tell_said, tell_settling}
use Rattle.url.specs.Parts.{Parts}
use Rattle.pulsar_consumer.specs.Commands.{command_of}
use Rattle.pulsar_consumer_table.specs.Consumers.{Member, over_rows}
use Rattle.pulsar_consumer_table.specs.Notices.{again, again_at, due_at, due_to, heard_at, lost_at, stopped_seekers, word_to}
use Rattle.pulsar_consumer_table.specs.Asks.{flow_said, recalled_said, revived_said, sought_said}
use Rattle.pulsar_acts.specs.Reading.{closed_at, heard_on, made_due, numbering_said, tells_word}
use Rattle.pulsar_consumer_table.specs.declared.numbers.Numbering.{Numbering}
use Rattle.pulsar_consumer_table.specs.declared.numbers.Numbering.TheVariants.{Has, InUse, Spent}
use Rattle.pulsar_consumer_table.specs.declared.row.LinkAnswer.{LinkAnswer}
use Rattle.pulsar_consumer_table.specs.declared.row.LinkAnswer.TheVariants.{Found, Gone, Later}
use Rattle.pulsar_laws.proofs.consumers.Members.{after_number, in_rows, revived_number, subscribed_number}
use Rattle.pulsar_calls.specs.declared.act.Word.TheVariants as word
use Rattle.pulsar_calls.specs.declared.act.Makes.TheVariants as makes
use Rattle.pulsar_consumer_table.specs.Consumers as consumer
use Rattle.pulsar_consumer.specs.Topic as reader
use Rattle.pulsar_laws.proofs.calls.CausedLists.{IsAsker, in_alone, in_askers, in_flat, in_opened, in_told, step_map}
use Rattle.pulsar_producer_table.specs.Asks.{draw_outcome, draw_said, grants_it, link_said, recall_said, turn_said}

-- WHO IS TOLD AT ONCE

-- only an action tells at once
none_told : (v : View) (a : Act) (n : Notice) → may OfNotice a ≡ false → In (Told n) (at_once v a) → ⊥
none_told v a n never h =
    (let told : may OfNotice a ≡ true = in_each (IsRaised a) (Told n) (at_once v a) h (raises v a) in let f : true ≡ false = sym told ∙ never in absurd cc)

-- what comes of a link is no notice
pub mute_told : (n : Notice) (ps : List Part) → In (Told n) (map Comes ps) → ⊥
mute_told n [] h = h
mute_told n (p ∷ ps) (inl e) = absurd cc
mute_told n (p ∷ ps) (inr h) = mute_told n ps h

-- WHAT ONE TELLS ANOTHER

said_caused : (o : Options) (who : Who) (u : Outcome) (e : Entry) (older : List Entry) → is_said u ≡ true → IsToldBy who u e older → Cause o who u e older
said_caused o who (outcome.Parted ticket f) e older h k = k
said_caused o who outcome.Stopped e older h k = inr (inr (inr k))
said_caused o who u e older h k = absurd cc

settling_caused : (o : Options) (who : Who) (u : Outcome) (e : Entry) (older : List Entry) → is_settling u ≡ true → IsToldBy who u e older →
    Cause o who u e older
settling_caused o who (outcome.Settled f) e older h k = inl k
settling_caused o who outcome.Stopped e older h k = inr (inr (inr k))
settling_caused o who (outcome.Granted n) e older h k = inr (inr (inr k))
settling_caused o who u e older h k = absurd cc

-- WHAT THE STOP TELLS

stopped_in : (n : Notice) (known : Addresses) (row : Option Pause) → In n (stopped_at known row) → n.outcome ≡ outcome.Stopped
stopped_in n known None h = absurd h
stopped_in n known (Some p) h = among (known.base (address_key p.address)).waiting h
  where
    among : (ws : List Who) → In n (map (λ w. notice w outcome.Stopped) ws) → n.outcome ≡ outcome.Stopped
    among [] h = absurd h
    among (w ∷ ws) (inl e) = ap (λ m. m.outcome) e
    among (w ∷ ws) (inr h) = among ws h

stopped_by : (n : Notice) (known : Addresses) (a : Alarm) → In n (stopped_with known a) → n.outcome ≡ outcome.Stopped
stopped_by n known (Retry l) h = stopped_in n known (known.pause l) h
stopped_by n known (Wake w) (inl e) = ap (λ m. m.outcome) e
stopped_by n known (Wake w) (inr h) = absurd h
stopped_by n known (Batch k) h = absurd h
stopped_by n known (KeepAlive l) h = absurd h
stopped_by n known CheckIdle h = absurd h

-- WHAT THE LOSS OF A REQUEST TELLS

abbrev IsLoss : Outcome → Type 0
IsLoss y = (y ≡ outcome.TimedOut) ⊎ ((y ≡ outcome.Disconnected) ⊎ (y ≡ outcome.Cut))

loss_so : (b : Bool) → IsLoss (lost_so b)
loss_so true = inl refl
loss_so false = inr (inl refl)

loss_with : (end : End) (b : Bool) → IsLoss (lost_with end b)
loss_with (Overdue below) b = loss_so b
loss_with Stops b = inr (inr refl)
loss_with _ b = inr (inl refl)

module _ (o : Options) (who : Who) (u : Outcome) (older : List Entry) where
  abbrev it : Notice
  it = record { who = who; outcome = u }

  abbrev v : View
  v = view o older

  -- an outcome that one is told by name has the cause of that
  named : (e : Entry) (y : Outcome) → u ≡ y → Cause o who y e older → Cause o who u e older
  named e y d k = subst (λ x. Cause o who x e older) (sym d) k

  -- WHAT AN ACTION TELLS

  told_is : (w : Who) (y : Outcome) → In (Told it) (tells w y) → (who ≡ w) × (u ≡ y)
  told_is w y (inl e) = (let f : it ≡ notice w y = (let g : Told it ≡ Told (notice w y) = e in cc) in (ap (λ n. n.who) f, ap (λ n. n.outcome) f))
  told_is w y (inr h) = absurd h

  did : (w : Who) (action : Action) → who ≡ w → ◌≡◌ {A = Entry} (Then (Does w action)) (Then (Does who action))
  did w action e = ap (λ x. Then (Does x action)) (sym e)

  from_caused : (w : Who) (p : Place) (s : Series) → is_reachable p ≡ true → (base_of v p).series ≡ s → In (Told it) (gets_from w p s) →
      Cause o who u (Then (Does w (Get p))) older
  from_caused w p Nobody r q (inl e) = absurd cc
  from_caused w p Nobody r q (inr h) = absurd h
  from_caused w p (Runs starter retries l) r q h = absurd h
  from_caused w p (Pauses l) r q h = absurd h
  from_caused w p (Serves l) r q h =
      let k = told_is w (outcome.GotLink l) h in named (Then (Does w (Get p))) (outcome.GotLink l) k.1 (inl (p, did w (Get p) k.0, (r, q)))

  gets_caused : (w : Who) (p : Place) (b : Bool) → is_reachable p ≡ b → In (Told it) (cond b (gets_from w p (base_of v p).series) (tells w outcome.NotFound)) →
      Cause o who u (Then (Does w (Get p))) older
  gets_caused w p true r h = from_caused w p (base_of v p).series r refl h
  gets_caused w p false r h = let k = told_is w outcome.NotFound h in named (Then (Does w (Get p))) outcome.NotFound k.1 (p, did w (Get p) k.0, r)

  asks_so : (w : Who) (l : ℕ) (request : Words) (a : Result Placed ConnectionError) → answer_at v.now request (v.links.live l) ≡ a → who ≡ w → u ≡ told_at a →
      Cause o who u (Then (Does w (Ask l request))) older
  asks_so w l request (Ok (placed.Queued place)) c a b =
      named (Then (Does w (Ask l request))) outcome.Queued b (inl (l, request, did w (Ask l request) a, (place, c)))
  asks_so w l request (Ok (placed.Waiting place)) c a b =
      named (Then (Does w (Ask l request))) outcome.InLine b (l, request, did w (Ask l request) a, (place, c))
  asks_so w l request (Err x) c a b =
      named (Then (Does w (Ask l request))) (told_at (Err x)) b (inl (l, request, did w (Ask l request) a, (x, c, refl)))

  abbrev IsOther : Act → Type 0
  IsOther a = Told it ≡ a → ⊥

  stops_caused : (w : Who) → In (Told it) (over_links stop_act v.links ++ tells w outcome.Stopped) → Cause o who u (Then (Does w StopAll)) older
  stops_caused w h = elim (in_append (Told it) (over_links stop_act v.links) (tells w outcome.Stopped) h) [
    | inl i ↦ absurd (in_each IsOther (Told it) (over_links stop_act v.links) i (over_each IsOther stop_act v.links (λ l seat. ((λ e. absurd cc), tt))) refl)
    | inr i ↦ (let k = told_is w outcome.Stopped i in named (Then (Does w StopAll)) outcome.Stopped k.1 (inl (w, refl, inl k.0)))
  ]

  -- WHAT ONE ASKS OF A TOPIC PRODUCER, or of their numbers

  takes_some : (w : Who) (n : ℕ) (t : Topic) (r : Option (Option (List ℕ))) → turn_taken (v.producers.topics n) ≡ r →
      In (Told it) (says_to w (option_map (λ version. outcome.Granted (news.HasTurn version)) r)) → Cause o who u (Then (Does w (OfTopic n TakeTurn))) older
  takes_some w n t None e h = absurd h
  takes_some w n t (Some version) e h =
      let k = told_is w (outcome.Granted (news.HasTurn version)) h in
      named (Then (Does w (OfTopic n TakeTurn))) (outcome.Granted (news.HasTurn version)) k.1 (inl (OfTopic n TakeTurn, did w (OfTopic n TakeTurn) k.0, e))

  takes_caused : (w : Who) (n : ℕ) (row : Option Topic) → v.producers.topics n ≡ row → In (Told it) (says_to w (turn_said row)) →
      Cause o who u (Then (Does w (OfTopic n TakeTurn))) older
  takes_caused w n None e h =
      let k = told_is w outcome.Disconnected h in
      named (Then (Does w (OfTopic n TakeTurn))) outcome.Disconnected k.1 (inr (inr (OfTopic n TakeTurn, did w (OfTopic n TakeTurn) k.0, e)))
  takes_caused w n (Some t) e h = takes_some w n t (turn_taken (Some t)) (ap turn_taken e) h

  draws_caused : (w : Who) (n : ℕ) (room : Option Bool) → room_of v n ≡ room → In (Told it) (tells w (draw_outcome room (v.producers.topics n))) →
      Cause o who u (Then (Does w (OfTopic n Draw))) older
  draws_caused w n None e h =
      let k = told_is w (outcome.Refused Disconnected) h in
      named (Then (Does w (OfTopic n Draw))) (outcome.Refused Disconnected) k.1 (inr (OfTopic n Draw, did w (OfTopic n Draw) k.0, e))
  draws_caused w n (Some room) e h = by (drawn room (v.producers.topics n)) refl h
    where
      by : (d : Option Drawn) → drawn room (v.producers.topics n) ≡ d → In (Told it) (tells w (draw_said d)) →
          Cause o who u (Then (Does w (OfTopic n Draw))) older
      by None f i =
          let k = told_is w (outcome.Refused Exhausted) i in
          named (Then (Does w (OfTopic n Draw))) (outcome.Refused Exhausted) k.1 (inr (OfTopic n Draw, did w (OfTopic n Draw) k.0, (room, e, f)))
      by (Some d) f i =
          let k = told_is w (outcome.Granted (news.Drew d)) i in
          named (Then (Does w (OfTopic n Draw))) (outcome.Granted (news.Drew d)) k.1 (inl (OfTopic n Draw, did w (OfTopic n Draw) k.0, (room, e, f)))

  recalls_caused : (w : Who) (n : ℕ) (row : Option Command) → recalled v.producers n ≡ row → In (Told it) (says_to w (recall_said row)) →
      Cause o who u (Then (Does w (OfTopic n Recall))) older
  recalls_caused w n None e h =
      let k = told_is w outcome.Disconnected h in
      named (Then (Does w (OfTopic n Recall))) outcome.Disconnected k.1 (inr (inr (OfTopic n Recall, did w (OfTopic n Recall) k.0, e)))
  recalls_caused w n (Some c) e h =
      let k = told_is w (outcome.Granted (news.Recalled c)) h in
      named (Then (Does w (OfTopic n Recall))) (outcome.Granted (news.Recalled c)) k.1 (inl (OfTopic n Recall, did w (OfTopic n Recall) k.0, e))

  numbers_caused : (w : Who) (row : Option ℕ) → number_drawn v.producers ≡ row → In (Told it) (tells w (number_said row)) →
      Cause o who u (Then (Does w Number)) older
  numbers_caused w None e h =
      let k = told_is w (outcome.Refused Exhausted) h in named (Then (Does w Number)) (outcome.Refused Exhausted) k.1 (inr (Number, did w Number k.0, e))
  numbers_caused w (Some n) e h =
      let k = told_is w (outcome.Granted (news.Numbered n)) h in
      named (Then (Does w Number)) (outcome.Granted (news.Numbered n)) k.1 (inl (Number, did w Number k.0, e))

  finds_caused : (w : Who) (n : ℕ) (row : Option Topic) → v.producers.topics n ≡ row → In (Told it) (says_to w (link_said (link_at row))) →
      Cause o who u (Then (Does w (OfTopic n Find))) older
  finds_caused w n None e h =
      let k = told_is w outcome.Disconnected h in
      named (Then (Does w (OfTopic n Find))) outcome.Disconnected k.1 (inr (inr (OfTopic n Find, did w (OfTopic n Find) k.0, e)))
  finds_caused w n (Some t) e h =
      let k = told_is w (outcome.GotLink t.seen.link) h in
      named (Then (Does w (OfTopic n Find))) (outcome.GotLink t.seen.link) k.1 (inr (inr (OfTopic n Find, did w (OfTopic n Find) k.0, ap link_at e)))

  done_caused : (w : Who) (action : Action) → GrantsSo news.Done action v → In (Told it) (grants w news.Done) → Cause o who u (Then (Does w action)) older
  done_caused w action is h =
      let k = told_is w (outcome.Granted news.Done) h in named (Then (Does w action)) (outcome.Granted news.Done) k.1 (inl (action, did w action k.0, is))

  settled_caused : (w : Who) (n : ℕ) (b : Bool) → is_settled_at (v.producers.topics n) ≡ b → In (Told it) (says_to w (cond b (grants_it news.Done) None)) →
      Cause o who u (Then (Does w (OfTopic n Flush))) older
  settled_caused w n true e h = done_caused w (OfTopic n Flush) e h
  settled_caused w n false e h = absurd h

  -- WHAT ONE ASKS OF CONSUMERS

  word_said : (w : Who) (action : Action) (x : Word) → (who ≡ w → SaysSo who x action v) → In (Told it) (tells_word w x) →
      Cause o who u (Then (Does w action)) older
  word_said w action x so h =
      let k = told_is w (outcome.Word x) h in named (Then (Does w action)) (outcome.Word x) k.1 (inl (action, did w action k.0, so k.0))

  numbering_caused : (w : Who) (wanted : Option ℕ) (x : Numbering) → consumer.numbering v.consumers wanted ≡ x → In (Told it) (tells w (numbering_said x)) →
      Cause o who u (Then (Does w (TakeNumber wanted))) older
  numbering_caused w wanted (Has n) e h = word_said w (TakeNumber wanted) (word.Numbered n) (λ is. e) h
  numbering_caused w wanted InUse e h = word_said w (TakeNumber wanted) word.InUse (λ is. e) h
  numbering_caused w wanted Spent e h =
      let k = told_is w (outcome.Refused Exhausted) h in
      named (Then (Does w (TakeNumber wanted))) (outcome.Refused Exhausted) k.1 (inr (TakeNumber wanted, did w (TakeNumber wanted) k.0, e))

  found_for : (b : Bool) (k : Option ℕ) (l : ℕ) → consumer.sought_for b k ≡ Found l → k ≡ Some l
  found_for b (Some j) l e = cc
  found_for true None l e = absurd cc
  found_for false None l e = absurd cc

  found_link : (row : Option Member) (l : ℕ) → consumer.sought row ≡ Found l → consumer.link_at row ≡ Some l
  found_link None l e = absurd cc
  found_link (Some m) l e = found_for (reader.is_ended m.seen) (reader.link_of m.seen) l e

  sought_caused : (w : Who) (t : ℕ) (x : LinkAnswer) → consumer.sought (v.consumers.rows t) ≡ x → In (Told it) (says_to w (sought_said x)) →
      Cause o who u (Then (Does w (OfConsumer (FindConsumer t)))) older
  sought_caused w t (Found l) e h =
      let k = told_is w (outcome.GotLink l) h in
      named (Then (Does w (OfConsumer (FindConsumer t)))) (outcome.GotLink l) k.1
      (inr (inr (OfConsumer (FindConsumer t), did w (OfConsumer (FindConsumer t)) k.0, found_link (v.consumers.rows t) l e)))
  sought_caused w t Gone e h = word_said w (OfConsumer (FindConsumer t)) word.Closed (λ is. e) h
  sought_caused w t Later e h = absurd h

  flow_caused : (w : Who) (x : Option (ℕ × ℕ)) → consumer.flow_at (v.consumers.rows (ticket_of w)) ≡ x → In (Told it) (tells_word w (flow_said x)) →
      Cause o who u (Then (Does w (OfConsumer TakeFlow))) older
  flow_caused w None e h =
      word_said w (OfConsumer TakeFlow) word.NoFlow (λ is. subst (λ y. consumer.flow_at (v.consumers.rows (ticket_of y)) ≡ None) (sym is) e) h
  flow_caused w (Some x) e h =
      word_said w (OfConsumer TakeFlow) (word.Flow x.0 x.1)
      (λ is. subst (λ y. consumer.flow_at (v.consumers.rows (ticket_of y)) ≡ Some (x.0, x.1)) (sym is) e) h

  command_caused : (w : Who) (row : Option Member) → v.consumers.rows (ticket_of w) ≡ row → In (Told it) (tells w (recalled_said (consumer.recalled row))) →
      Cause o who u (Then (Does w (OfConsumer RecallConsumer))) older
  command_caused w None e h =
      let k = told_is w outcome.Disconnected h in
      named (Then (Does w (OfConsumer RecallConsumer))) outcome.Disconnected k.1
      (inr (inr ((OfConsumer RecallConsumer), did w (OfConsumer RecallConsumer) k.0, subst (λ y. v.consumers.rows (ticket_of y) ≡ None) (sym k.0) e)))
  command_caused w (Some m) e h =
      word_said w (OfConsumer RecallConsumer) (word.Recalled (command_of m.seen))
      (λ is. subst (λ y. consumer.recalled (v.consumers.rows (ticket_of y)) ≡ Some (command_of m.seen)) (sym is) (ap consumer.recalled e)) h

  revive_caused : (w : Who) (l : ℕ) (b : Bool) → consumer.is_ended_at (v.consumers.rows (ticket_of w)) ≡ b → In (Told it) (tells_word w (revived_said b)) →
      Cause o who u (Then (Does w (OfConsumer (Revive l)))) older
  revive_caused w l true e h =
      word_said w (OfConsumer (Revive l)) word.Over (λ is. subst (λ y. consumer.is_ended_at (v.consumers.rows (ticket_of y)) ≡ true) (sym is) e) h
  revive_caused w l false e h =
      word_said w (OfConsumer (Revive l)) word.Lives (λ is. subst (λ y. consumer.is_ended_at (v.consumers.rows (ticket_of y)) ≡ false) (sym is) e) h

  once_caused : (b : Act) → In (Told it) (at_once v b) → Cause o who u (Then b) older
  once_caused (Does w (Get p)) h = gets_caused w p (is_reachable p) refl h
  once_caused (Does w (Ask l request)) h =
      let k = told_is w (told_at (answer_at v.now request (v.links.live l))) h in asks_so w l request (answer_at v.now request (v.links.live l)) refl k.0 k.1
  once_caused (Does w StopAll) h = stops_caused w h
  once_caused (Does w (OfTopic n TakeTurn)) h = takes_caused w n (v.producers.topics n) refl h
  once_caused (Does w (OfTopic n Draw)) h = draws_caused w n (room_of v n) refl h
  once_caused (Does w (OfTopic n Recall)) h = recalls_caused w n (recalled v.producers n) refl h
  once_caused (Does w Number) h = numbers_caused w (number_drawn v.producers) refl h
  once_caused (Does w (OfTopic n Find)) h = finds_caused w n (v.producers.topics n) refl h
  once_caused (Does w (OfTopic n Flush)) h = settled_caused w n (is_settled_at (v.producers.topics n)) refl h
  once_caused (Does w (OfTopic n TakeBatch)) h =
      let y : Outcome = outcome.Granted (news.HasBatch (next_batch_at (v.producers.topics n))) in
      let k = told_is w y h in
      named (Then (Does w (OfTopic n TakeBatch))) y k.1 (inl (OfTopic n TakeBatch, did w (OfTopic n TakeBatch) k.0, refl))
  once_caused (Does w (OfTopic n ask)) h = done_caused w (OfTopic n ask) tt h
  once_caused (Does w (TakeNumber wanted)) h = numbering_caused w wanted (consumer.numbering v.consumers wanted) refl h
  once_caused (Does w (OfConsumer (FindConsumer t))) h = sought_caused w t (consumer.sought (v.consumers.rows t)) refl h
  once_caused (Does w (OfConsumer TakeFlow)) h = flow_caused w (consumer.flow_at (v.consumers.rows (ticket_of w))) refl h
  once_caused (Does w (OfConsumer RecallConsumer)) h = command_caused w (v.consumers.rows (ticket_of w)) refl h
  once_caused (Does w (OfConsumer (Revive l))) h = revive_caused w l (consumer.is_ended_at (v.consumers.rows (ticket_of w))) refl h
  once_caused (Does w (OfConsumer (FailConsumer f))) h = word_said w (OfConsumer (FailConsumer f)) word.Over (λ is. tt) h
  once_caused (Does w (Wait delay)) h = absurd h
  once_caused (Does w Rest) h = absurd h
  once_caused (Does w action) h = done_caused w action tt h
  once_caused b h = absurd (none_told v b it refl h)

  -- ONE JOINS

  passed_caused : (w : Who) (n : ℕ) (row : Option (Taker × Option (List ℕ))) → IsRun o older → turn_passed (v.producers.topics n) ≡ row →
      In it (option_to_list (option_map (turn_notice n) row)) → Cause o who u (Then (Does w (OfTopic n PassTurn))) older
  passed_caused w n None run e h = absurd h
  passed_caused w n (Some next) run e (inr h) = absurd h
  passed_caused w n (Some next) run e (inl is) =
      let k = passes_by_ticket o n next.0 next.1 older run e in
      let a : who ≡ in_turn n k.0 = ap (λ m. m.who) is ∙ ap (who_at n) k.1 in
      let b : u ≡ outcome.Granted (news.HasTurn next.1) = ap (λ m. m.outcome) is in
      named (Then (Does w (OfTopic n PassTurn))) (outcome.Granted (news.HasTurn next.1)) b
      (inr (inl (w, n, k.0, next.1, refl, a, refl, e ∙ ap (λ t. Some (t, next.1)) k.1)))

  tells_caused : (w : Who) (n : Notice) → is_said n.outcome ≡ true → In it (n ∷ []) → Cause o who u (Then (Does w (Tell n))) older
  tells_caused w n said (inr h) = absurd h
  tells_caused w n said (inl is) =
      said_caused o who u (Then (Does w (Tell n))) older (ap (λ m. is_said m.outcome) is ∙ said) (w, inl (ap (λ m. Then (Does w (Tell m))) (sym is)))

  all_caused : (w : Who) (ns : List Notice) → Each (λ n. is_settling n.outcome ≡ true) ns → In it ns → Cause o who u (Then (Does w (TellAll ns))) older
  all_caused w ns k h =
      settling_caused o who u (Then (Does w (TellAll ns))) older (in_each (λ n. is_settling n.outcome ≡ true) it ns h k) (w, inr (ns, refl, h))

  -- a batch is cut, and none was under way
  readied_so : (n : ℕ) (act : topic.Act) (e : Entry) → CutsSo o n act e older → (b : Bool) → is_woken act (v.producers.topics n) ≡ b →
      In it (cond b (ready_notice n ∷ []) []) → Cause o who u e older
  readied_so n act e cuts true w (inl is) =
      named e (outcome.Granted news.Ready) (ap (λ m. m.outcome) is) (inr (inr (inl (n, act, ap (λ m. m.who) is, refl, w, cuts))))
  readied_so n act e cuts true w (inr h) = absurd h
  readied_so n act e cuts false w h = absurd h

  readied_caused : (n : ℕ) (act : topic.Act) (e : Entry) → CutsSo o n act e older → In it (readied n act (v.producers.topics n)) → Cause o who u e older
  readied_caused n act e cuts h = readied_so n act e cuts (is_woken act (v.producers.topics n)) refl h

  -- a producer is closed, with what it stores
  shut_caused : (w : Who) (t : ℕ) → In it (map closed_notice (stored_by v.producers (numbers_at (v.producers.built t)))) →
      Cause o who u (Then (Does w (Shut t))) older
  shut_caused w t h =
      let ns : List ℕ = numbers_at (v.producers.built t) in
      let k = in_map closed_notice it (stored_by v.producers ns) h in
      let at = in_flat (λ n. stored_at (v.producers.topics n)) k.0 ns k.1 in
      let so : Outcome = outcome.Settled (Err (OfProducer ProducerClosed)) in
      named (Then (Does w (Shut t))) so (ap (λ m. m.outcome) k.2)
      (inr (w, t, at.0, k.0, refl, ap (λ m. m.who) k.2, at.1, at.2, refl))

  -- OF ONE'S OWN CONSUMER

  -- it is told this word
  record IsWorded (t : ℕ) (m : Member) (w : Option Word) : Type 0 where
    word : Word
    is_some : w ≡ Some word
    who_is : who ≡ consumer.who_of t m
    told : u ≡ outcome.Word word

  worded_in : (t : ℕ) (m : Member) (w : Option Word) → In it (word_to t m w) → IsWorded t m w
  worded_in t m None h = absurd h
  worded_in t m (Some x) (inl e) = record { word = x; is_some = refl; who_is = ap (λ n. n.who) e; told = ap (λ n. n.outcome) e }
  worded_in t m (Some x) (inr h) = absurd h

  due_if : (b : Bool) (x : Word) → consumer.word_if b word.Due ≡ Some x → (b ≡ true) × (x ≡ word.Due)
  due_if true x e = (refl, cc)
  due_if false x e = absurd cc

  record IsDueSo (t : ℕ) (m : Member) : Type 0 where
    due : reader.is_due m.seen ≡ true
    who_is : who ≡ consumer.who_of t m
    told : u ≡ outcome.Word word.Due

  due_in : (t : ℕ) (m : Member) → In it (due_to t m) → IsDueSo t m
  due_in t m h =
      let k = worded_in t m (consumer.word_if (reader.is_due m.seen) word.Due) h in
      let d = due_if (reader.is_due m.seen) k.word k.is_some in
      record { due = d.0; who_is = k.who_is; told = k.told ∙ ap outcome.Word d.1 }

  due_there : (t : ℕ) (m : Member) → In it (due_at t (Some m)) → IsDueSo t m
  due_there t m h = elim (in_append it (due_to t m) [] h) [ inl i ↦ due_in t m i | inr i ↦ absurd i ]

  abbrev Why : Entry → Type 0
  Why e = PolledDue o who e older ⊎ (RevivedDue o who e older ⊎ BuiltDue o who e older)

  is_due_caused : (e : Entry) → u ≡ outcome.Word word.Due → Why e → Cause o who u e older
  is_due_caused e d k = named e (outcome.Word word.Due) d (inr (inr (inr (inr (inl (refl, k))))))

  polled_caused : (t : ℕ) (row : Option Member) → v.consumers.rows t ≡ row →
      In it (due_at t (option_map (consumer.member_after (reader.Polls v.now)) row)) → Cause o who u (Then (Comes (Polls t))) older
  polled_caused t None e h = absurd h
  polled_caused t (Some m) e h =
      let k = due_there t (consumer.member_after (reader.Polls v.now) m) h in
      is_due_caused (Then (Comes (Polls t))) k.told
      (inl (t, m, refl, (e, k.who_is ∙ ap (λ n. Consumer n t) (after_number (reader.Polls v.now) m.seen)), k.due))

  closed_caused : (w : Who) (l : ℕ) (request : Words) → In it (over_rows (closed_at v l request) v.consumers) →
      Cause o who u (Then (Does w (Ask l request))) older
  closed_caused w l request h =
      let r = in_rows (closed_at v l request) it v.consumers h in
      let k = worded_in r.0 r.1
      (consumer.word_of_close (closed_consumer request) l (is_asked (answer_at v.now request (v.links.live l))) r.1) r.3 in
      named (Then (Does w (Ask l request))) (outcome.Word k.word) k.told
      (inr (inr (inr (inl (l, r.0, w, request, r.1, refl, (r.2, k.who_is), k.is_some)))))

  again_caused : (w : Who) (e : Entry) → ((l : ℕ) × (e ≡ Then (Does w (OfConsumer (Revive l))))) ⊎ ((f : Failure) × (e ≡ Then (Does w (OfConsumer (FailConsumer f))))) →
      In it (again_at (v.consumers.rows (ticket_of w))) → Cause o who u e older
  again_caused w e is h =
      let ws : List Who = consumer.seekers_at (v.consumers.rows (ticket_of w)) in
      let k = in_map again it ws h in
      let listed : In who ws = subst (λ x. In x ws) (sym (ap (λ n. n.who) k.2)) k.1 in
      named e (outcome.Word word.Again) (ap (λ n. n.outcome) k.2) (inr (inr (inr (inr (inr (refl, (w, listed, is)))))))

  revived_caused : (w : Who) (l : ℕ) (row : Option Member) → v.consumers.rows (ticket_of w) ≡ row →
      In it (due_at (ticket_of w) (option_map (consumer.revived l (url_at (v.links.live l))) row)) → Cause o who u (Then (Does w (OfConsumer (Revive l)))) older
  revived_caused w l None e h = absurd h
  revived_caused w l (Some m) e h =
      let k = due_there (ticket_of w) (consumer.revived l (url_at (v.links.live l)) m) h in
      is_due_caused (Then (Does w (OfConsumer (Revive l)))) k.told
      (inr (inl (l, w, m, refl, (e, k.who_is ∙ ap (λ n. Consumer n (ticket_of w)) (revived_number l (url_at (v.links.live l)) m)), k.due)))

  built_caused : (w : Who) (verdict : Verdict) (m : Makes) → verdict.makes ≡ m → In it (made_due v.links.live v.consumers.next_key w m) →
      Cause o who u (Then (Answers w verdict)) older
  built_caused w verdict (makes.Consumer j) e h =
      let k = due_in (ticket_of w) (member_on v.links.live j.link (setup_of v.consumers.next_key j)) h in
      let url : Option Parts = url_at (v.links.live j.link) in
      is_due_caused (Then (Answers w verdict)) k.told
      (inr (inr (
        w,
        j,
        verdict.said,
        ap (λ x. Then (Answers w (record { makes = x; said = verdict.said }))) e,
        k.who_is
            ∙ ap (λ n. Consumer n (ticket_of w))
            (subscribed_number j.link url (record { seen = reader.fresh (setup_of v.consumers.next_key j); seekers = [] })),
        k.due,
      )))
  built_caused w verdict makes.Nothing e h = absurd h
  built_caused w verdict makes.Client e h = absurd h
  built_caused w verdict (makes.RawConsumer l made) e h = absurd h
  built_caused w verdict (makes.Producer b) e h = absurd h

  heard_caused : (l : ℕ) → In it (heard_on v l) → Cause o who u (Then (Comes (ToLink l Reads))) older
  heard_caused l h =
      let a : Arrival = arrival_at (v.links.live l) in
      let r = in_rows (heard_at l a) it v.consumers h in
      let k = worded_in r.0 r.1 (consumer.word_of l a r.1) r.3 in
      named (Then (Comes (ToLink l Reads))) (outcome.Word k.word) k.told (inr (inl (l, r.0, r.1, refl, (r.2, k.who_is), k.is_some)))

  lost_caused : (l : ℕ) (end : End) → In it (lost_on v l end) → Cause o who u (Then (Comes (ToLink l (Ends end)))) older
  lost_caused l end h =
      let c : Option Fault = closing end v.now (v.links.live l) in
      let r = in_rows (lost_at l c) it v.consumers h in
      let k = worded_in r.0 r.1 (consumer.word_of_loss l c r.1) r.3 in
      named (Then (Comes (ToLink l (Ends end)))) (outcome.Word k.word) k.told
      (inr (inr (inl (l, r.0, end, r.1, refl, (r.2, k.who_is), k.is_some))))

  seekers_stopped : (w : Who) → In it (stopped_on v) → Cause o who u (Then (Does w StopAll)) older
  seekers_stopped w h =
      let r = in_rows stopped_seekers it v.consumers h in
      let k = in_map stopped_one it r.1.seekers r.3 in
      let listed : In who (consumer.seekers_at (v.consumers.rows r.0)) =
      subst (λ x. In who (consumer.seekers_at x)) (sym r.2) (subst (λ x. In x r.1.seekers) (sym (ap (λ n. n.who) k.2)) k.1) in
      named (Then (Does w StopAll)) outcome.Stopped (ap (λ n. n.outcome) k.2) (inl (w, refl, inr (inr (inr (inr (r.0, listed))))))

  joins_caused : (b : Act) → IsRun o (Then b ∷ older) → In it (joins v b) → Cause o who u (Then b) older
  joins_caused (Does w (OfTopic n PassTurn)) run h = passed_caused w n (turn_passed (v.producers.topics n)) run.0 refl h
  joins_caused (Does w (OfTopic n (Store entry))) run h =
      readied_caused n (topic.Stores (turn_of w) entry) (Then (Does w (OfTopic n (Store entry)))) (w, refl, refl) h
  joins_caused (Does w (OfTopic n Flush)) run h = readied_caused n (topic.Flushes (turn_of w)) (Then (Does w (OfTopic n Flush))) (w, refl, refl) h
  joins_caused (Does w (Shut t)) run h = shut_caused w t h
  joins_caused (Does w (Tell n)) run h = tells_caused w n (tell_said o older w n run) h
  joins_caused (Does w (TellAll ns)) run h = all_caused w ns (tell_settling o older w ns run) h
  joins_caused (Comes (Polls t)) run h = polled_caused t (v.consumers.rows t) refl h
  joins_caused (Does w (Ask l request)) run h = closed_caused w l request h
  joins_caused (Does w (OfConsumer (Revive l))) run h =
      let row : Option Member = v.consumers.rows (ticket_of w) in
      elim (in_append it (again_at row) (due_at (ticket_of w) (option_map (consumer.revived l (url_at (v.links.live l))) row)) h) [
        | inl i ↦ again_caused w (Then (Does w (OfConsumer (Revive l)))) (inl (l, refl)) i
        | inr i ↦ revived_caused w l row refl i
      ]
  joins_caused (Does w (OfConsumer (FailConsumer f))) run h = again_caused w (Then (Does w (OfConsumer (FailConsumer f)))) (inr (f, refl)) h
  joins_caused (Answers w verdict) run h = built_caused w verdict verdict.makes refl h
  joins_caused b run h = absurd h

  -- A MOMENT COMES, AND THE CLIENT IS STOPPED

  woken_caused : (a : Alarm) → rings v.now a v.alarms ≡ true → In it (woken v a) → Cause o who u (Then (Comes (Rings a))) older
  woken_caused (Wake w) r (inl e) =
      let same : who ≡ w = ap (λ n. n.who) e in
      named (Then (Comes (Rings (Wake w)))) outcome.Woken (ap (λ n. n.outcome) e)
      (ap (λ x. Then (Comes (Rings (Wake x)))) (sym same), ap (λ x. rings v.now (Wake x) v.alarms) same ∙ r)
  woken_caused (Wake w) r (inr h) = absurd h
  woken_caused (Batch n) r h = readied_caused n topic.Cuts (Then (Comes (Rings (Batch n)))) (refl, r) h
  woken_caused (Retry l) r h = absurd h
  woken_caused (KeepAlive l) r h = absurd h
  woken_caused CheckIdle r h = absurd h

  rings_caused : (a : Alarm) (b : Bool) → rings v.now a v.alarms ≡ b → InOne (Told it) (map (map Told) (cond b (opens (woken v a)) [])) →
      Cause o who u (Then (Comes (Rings a))) older
  rings_caused a true r h = woken_caused a r (in_opened it (woken v a) h)
  rings_caused a false r h = absurd h

  abbrev stopped_all : List Notice
  stopped_all = flat_map (λ e. stopped_with v.addresses e.0) v.alarms

  abbrev waiting_all : List Notice
  waiting_all = map stopped_one (waiting v.producers)

  abbrev unsent_all : List Notice
  unsent_all = map stopped_call (unsent v.producers)

  abbrev all_waits : List Notice
  all_waits = waiting_all ++ unsent_all

  waits_stopped : (w : Who) → In it waiting_all → Cause o who u (Then (Does w StopAll)) older
  waits_stopped w i =
      let k = in_map stopped_one it (waiting v.producers) i in
      let at = in_flat (λ n. waiting_at n (v.producers.topics n)) k.0 v.producers.numbers k.1 in
      let same : who ≡ k.0 = ap (λ m. m.who) k.2 in
      let listed : In who (waiting_at at.0 (v.producers.topics at.0)) = subst (λ x. In x (waiting_at at.0 (v.producers.topics at.0))) (sym same) at.2 in
      named (Then (Does w StopAll)) outcome.Stopped (ap (λ m. m.outcome) k.2) (inl (w, refl, inr (inr (inl (at.0, listed)))))

  unsent_stopped : (w : Who) → In it unsent_all → Cause o who u (Then (Does w StopAll)) older
  unsent_stopped w i =
      let k = in_map stopped_call it (unsent v.producers) i in
      let at = in_flat (λ n. unsent_at (v.producers.topics n)) k.0 v.producers.numbers k.1 in
      named (Then (Does w StopAll)) outcome.Stopped (ap (λ m. m.outcome) k.2) (inl (w, refl, inr (inr (inr (inl (at.0, k.0, ap (λ m. m.who) k.2, at.2))))))

  all_stopped : (w : Who) → In it (stopped_all ++ all_waits) → Cause o who u (Then (Does w StopAll)) older
  all_stopped w h = elim (in_append it stopped_all all_waits h) [
    | inl i ↦
        (let a = in_flat (λ e. stopped_with v.addresses e.0) it v.alarms i in
        let is : u ≡ outcome.Stopped = stopped_by it v.addresses a.0.0 a.2 in
        named (Then (Does w StopAll)) outcome.Stopped is (inl (w, refl, inr (inl (subst (λ y. In (notice who y) stopped_all) is i)))))
    | inr i ↦ elim (in_append it waiting_all unsent_all i) [ inl j ↦ waits_stopped w j | inr j ↦ unsent_stopped w j ]
  ]

  module _ (l : ℕ) where
    -- A FRAME IS READ

    abbrev reads : Entry
    reads = Then (Comes (ToLink l Reads))

    replied_caused : (seat : Seat) (c : Came) → v.links.live l ≡ Some seat → came seat.seen ≡ c → In it (answered_by c seat.askers) → Cause o who u reads older
    replied_caused seat (session.Settles places m) a c h =
        let k = in_askers (λ place. outcome.Replied (read m)) seat.askers places it h in
        named reads (outcome.Replied (read m)) k.told (l, seat, places, m, k.place, refl, a, c, k.listed, k.asker, refl)
    replied_caused seat _ a c h = absurd h

    answered_caused : (row : Option Seat) → v.links.live l ≡ row → In it (answered_on row) → Cause o who u reads older
    answered_caused None a h = absurd h
    answered_caused (Some seat) a h = replied_caused seat (came seat.seen) a refl h

    ready_in : (ws : List Who) → In it (map (λ w. notice w (outcome.GotLink l)) ws) → In who ws × (u ≡ outcome.GotLink l)
    ready_in [] h = absurd h
    ready_in (w ∷ ws) (inl e) = (inl (ap (λ n. n.who) e), ap (λ n. n.outcome) e)
    ready_in (w ∷ ws) (inr h) = let k = ready_in ws h in (inr k.0, k.1)

    served_caused : (seat : Seat) (a : Arrival) → v.links.live l ≡ Some seat → arrival seat.seen ≡ a →
        In it (served_by l (change_in a) (base_of v seat.address).waiting) → Cause o who u reads older
    served_caused seat Readied e c h =
        let k = ready_in (base_of v seat.address).waiting h in named reads (outcome.GotLink l) k.1 (inr (inl (seat, refl, e, c, k.0)))
    served_caused seat _ e c h = absurd h

    waited_caused : (row : Option Seat) → v.links.live l ≡ row →
        In it (waiters_of served_on v.addresses (option_map (turned_by v.chosen v.addresses v.now l Reads) row)) → Cause o who u reads older
    waited_caused None e h = absurd h
    waited_caused (Some seat) e h = served_caused seat (arrival seat.seen) e refl h

    reads_caused : InOne (Told it) (map (map Told) (caused v l Reads)) → Cause o who u reads older
    reads_caused h =
        let row : Option Seat = v.links.live l in
        let rest : List Notice = waiters_of served_on v.addresses (option_map (turned_by v.chosen v.addresses v.now l Reads) row) in
        elim (in_append it (answered_on row ++ rest) (heard_on v l) (in_opened it ((answered_on row ++ rest) ++ heard_on v l) h)) [
          | inl both ↦ elim (in_append it (answered_on row) rest both) [
            | inl i ↦ answered_caused row refl i
            | inr i ↦ waited_caused row refl i
          ]
          | inr i ↦ heard_caused l i
        ]

    -- FRAMES MOVE UP

    moved_caused : (most : ℕ) (row : Option Seat) → v.links.live l ≡ row → In it (moved_on most v.now row) →
        Cause o who u (Then (Comes (ToLink l (Drains most)))) older
    moved_caused most None a h = absurd h
    moved_caused most (Some seat) a h =
        let k = in_askers (λ place. outcome.Queued) seat.askers (new_places seat.seen (links.after (Drains most) v.now seat.seen)) it h in
        named (Then (Comes (ToLink l (Drains most)))) outcome.Queued k.told (inr (l, most, k.place, seat, refl, a, k.listed, k.asker))

    -- THE LINK ENDS

    module _ (end : End) where
      abbrev ends_there : Entry
      ends_there = Then (Comes (ToLink l (Ends end)))

      module _ (cause : Fault) (seat : Seat) (a : v.links.live l ≡ Some seat) (c : closed_by end v.now seat.seen ≡ Some cause) where
        -- a request ends
        request_ends : (y : Outcome) → IsAsker (lost end v.now seat.seen) seat.askers (ends seat.seen) it → u ≡ y → RequestEnds o who y ends_there older
        request_ends y k is = (l, end, cause, seat, refl, a, c, (k.place, k.listed, k.asker, sym is ∙ k.told ∙ lost_same end v.now seat.seen k.place))

        request_caused : IsAsker (lost end v.now seat.seen) seat.askers (ends seat.seen) it → Cause o who u ends_there older
        request_caused k = elim (loss_with end (times_out end v.now seat.seen k.place)) [
          | inl so ↦ named ends_there outcome.TimedOut (k.told ∙ so) (request_ends outcome.TimedOut k (k.told ∙ so))
          | inr r ↦ elim r [
            | inl so ↦ named ends_there outcome.Disconnected (k.told ∙ so) (inl (request_ends outcome.Disconnected k (k.told ∙ so)))
            | inr so ↦ named ends_there outcome.Cut (k.told ∙ so) (request_ends outcome.Cut k (k.told ∙ so))
          ]
        ]

        -- a frame in the line ends
        line_ends : (y : Outcome) → dropped end ≡ y → IsAsker (λ place. dropped end) seat.askers (line_places seat.seen) it → LineEnds o who y ends_there older
        line_ends y so k = (l, end, cause, seat, refl, a, c, (k.place, k.listed, k.asker, sym so))

        -- the last attempt of a series ends
        failed_in : (starter : Who) (ws : List Who) → In it (map (failed end starter) ws) → In who ws × (u ≡ fails_so end (is_same who starter))
        failed_in starter [] h = absurd h
        failed_in starter (w ∷ ws) (inl e) =
            let b : who ≡ w = ap (λ n. n.who) e in (inl b, ap (λ n. n.outcome) e ∙ ap (λ y. fails_so end (is_same y starter)) (sym b))
        failed_in starter (w ∷ ws) (inr h) = let k = failed_in starter ws h in (inr k.0, k.1)

        attempt_ends : (s : Series) → (base_of v seat.address).series ≡ s → (pause : Option Pause) → pause_of o.chosen end seat.address s ≡ pause →
            In it (failed_over end pause (record { series = s; waiting = (base_of v seat.address).waiting })) →
            AttemptEnds o who u ends_there older × (b : Bool) × (u ≡ fails_so end b)
        attempt_ends s q (Some p) n h = absurd h
        attempt_ends Nobody q None n h = absurd h
        attempt_ends (Serves k) q None n h = absurd h
        attempt_ends (Pauses k) q None n h = absurd h
        attempt_ends (Runs starter retries k) q None n h =
            let i = failed_in starter (base_of v seat.address).waiting h in
            ((l, end, cause, seat, refl, a, c, (starter, retries, k, q, n, i.0, i.1)), is_same who starter, i.1)

    -- which of them say so

    dropped_caused : (end : End) (cause : Fault) (seat : Seat) → v.links.live l ≡ Some seat → closed_by end v.now seat.seen ≡ Some cause →
        IsAsker (λ place. dropped end) seat.askers (line_places seat.seen) it → Cause o who u (Then (Comes (ToLink l (Ends end)))) older
    dropped_caused Stops cause seat a c k = named (ends_there Stops) outcome.Stopped k.told (inr (inl (line_ends Stops cause seat a c outcome.Stopped refl k)))
    dropped_caused end cause seat a c k =
        named (ends_there end) outcome.Disconnected k.told (inr (inl (line_ends end cause seat a c outcome.Disconnected refl k)))

    failed_caused : (e : Entry) (kind : IoKind) (b : Bool) → u ≡ failed_so kind b → AttemptEnds o who u e older → Cause o who u e older
    failed_caused e kind true d k = named e (outcome.Failed kind) d (subst (λ y. AttemptEnds o who y e older) d k)
    failed_caused e kind false d k = named e outcome.Canceled d (subst (λ y. AttemptEnds o who y e older) d k)

    attempt_caused : (e : Entry) (end : End) (b : Bool) → u ≡ fails_so end b → AttemptEnds o who u e older → Cause o who u e older
    attempt_caused e (Unopened kind) b d k = failed_caused e kind b d k
    attempt_caused e Lost b d k = failed_caused e io_kind.Other b d k
    attempt_caused e (Overdue below) b d k = failed_caused e io_kind.TimedOut b d k
    attempt_caused e (Broken cause) b d k = failed_caused e io_kind.Other b d k
    attempt_caused e Idles b d k = failed_caused e io_kind.Other b d k
    attempt_caused e Stops b d k = named e outcome.Stopped d (inr (inr (inl (subst (λ y. AttemptEnds o who y e older) d k))))

    -- those who wait for its address, and those who asked on it
    over_caused : (end : End) (seat : Seat) (r : Option Fault) → v.links.live l ≡ Some seat → closed_by end v.now seat.seen ≡ r →
        In it (failed_by end (change_at r) (pause_for v.chosen (Ends end) (change_at r) seat.address (base_of v seat.address).series)
        (base_of v seat.address)) →
        Cause o who u (Then (Comes (ToLink l (Ends end)))) older
    over_caused end seat None a c h = absurd h
    over_caused end seat (Some cause) a c h =
        let pause : Option Pause = pause_of v.chosen end seat.address (base_of v seat.address).series in
        let is : pause_of o.chosen end seat.address (base_of v seat.address).series ≡ pause =
        ap (λ x. pause_of x end seat.address (base_of v seat.address).series) (sym (chosen_same o older)) in
        let k = attempt_ends end cause seat a c (base_of v seat.address).series refl pause is h in
        attempt_caused (Then (Comes (ToLink l (Ends end)))) end k.1 k.2 k.0

    asked_caused : (end : End) (seat : Seat) (r : Option Fault) → v.links.live l ≡ Some seat → closed_by end v.now seat.seen ≡ r →
        In it (ended_by end v.now r seat) → Cause o who u (Then (Comes (ToLink l (Ends end)))) older
    asked_caused end seat None a c h = absurd h
    asked_caused end seat (Some cause) a c h =
        let requests : List Notice = filter_map (tells_asker (lost end v.now seat.seen) seat.askers) (ends seat.seen) in
        let line : List Notice = filter_map (tells_asker (λ place. dropped end) seat.askers) (line_places seat.seen) in
        elim (in_append it requests line h) [
          | inl j ↦ request_caused end cause seat a c (in_askers (lost end v.now seat.seen) seat.askers (ends seat.seen) it j)
          | inr j ↦ dropped_caused end cause seat a c (in_askers (λ place. dropped end) seat.askers (line_places seat.seen) it j)
        ]

    ends_caused : (end : End) (row : Option Seat) → v.links.live l ≡ row →
        In it (ended_on end v.now row ++ waiters_of (failed_on end) v.addresses (option_map (turned_by v.chosen v.addresses v.now l (Ends end)) row)) →
        Cause o who u (Then (Comes (ToLink l (Ends end)))) older
    ends_caused end None a h = absurd h
    ends_caused end (Some seat) a h =
        let asked : List Notice = ended_by end v.now (closed_by end v.now seat.seen) seat in
        let waiters : List Notice = failed_on end (turned_by v.chosen v.addresses v.now l (Ends end) seat) (base_of v seat.address) in
        elim (in_append it asked waiters h) [
          | inl i ↦ asked_caused end seat (closed_by end v.now seat.seen) a refl i
          | inr i ↦ over_caused end seat (closed_by end v.now seat.seen) a refl i
        ]

  cause_caused : (b : Act) → InOne (Told it) (map (map Told) (causes v b)) → Cause o who u (Then b) older
  cause_caused (Comes (ToLink l Reads)) h = reads_caused l h
  cause_caused (Comes (ToLink l (Drains most))) h = moved_caused l most (v.links.live l) refl (in_alone it (moved_on most v.now (v.links.live l)) h)
  cause_caused (Comes (ToLink l (Ends end))) h =
      let waiters : List Notice = waiters_of (failed_on end) v.addresses (option_map (turned_by v.chosen v.addresses v.now l (Ends end)) (v.links.live l)) in
      let asked : List Notice = ended_on end v.now (v.links.live l) ++ waiters in
      elim (in_append it asked (lost_on v l end) (in_opened it (asked ++ lost_on v l end) h)) [
        | inl i ↦ ends_caused l end (v.links.live l) refl i
        | inr i ↦ lost_caused l end i
      ]
  cause_caused (Comes (Rings a)) h = rings_caused a (rings v.now a v.alarms) refl h
  cause_caused (Does w StopAll) h =
      elim (in_append it (stopped_all ++ all_waits) (stopped_on v) (in_opened it ((stopped_all ++ all_waits) ++ stopped_on v) h)) [
        | inl i ↦ all_stopped w i
        | inr i ↦ seekers_stopped w i
      ]
  cause_caused _ h = absurd h

  pub is_caused : (e : Entry) → IsRun o (e ∷ older) → Arises rules o (Told it) e older → Cause o who u e older
  is_caused (Begins e) run h = absurd (mute_told it (parts o v e) h)
  is_caused (Then b) run (inl h) = once_caused b h
  is_caused (Then b) run (inr (inl h)) = joins_caused b run (in_told it (joins v b) h)
  is_caused (Then b) run (inr (inr (inl h))) = cause_caused b h
  is_caused (Then b) run (inr (inr (inr h))) = absurd (mute_told it (further v b) h)

pub outcomes_are_caused_lem : OutcomesAreCaused
outcomes_are_caused_lem o log who u run =
    let told : Act = Told (record { who = who; outcome = u }) in
    step_map o (Arises rules o told) (Cause o who u) (λ e older run h. is_caused o who u older e run h) log run.0
    (acts_arise_lem _ _ _ _ _ _ _ rules o told log run)
