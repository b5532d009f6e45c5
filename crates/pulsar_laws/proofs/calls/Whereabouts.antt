-- Where one waits: for the link of an address, for what it asked for, for a moment, or for the link of a consumer. What others do leaves it there,
-- or takes it from there.
use Rattle.std.proofs.Common.{◌≡◌, ◌+◌, ◌≤◌, ap, arith, inl, inr, ◌∙◌, sym, subst, ℕ, List, [], ◌∷◌, refl, Bool, true, false, cond, not, Option, Some, None, ◌++◌, ◌==◌, ◌&&◌}
use Rattle.std.proofs.lemmas.Bool.{cases_Bool}
use Rattle.std.specs.BTreeMap.{insert_entry}
use Rattle.std.specs.Map.{lookup}
use Rattle.std.specs.Option.{option_map}
use Rattle.std.specs.Ordering.{match_ordering}
use Rattle.std.specs.declared.cmp.Ordering.{Ordering}
use Rattle.std.specs.declared.cmp.Ordering.TheVariants.{Less, Equal, Greater}
use Rattle.pulsar_laws.proofs.ActWords.{Act, Action, Alarm, Answers, Arrival, Ask, Batch, CheckIdle, Comes, Dials, Does, FindConsumer, Flush, Get, Heard, is_same, KeepAlive, Makes, OfTopic, Retry, Rings, Shut, StopAll, Store, ToLink, turn_of, Wait, Wake, Who, OfConsumer}
use Rattle.pulsar_laws.proofs.RunWords.{after, begun, Chosen, consumers_after, Each, In, setup_of, turned, Turned, View, begun_same}
use Rattle.pulsar_laws.proofs.LinkWords.{Base, Becomes, Change, Fault, is_body, IsOver, Nobody, Pause, Pauses, Remains, Reply, rings, Runs, Seat, Series, Serves, url_at, Words}
use Rattle.pulsar_producer.specs.Topic as topic
use Rattle.pulsar_producer.specs.Topic.{Act as TopicAct}
use Rattle.pulsar_producer_table.specs.declared.table.Topic.{Topic}
use Rattle.pulsar_links.specs.Alarms.{alarm_cmp, clear, is_same_alarm, moment_of, set}
use Rattle.pulsar_laws.proofs.Lists.{in_append}
use Rattle.pulsar_laws.proofs.Cases.{cond_so, none_some, some_is}
use Rattle.pulsar_producer_table.specs.Producers.{is_bare, numbers_at, timeout_at, topic_after}
use Rattle.pulsar_acts.specs.View.{alarms_after, alarms_on, alarms_on_topic, alarms_over, alarms_rung, alarms_turned, alarms_waiting, base_after, base_on, clear_all, waits_for, waits_from, waits_on, member_made}
use Rattle.pulsar_links.specs.Seats.{asker_at, base_turned, nobody}
use Rattle.pulsar_links.proofs.Ringing.{is_this}
use Rattle.pulsar_laws.proofs.calls.Same.{same_self, same_who}
use Rattle.pulsar_laws.proofs.producers.Turns.{sum, sum_append}
use Rattle.pulsar_calls.specs.declared.act.Arrival.TheVariants as arrivals
use Rattle.pulsar_calls.specs.declared.act.Makes.TheVariants as makes
use Rattle.url.specs.Parts.{Parts}
use Rattle.pulsar_consumer.specs.Frames.{frame_in}
use Rattle.pulsar_consumer.specs.Topic as reader
use Rattle.pulsar_incoming.specs.declared.polled.Ending.TheVariants.{Closed, TopicEnded}
use Rattle.pulsar_consumer_table.specs.Consumers as consumer
use Rattle.pulsar_consumer_table.specs.Consumers.{Arrives, ClientStops, CloseAsked, Deed, FlowTaken, IsPolled, IsSought, LinkEnds, Member, NotRevived, Revived, member_by}
use Rattle.pulsar_consumer_table.specs.declared.row.LinkAnswer.{LinkAnswer}
use Rattle.pulsar_consumer_table.specs.declared.row.LinkAnswer.TheVariants.{Found, Gone, Later}
use Rattle.pulsar_laws.proofs.consumers.Members.{CameFrom, after_holds}
use Rattle.pulsar_links.specs.Asks as of_link
use Rattle.pulsar_laws.proofs.links.Rows as rows

-- what brings one somewhere
abbrev pub goes_nowhere : Action → Bool
goes_nowhere (Get p) = false
goes_nowhere (Ask l request) = false
goes_nowhere (Wait delay) = false
goes_nowhere (OfConsumer (FindConsumer t)) = false
goes_nowhere _ = true

module _ (me : Who) where
  -- it does nothing of the kind
  abbrev pub ApartBy : Act → Type 0
  ApartBy (Does who a) = is_same me who ≡ true → goes_nowhere a ≡ true
  ApartBy _ = Unit {0}

  other_apart : (who : Who) (a : Action) → ApartBy (Does who a) → goes_nowhere a ≡ false → me ≡ who → ⊥
  other_apart who a apart not same =
      let f : false ≡ true = sym not ∙ apart (subst (λ w. is_same me w ≡ true) same (same_self me)) in
      absurd cc

  -- how often it is among these
  abbrev pub times : List Who → ℕ
  times ws = sum (λ w. cond (is_same me w) 1 0) ws

  pub not_among : (ws : List Who) → times ws ≤ 0 → In me ws → ⊥
  not_among (w ∷ ws) h (inl e) =
      let one : ◌≡◌ {A = ℕ} (cond (is_same me w) 1 0) 1 = ap (λ x. cond (is_same me x) 1 0) (sym e) ∙ ap (λ b. cond b 1 0) (same_self me) in
      absurd (omega (arith, h, one))
  not_among (w ∷ ws) h (inr i) = not_among ws (omega (arith, h)) i
  not_among [] h i = i

  -- IT IS AMONG THESE so often at most
  module _ (most : ℕ) where
    abbrev pub Within : List Who → Type 0
    Within ws = times ws ≤ most

    -- addresses
    turned_absent : (l : ℕ) (c : Change) (pause : Option Pause) (b : Base) → Within b.waiting → Within (base_turned l c pause b).waiting
    turned_absent l Remains pause b h = h
    turned_absent l Becomes pause b h = omega arith
    turned_absent l IsOver None b h = omega arith
    turned_absent l IsOver (Some p) b h = h

    on_absent : (r : Option Turned) (key : List ℕ) (b : Base) → Within b.waiting → Within (base_on r key b).waiting
    on_absent None key b h = h
    on_absent (Some x) key b h = cond_so (λ z. Within z.waiting) _ (base_turned x.link x.change x.pause b) b (turned_absent x.link x.change x.pause b h) h

    end_absent : (who : Who) (ws : List Who) → (me ≡ who → ⊥) → Within ws → Within (ws ++ who ∷ [])
    end_absent who ws other h =
        let a : times (ws ++ who ∷ []) ≡ times ws + times (who ∷ []) = sum_append (λ w. cond (is_same me w) 1 0) ws (who ∷ []) in
        let z : times (who ∷ []) ≡ 0 = elim (cases_Bool (is_same me who)) [
          | inl e ↦ absurd (other (same_who me who e))
          | inr e ↦ ap (λ c. cond c 1 0 + 0) e
        ] in
        omega (arith, a, z, h)

    waits_absent : (s : Series) (who : Who) (ws : List Who) → (me ≡ who → ⊥) → Within ws → Within (waits_for s who ws)
    waits_absent Nobody who ws other h = end_absent who ws other h
    waits_absent (Runs starter retries l) who ws other h = end_absent who ws other h
    waits_absent (Pauses l) who ws other h = end_absent who ws other h
    waits_absent (Serves l) who ws other h = h

    base_absent : (v : View) (a : Act) (key : List ℕ) (b : Base) → ApartBy a → Within b.waiting → Within (base_after v a key b).waiting
    base_absent v (Comes (ToLink l x)) key b idle h = on_absent (turned v (Comes (ToLink l x))) key b h
    base_absent v (Does who (Get p)) key b idle h =
        cond_so (λ z. Within z.waiting) _ (record { series = b.series; waiting = waits_for b.series who b.waiting }) b
        (waits_absent b.series who b.waiting (other_apart who (Get p) idle refl) h) h
    base_absent v (Does who StopAll) key b idle h = cond_so (λ z. Within z.waiting) (waits_on v.addresses v.alarms key) nobody b (omega arith) h
    base_absent v (Dials p starter retries) key b idle h = cond_so (λ z. Within z.waiting) _ _ b h h
    base_absent v _ key b idle h = h

  -- IT HAS ASKED FOR A PLACE only so
  module _ (P : ℕ → Type 0) where
    abbrev pub Asker : Option Seat → Type 0
    Asker None = Unit {0}
    Asker (Some seat) = (place : ℕ) → seat.askers place ≡ Some me → P place

    left_free : {X : Type 0} (c : Bool) (r : Option Who) (w : Who) → (r ≡ Some w → X) → cond c None r ≡ Some w → X
    left_free true r w h e = absurd (none_some e)
    left_free false r w h e = h e

    at_free : (is : Bool) (who : Who) (place : Option ℕ) (askers : ℕ → Option Who) → (me ≡ who → ⊥) → ((p : ℕ) → askers p ≡ Some me → P p) →
        (p : ℕ) → asker_at is who place askers p ≡ Some me → P p
    at_free is who None askers other h p e = h p e
    at_free false who (Some place) askers other h p e = h p e
    at_free true who (Some place) askers other h p e = elim (cases_Bool (p == place)) [
      | inl q ↦ (let f : Some who ≡ Some me = rw q at e in absurd (other (let g : me ≡ who = cc in g)))
      | inr q ↦ h p (rw q at e)
    ]

    deed_free : (v : View) (l : ℕ) (a : Act) → ((request : Words) → a ≡ Does me (Ask l request) → ⊥) → (d : of_link.Deed) → rows.CameFrom v l a d →
        (seat : Seat) → Asker (Some seat) → Asker (Some (of_link.seat_by d seat))
    deed_free v l a other (of_link.IsRead now) c seat h = λ place e. left_free _ (seat.askers place) me (h place) e
    deed_free v l a other (of_link.IsAsked who now request) c seat h =
        at_free _ who _ seat.askers (λ e. other request (c.0 ∙ ap (λ w. Does w (Ask l request)) (sym e))) h
    deed_free v l a other _ c seat h = h

    pub live_absent : (v : View) (a : Act) (l : ℕ) → ((request : Words) → a ≡ Does me (Ask l request) → ⊥) → Asker (v.links.live l) →
        Asker ((after a v).links.live l)
    live_absent v a l other h =
        rows.after_holds Asker v l a
        (λ seat d place e. absurd (none_some (subst (λ (t : Seat). t.askers place ≡ Some me) (sym d.is_it) e))) (λ end. tt)
        (λ d c seat at k. deed_free v l a other d c seat k) h

  -- IT WAITS FOR A MOMENT only so
  module _ (A : Type 0) where
    abbrev pub NotWake : Alarm × ℕ → Type 0
    NotWake e = is_same_alarm (Wake me) e.0 ≡ true → A

    not_it : (x : Bool) → x ≡ false → x ≡ true → A
    not_it true n y = absurd cc
    not_it false n y = absurd cc

    set_absent : (a : Alarm) (moment : ℕ) (es : List (Alarm × ℕ)) → is_same_alarm (Wake me) a ≡ false → Each (NotWake) es →
        Each (NotWake) (set a moment es)
    set_absent a moment [] n k = (not_it (is_same_alarm (Wake me) a) n, tt)
    set_absent a moment (e ∷ es) n k = by (alarm_cmp a e.0) (set_absent a moment es n k.1)
      where
        by : (c : Ordering) → Each (NotWake) (insert_entry alarm_cmp es a moment) →
            Each (NotWake) (match_ordering c ((a, moment) ∷ e ∷ es) ((e.0, moment) ∷ es) (e ∷ insert_entry alarm_cmp es a moment))
        by Less more = (not_it (is_same_alarm (Wake me) a) n, k)
        by Equal more = (k.0, k.1)
        by Greater more = (k.0, more)

    clear_absent : (a : Alarm) (es : List (Alarm × ℕ)) → Each (NotWake) es → Each (NotWake) (clear a es)
    clear_absent a [] k = tt
    clear_absent a (e ∷ es) k = elim (not (is_same_alarm a e.0)) as (λ b. Each (NotWake) (cond b (e ∷ clear a es) (clear a es))) [
      | true ↦ (k.0, clear_absent a es k.1)
      | false ↦ clear_absent a es k.1
    ]

    other_wake : (who : Who) → (me ≡ who → ⊥) → is_same_alarm (Wake me) (Wake who) ≡ false
    other_wake who other = elim (cases_Bool (is_same_alarm (Wake me) (Wake who))) [
      | inl e ↦ absurd (other (let f : Wake me ≡ Wake who = is_this (Wake me) (Wake who) e in let g : me ≡ who = cc in g))
      | inr e ↦ e
    ]

    over_absent : (o : Chosen) (now l : ℕ) (pause : Option Pause) (es : List (Alarm × ℕ)) → Each (NotWake) es →
        Each (NotWake) (alarms_over o now l pause es)
    over_absent o now l None es k = k
    over_absent o now l (Some p) es k = set_absent (Retry l) _ es refl k

    change_absent : (o : Chosen) (now l : ℕ) (c : Change) (pause : Option Pause) (es : List (Alarm × ℕ)) → Each (NotWake) es →
        Each (NotWake) (alarms_turned o now l c pause es)
    change_absent o now l Remains pause es k = k
    change_absent o now l Becomes pause es k = set_absent (KeepAlive l) _ es refl k
    change_absent o now l IsOver pause es k = over_absent o now l pause (clear (KeepAlive l) es) (clear_absent (KeepAlive l) es k)

    alarms_on_absent : (o : Chosen) (now : ℕ) (r : Option Turned) (es : List (Alarm × ℕ)) → Each (NotWake) es → Each (NotWake) (alarms_on o now r es)
    alarms_on_absent o now None es k = k
    alarms_on_absent o now (Some x) es k = change_absent o now x.link x.change x.pause es k

    rung_absent : (o : Chosen) (now : ℕ) (a : Alarm) (es : List (Alarm × ℕ)) → Each (NotWake) es → Each (NotWake) (alarms_rung o now a es)
    rung_absent o now (Retry l) es k = clear_absent (Retry l) es k
    rung_absent o now (Wake who) es k = clear_absent (Wake who) es k
    rung_absent o now (Batch n) es k = clear_absent (Batch n) es k
    rung_absent o now (KeepAlive l) es k = set_absent (KeepAlive l) _ es refl k
    rung_absent o now CheckIdle es k = set_absent CheckIdle _ es refl k

    -- what is stored waits, or nothing is stored any longer
    from_absent : (now : ℕ) (timeout : Option ℕ) (n : ℕ) (es : List (Alarm × ℕ)) → Each (NotWake) es → Each (NotWake) (waits_from now timeout n es)
    from_absent now None n es k = k
    from_absent now (Some delay) n es k = set_absent (Batch n) _ es refl k

    waiting_absent : (now : ℕ) (timeout : Option ℕ) (n : ℕ) (was is : Bool) (es : List (Alarm × ℕ)) → Each (NotWake) es →
        Each (NotWake) (alarms_waiting now timeout n was is es)
    waiting_absent now timeout n was true es k = clear_absent (Batch n) es k
    waiting_absent now timeout n true false es k = from_absent now timeout n es k
    waiting_absent now timeout n false false es k = k

    topic_absent : (v : View) (n : ℕ) (act : TopicAct) → Each (NotWake) v.alarms → Each (NotWake) (alarms_on_topic v n act)
    topic_absent v n act k =
        let row : Option Topic = v.producers.topics n in
        waiting_absent v.now (timeout_at v.producers row) n (is_bare row) (is_bare (option_map (topic_after act) row)) v.alarms k

    all_absent : (ns : List ℕ) (es : List (Alarm × ℕ)) → Each (NotWake) es → Each (NotWake) (clear_all ns es)
    all_absent [] es k = k
    all_absent (n ∷ ns) es k = all_absent ns (clear (Batch n) es) (clear_absent (Batch n) es k)

    alarms_absent : (v : View) (a : Act) → ApartBy a → Each (NotWake) v.alarms → Each (NotWake) (alarms_after v a)
    alarms_absent v (Comes (ToLink l x)) idle k = alarms_on_absent v.chosen v.now (turned v (Comes (ToLink l x))) v.alarms k
    alarms_absent v (Comes (Rings a)) idle k =
        cond_so (Each (NotWake)) (rings v.now a v.alarms) (alarms_rung v.chosen v.now a v.alarms) v.alarms (rung_absent v.chosen v.now a v.alarms k) k
    alarms_absent v (Does who (Wait delay)) idle k =
        set_absent (Wake who) _ v.alarms (other_wake who (other_apart who (Wait delay) idle refl)) k
    alarms_absent v (Does who (OfTopic n (Store x))) idle k = topic_absent v n (topic.Stores (turn_of who) x) k
    alarms_absent v (Does who (OfTopic n Flush)) idle k = topic_absent v n (topic.Flushes (turn_of who)) k
    alarms_absent v (Does who (Shut u)) idle k = all_absent (numbers_at (v.producers.built u)) v.alarms k
    alarms_absent v (Does who StopAll) idle k = tt
    alarms_absent v (Answers who verdict) idle k = cond_so (Each (NotWake)) _ _ v.alarms (set_absent CheckIdle _ v.alarms refl k) k
    alarms_absent v _ idle k = k

  pub moment_none : (es : List (Alarm × ℕ)) → Each (NotWake ⊥) es → moment_of (Wake me) es ≡ None
  moment_none [] k = refl
  moment_none (e ∷ es) k = elim (cases_Bool (is_same_alarm (Wake me) e.0)) [
    | inl y ↦ absurd (k.0 y)
    | inr y ↦ ap (λ b. cond b (Some e.1) (lookup (is_same_alarm (Wake me)) es)) y ∙ moment_none es k.1
  ]

  -- IT WAITS FOR NO CONSUMER
  abbrev pub Away : List Who → Type 0
  Away ws = In me ws → ⊥

  away_end : (who : Who) (ws : List Who) → (me ≡ who → ⊥) → Away ws → Away (ws ++ who ∷ [])
  away_end who ws other h i = elim (in_append me ws (who ∷ []) i) [ inl j ↦ h j | inr j ↦ last j ]
    where
      last : In me (who ∷ []) → ⊥
      last (inl e) = other e
      last (inr j) = j

  frame_seeks : (l : ℕ) (r : Reply) (m : Member) → Away m.seekers → Away (consumer.hears_frame l r m).seekers
  frame_seeks l r m h =
      cond_so (λ z. Away z.seekers) (is_body 9 r.content.body) (consumer.member_after (reader.Hears l (frame_in r)) m) _ h
      (cond_so (λ z. Away z.seekers) (is_body 27 r.content.body) (consumer.ends_on l TopicEnded m) _
      (cond_so (λ z. Away z.seekers) (reader.lives_on l m.seen) (consumer.member_after (reader.Ends TopicEnded) m) m h h)
      (cond_so (λ z. Away z.seekers) (is_body 16 r.content.body) (consumer.member_after (reader.Loses l) m) m h h))

  hears_seeks : (l : ℕ) (a : Arrival) (m : Member) → Away m.seekers → Away (consumer.hears l a m).seekers
  hears_seeks l (arrivals.Gives n r) m h = cond_so (λ z. Away z.seekers) (m.seen.number == n) (consumer.hears_frame l r m) m (frame_seeks l r m h) h
  hears_seeks l _ m h = h

  loses_seeks : (l : ℕ) (cause : Option Fault) (m : Member) → Away m.seekers → Away (consumer.loses_by l cause m).seekers
  loses_seeks l None m h = h
  loses_seeks l (Some cause) m h = h

  finds_seeks : (x : LinkAnswer) (w : Who) (m : Member) → (me ≡ w → ⊥) → Away m.seekers → Away (consumer.waits_so x w m).seekers
  finds_seeks (Found l) w m other h = h
  finds_seeks Gone w m other h = h
  finds_seeks Later w m other h = away_end w m.seekers other h

  on_seeks : (l : ℕ) (url : Option Parts) (s : reader.Seen) → Away (consumer.subscribed_on l url (record { seen = s; seekers = [] })).seekers
  on_seeks l None s i = i
  on_seeks l (Some url) s i = i

  none_seeks : Away []
  none_seeks = λ i. i

  -- nor looks for one
  abbrev pub NoFind : Act → Type 0
  NoFind (Does who (OfConsumer (FindConsumer t))) = me ≡ who → ⊥
  NoFind _ = Unit {0}

  -- one that joins has none, and no deed adds this one
  joins_seeks : (live : ℕ → Option Seat) (key : ℕ) (x : Makes) (m : Member) → member_made live key x ≡ Some m → Away m.seekers
  joins_seeks live key (makes.Consumer j) m e =
      subst (λ n. Away n.seekers) (some_is e) (on_seeks j.link (url_at (live j.link)) (reader.fresh (setup_of key j)))
  joins_seeks live key (makes.RawConsumer l made) m e =
      subst (λ n. Away n.seekers) (some_is e) (on_seeks l (url_at (live l)) (reader.fresh (reader.of_raw made)))
  joins_seeks live key makes.Nothing m e = absurd cc
  joins_seeks live key makes.Client m e = absurd cc
  joins_seeks live key (makes.Producer b) m e = absurd cc

  deed_seeks : (v : View) (a : Act) (u : ℕ) (d : Deed) → CameFrom v u a d → NoFind a → (m : Member) → Away m.seekers → Away (member_by d m).seekers
  deed_seeks v a u (Arrives l x) c idle m h = hears_seeks l x m h
  deed_seeks v a u (LinkEnds l cause) c idle m h = loses_seeks l cause m h
  deed_seeks v a u (CloseAsked closed l b) c idle m h =
      cond_so (λ z. Away z.seekers) (b && consumer.is_closed_by closed l m) (consumer.member_after (reader.Ends Closed) m) m h h
  deed_seeks v a u (IsPolled clock) c idle m h = h
  deed_seeks v a u (IsSought w) c idle m h = finds_seeks (consumer.sought (Some m)) w m (subst NoFind c idle) h
  deed_seeks v a u FlowTaken c idle m h = h
  deed_seeks v a u (Revived l url) c idle m h = none_seeks
  deed_seeks v a u (NotRevived f) c idle m h = none_seeks
  deed_seeks v a u ClientStops c idle m h = none_seeks

  pub seekers_absent : (v : View) (a : Act) (u : ℕ) → NoFind a → Away (consumer.seekers_at (v.consumers.rows u)) →
      Away (consumer.seekers_at ((consumers_after v a).rows u))
  seekers_absent v a u idle h =
      after_holds (λ row. Away (consumer.seekers_at row)) v u a (λ m j. joins_seeks v.links.live v.consumers.next_key j.verdict.makes m j.makes)
      (λ d c m k. deed_seeks v a u d c idle m k) h

  -- ALL OF THAT

  pub record Somewhere (Q : ℕ → ℕ → Type 0) (B : List ℕ → ℕ) (A : Type 0) (v : View) : Type 0 where
    pub base : (key : List ℕ) → Within (B key) (v.addresses.base key).waiting
    pub asker : (l : ℕ) → Asker (Q l) (v.links.live l)
    pub alarm : Each (NotWake A) v.alarms

  pub then_there : (Q : ℕ → ℕ → Type 0) (B : List ℕ → ℕ) (A : Type 0) (v : View) (a : Act) → ApartBy a → Somewhere Q B A v →
      Somewhere Q B A (after a v)
  then_there Q B A v a apart k = record {
    base = λ key. base_absent (B key) v a key (v.addresses.base key) apart (k.base key);
    asker = λ l. live_absent (Q l) v a l (λ request is. other_apart me (Ask l request) (subst ApartBy is apart) refl refl) (k.asker l);
    alarm = alarms_absent A v a apart k.alarm;
  }

  pub begun_there : (Q : ℕ → ℕ → Type 0) (B : List ℕ → ℕ) (A : Type 0) (v : View) (e : Heard) → Somewhere Q B A v → Somewhere Q B A (begun e v)
  begun_there Q B A v e k = record {
    base = λ key. subst (λ (b : Base). Within (B key) b.waiting) (sym (begun_same (λ w. w.addresses.base key) e v refl)) (k.base key);
    asker = λ l. rows.begun_holds (Asker (Q l)) v l e (λ piece is seat at h. h) (k.asker l);
    alarm = subst (Each (NotWake A)) (sym (begun_same (λ w. w.alarms) e v refl)) k.alarm;
  }
