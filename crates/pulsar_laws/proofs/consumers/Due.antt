-- A flow that falls due is told to the plan of its consumer.
use Rattle.std.proofs.Common.{◌≡◌, ◌⊎◌, inl, inr, ◌∙◌, sym, ap, subst, ℕ, ◌==◌, ◌&&◌, List, [], ◌∷◌, ◌++◌, refl, map, Bool, true, false, cond, nat_lt, Option, Some, None}
use Rattle.std.proofs.lemmas.Bool.{cases_Bool, eqb-true}
use Rattle.std.specs.BTreeSet.{insert_key}
use Rattle.std.specs.List.{flat_map}
use Rattle.std.specs.Option.{is_some, option_map, option_to_list}
use Rattle.std.specs.Ordering.{match_ordering, nat_cmp}
use Rattle.std.specs.declared.cmp.Ordering.TheVariants.{Less, Equal, Greater}
use Rattle.pulsar_laws.proofs.ActWords.{Act, Answers, Arrival, Ask, Asked, Call, Calls, Comes, Consumer, Does, Ends, is_same, lacks_tickets, Makes, Notice, opens, Polls, Producer, Reads, Revive, shares, StopAll, TakeNumber, ticket_of, Told, ToLink, Verdict, Who, Word, OfConsumer}
use Rattle.pulsar_laws.proofs.RunWords.{Arises, Begins, begun_same, consumers_after, Entry, In, InOne, joins, may_call, member_on, Options, rules, Then, turned, view, View}
use Rattle.pulsar_laws.proofs.LinkWords.{arrival_at, Failure, is_body, Reply, Seat, url_at}
use Rattle.url.specs.Parts.{Parts}
use Rattle.pulsar_exchange.specs.Request.{named_consumer}
use Rattle.pulsar_exchange.specs.declared.content.Subscribed.{Subscribed}
use Rattle.pulsar_consumer.specs.Frames.{failed, frame_in}
use Rattle.pulsar_consumer.specs.Topic as reader
use Rattle.pulsar_consumer.specs.Topic.{Act as Done, Lives, Hears, Loses, Fails, Ends as Over, Polls as Polled, Asks, Live, Seen, after, asked, behind, ends as reader_ends, first_due, first_in, is_due, is_ended, lives_on, loses, resubscribes}
use Rattle.pulsar_incoming.specs.declared.polled.Ending.TheVariants.{Closed, NotSubscribed, TopicEnded}
use Rattle.pulsar_calls.specs.Content as content
use Rattle.pulsar_calls.specs.declared.act.Arrival.TheVariants as arrivals
use Rattle.pulsar_calls.specs.declared.act.Outcome.TheVariants as outcome
use Rattle.pulsar_calls.specs.declared.act.Makes.TheVariants as makes
use Rattle.pulsar_calls.specs.declared.act.Word.TheVariants as word
use Rattle.pulsar_calls.specs.declared.content.Joining.{Joining}
use Rattle.pulsar_consumer_table.specs.Consumers as consumer
use Rattle.pulsar_consumer_table.specs.Consumers.{Arrives, ClientStops, CloseAsked, Consumers, Deed, FlowTaken, IsPolled, IsSought, LinkEnds, Member, NotRevived, Revived, at_row, called_on, drew, ends_on, hears, hears_frame, holds, is_closed_by, keyed, member_after, names_in, next_free, numbered, numbering, opened_on, revived, word_if, word_of, word_of_frame}
use Rattle.pulsar_consumer_table.specs.declared.numbers.Numbering.{Numbering}
use Rattle.pulsar_consumer_table.specs.declared.numbers.Numbering.TheVariants.{Has, InUse, Spent}
use Rattle.pulsar_consumer_table.specs.Notices.{again_at, due_at, due_to, heard_at, word_notice, word_to}
use Rattle.pulsar_acts.specs.Reading.{heard_on, made_due}
use Rattle.pulsar_acts.specs.Rules.{served_on, waiters_of}
use Rattle.pulsar_acts.specs.View.{consumers_left, consumers_listed, listed_as, member_made, setup_of}
use Rattle.pulsar_links.specs.LinkRules.{answered_on}
use Rattle.pulsar_laws.proofs.Cases.{none_some, some_is}
use Rattle.pulsar_laws.proofs.Lists.{in_right, into_flat}
use Rattle.pulsar_laws.proofs.consumers.Lone.{applied, applied_append, arrival_done, did_so, joins_here, none_after, subscription_done}
use Rattle.pulsar_laws.proofs.calls.Same.{same_self}
use Rattle.pulsar_laws.proofs.consumers.Members.{CameFrom, after_number, lost_gone, row_made}
use Rattle.pulsar_laws.specs.ConsumerLaws.{does_to, subscription_does}
use Rattle.pulsar_laws.proofs.consumers.Deeds.{deed_does}

-- THE TICKETS of all consumers are known

in_new : (t : ℕ) (ts : List ℕ) → In t (insert_key nat_cmp ts t)
in_new t [] = inl refl
in_new t (x ∷ xs) = by (nat_lt t x) (t == x) refl (in_new t xs)
  where
    by : (a b : Bool) → (t == x) ≡ b → In t (insert_key nat_cmp xs t) →
        In t (match_ordering (cond a Less (cond b Equal Greater)) (t ∷ x ∷ xs) (x ∷ xs) (x ∷ insert_key nat_cmp xs t))
    by true b e k = inl refl
    by false true e k = inl (eqb-true t x e)
    by false false e k = inr k

in_kept : (t u : ℕ) (ts : List ℕ) → In t ts → In t (insert_key nat_cmp ts u)
in_kept t u [] i = absurd i
in_kept t u (x ∷ xs) i = by (nat_lt u x) (u == x) i (in_kept t u xs)
  where
    by : (a b : Bool) → In t (x ∷ xs) → (In t xs → In t (insert_key nat_cmp xs u)) →
        In t (match_ordering (cond a Less (cond b Equal Greater)) (u ∷ x ∷ xs) (x ∷ xs) (x ∷ insert_key nat_cmp xs u))
    by true b i k = inr i
    by false true i k = i
    by false false (inl e) k = inl e
    by false false (inr i) k = inr (k i)

-- what remains where only numbers are taken and named: the tickets, and the key that is drawn next
abbrev pub rest_of : Consumers → List ℕ × ℕ
rest_of cs = (cs.tickets, cs.next_key)

names_rest : (number : Option ℕ) (cs : Consumers) → rest_of (names_in number cs) ≡ rest_of cs
names_rest None cs = refl
names_rest (Some number) cs = refl

opened_rest : (asked : Asked) (cs : Consumers) → rest_of (opened_on asked cs) ≡ rest_of cs
opened_rest (content.Raw l words) cs = names_rest (named_consumer words) cs
opened_rest _ cs = refl

pub called_rest : (lacks is_open : Bool) (asked : Asked) (cs : Consumers) → rest_of (cond lacks cs (called_on is_open asked cs)) ≡ rest_of cs
called_rest true is_open asked cs = refl
called_rest false true asked cs = opened_rest asked cs
called_rest false false asked cs = refl

drew_rest : (free : ℕ) (wanted : Option ℕ) (cs : Consumers) → rest_of (drew free wanted cs) ≡ rest_of cs
drew_rest free None cs = refl
drew_rest free (Some n) cs = refl

holds_rest : (t : ℕ) (x : Numbering) (cs : Consumers) → rest_of (holds t x cs) ≡ rest_of cs
holds_rest t (Has n) cs = refl
holds_rest t InUse cs = refl
holds_rest t Spent cs = refl

pub numbered_rest : (t : ℕ) (wanted : Option ℕ) (cs : Consumers) → rest_of (numbered t wanted cs) ≡ rest_of cs
numbered_rest t wanted cs = drew_rest (next_free cs) wanted (holds t (numbering cs wanted) cs) ∙ holds_rest t (numbering cs wanted) cs

pub left_rest : (who : Who) (cs : Consumers) → rest_of (consumers_left who cs) ≡ rest_of cs
left_rest (Call t) cs = refl
left_rest (Consumer n t) cs = refl
left_rest (Producer n) cs = refl

module _ (t : ℕ) where
  abbrev Has' : Consumers → Type 0
  Has' cs = In t cs.tickets

  listed_has : (who : Who) (cs : Consumers) → Has' cs → Has' (listed_as who cs)
  listed_has (Call u) cs h = in_kept t u cs.tickets h
  listed_has (Consumer n u) cs h = h
  listed_has (Producer n) cs h = h

  made_has : (who : Who) (x : Makes) (cs : Consumers) → Has' cs → Has' (consumers_listed who x cs)
  made_has who (makes.Consumer j) cs h = listed_has who (keyed cs) h
  made_has who (makes.RawConsumer l made) cs h = listed_has who cs h
  made_has who makes.Nothing cs h = h
  made_has who makes.Client cs h = h
  made_has who (makes.Producer b) cs h = h

  after_has : (v : View) (a : Act) → Has' v.consumers → Has' (consumers_after v a)
  after_has v (Comes (Calls asked advice)) h =
      subst (In t) (sym (ap (λ x. x.0) (called_rest (lacks_tickets v.calls.drawn (shares asked)) (may_call v.calls) asked v.consumers))) h
  after_has v (Does who (TakeNumber wanted)) h =
      subst (In t) (sym (ap (λ x. x.0) (numbered_rest (ticket_of who) wanted v.consumers))) h
  after_has v (Answers who verdict) h =
      subst (In t) (sym (ap (λ x. x.0) (left_rest who (consumers_listed who verdict.makes v.consumers)))) (made_has who verdict.makes v.consumers h)
  after_has v (Comes (ToLink l Reads)) h = h
  after_has v (Comes (ToLink l (Ends end))) h = h
  after_has v (Comes (Polls u)) h = h
  after_has v (Does who (Ask l request)) h = h
  after_has v (Does who (OfConsumer ask)) h = h
  after_has v (Does who StopAll) h = h
  after_has v a h = h

  -- one that joins
  joins_new : (who : Who) (m n : Member) (cs : Consumers) → row_made (Some m) who t (cs.rows t) ≡ Some n →
      (cs.rows t ≡ Some n) ⊎ Has' (listed_as who cs)
  joins_new (Call u) m n cs h = elim (cases_Bool (t == u)) [
    | inl e ↦ inr (subst (λ x. In t (insert_key nat_cmp cs.tickets x)) (eqb-true t u e) (in_new t cs.tickets))
    | inr e ↦ inl (rw e at h)
  ]
  joins_new (Consumer k u) m n cs h = inl h
  joins_new (Producer k) m n cs h = inl h

  made_new : (live : ℕ → Option Seat) (who : Who) (x : Makes) (n : Member) (cs : Consumers) →
      row_made (member_made live cs.next_key x) who t (cs.rows t) ≡ Some n → (cs.rows t ≡ Some n) ⊎ Has' (consumers_listed who x cs)
  made_new live who (makes.Consumer j) n cs h = joins_new who (member_on live j.link (setup_of cs.next_key j)) n (keyed cs) h
  made_new live who (makes.RawConsumer l made) n cs h = joins_new who (member_on live l (reader.of_raw made)) n cs h
  made_new live who makes.Nothing n cs h = inl h
  made_new live who makes.Client n cs h = inl h
  made_new live who (makes.Producer b) n cs h = inl h

  other_has : (v : View) (a : Act) → ((who : Who) (verdict : Verdict) → a ≡ Answers who verdict → is_same (Call t) who ≡ false) →
      ((m : Member) → v.consumers.rows t ≡ Some m → Has' v.consumers) → (n : Member) → (consumers_after v a).rows t ≡ Some n → Has' (consumers_after v a)
  other_has v a other k n h = by (v.consumers.rows t) refl
    where
      by : (row : Option Member) → v.consumers.rows t ≡ row → Has' (consumers_after v a)
      by None e = absurd (none_some (sym (none_after v t a other e) ∙ h))
      by (Some m) e = after_has v a (k m e)

  has_on : (v : View) (a : Act) → ((m : Member) → v.consumers.rows t ≡ Some m → Has' v.consumers) → (n : Member) →
      (consumers_after v a).rows t ≡ Some n → Has' (consumers_after v a)
  has_on v (Answers who verdict) k n h =
      elim (made_new v.links.live who verdict.makes n v.consumers h) [
        | inl e ↦ after_has v (Answers who verdict) (k n e)
        | inr e ↦ subst (In t) (sym (ap (λ x. x.0) (left_rest who (consumers_listed who verdict.makes v.consumers)))) e
      ]
  has_on v a k n h = other_has v a (λ who verdict f. absurd cc) k n h

  pub has_ticket : (o : Options) (log : List Entry) (m : Member) → (view o log).consumers.rows t ≡ Some m → In t (view o log).consumers.tickets
  has_ticket o [] m h = absurd (none_some h)
  has_ticket o (Begins e ∷ log) m h =
      let same = begun_same (λ v. v.consumers) e (view o log) refl in
      subst (λ (cs : Consumers). In t cs.tickets) (sym same) (has_ticket o log m (sym (ap (λ (cs : Consumers). cs.rows t) same) ∙ h))
  has_ticket o (Then a ∷ log) m h = has_on (view o log) a (λ n e. has_ticket o log n e) m h

-- ITS NUMBER stays

pub applied_number : (xs : List Done) (s : Seen) → (applied xs s).number ≡ s.number
applied_number [] s = refl
applied_number (x ∷ xs) s = after_number x (applied xs s) ∙ applied_number xs s

-- WHAT MAKES NO FLOW DUE

abbrev Falls : List Done → Seen → Type 0
Falls xs s = is_due (applied xs s) ≡ true → is_due s ≡ true

falls_either : (b : Bool) (xs : List Done) (s : Seen) → Falls xs s → Falls (cond b xs []) s
falls_either true xs s k h = k h
falls_either false xs s k h = h

lost_due : (v : Seen) → is_due (loses v) ≡ true → ⊥
lost_due v h = let e : is_due (loses v) ≡ false = ap (λ l. is_some (first_due l)) (lost_gone v) in let f : true ≡ false = sym h ∙ e in cc

falls_loses : (l : ℕ) (s : Seen) → Falls (Loses l ∷ []) s
falls_loses l s h = by (lives_on l s) h
  where
    by : (b : Bool) → is_due (cond b (loses s) s) ≡ true → is_due s ≡ true
    by true k = absurd (lost_due s k)
    by false k = k

falls_fails : (f : Failure) (s : Seen) → Falls (Fails f ∷ []) s
falls_fails f s h = by (is_ended s) h
  where
    by : (b : Bool) → is_due (cond b s (reader_ends NotSubscribed (record s { engine = reader.hears (failed f) s.engine }))) ≡ true → is_due s ≡ true
    by true k = k
    by false k = absurd cc

falls_asks : (s : Seen) → Falls (Asks ∷ []) s
falls_asks s h = by s.engine.live h
  where
    by_due : (d : List ℕ) → is_some (first_in (behind d)) ≡ true → is_some (first_in d) ≡ true
    by_due [] k = absurd cc
    by_due (n ∷ ns) k = refl

    by : (x : Option Live) → is_some (first_due (option_map asked x)) ≡ true → is_some (first_due x) ≡ true
    by None k = absurd cc
    by (Some l) k = by_due l.due k

-- the acts that may make one due
abbrev pub is_waker : Act → Bool
is_waker (Comes (ToLink l Reads)) = true
is_waker (Comes (Polls t)) = true
is_waker (Does who (OfConsumer (Revive l))) = true
is_waker _ = false

pub falls_due : (v : View) (t : ℕ) (m : Member) (a : Act) → is_waker a ≡ false → is_due (applied (does_to v t m a) m.seen) ≡ true → is_due m.seen ≡ true
falls_due v t m a w h = did_so Falls (λ s k. k) (λ xs ys s q p k. q (p (ap is_due (sym (applied_append xs ys s)) ∙ k))) v t a one m h
  where
    one : (d : Deed) → CameFrom v t a d → (n : Member) → Falls (deed_does d n) n.seen
    one (Arrives l x) c n k = let f : true ≡ false = sym (ap is_waker c.0) ∙ w in absurd cc
    one (LinkEnds l None) c n k = k
    one (LinkEnds l (Some cause)) c n k = falls_loses l n.seen k
    one (CloseAsked closed l b) c n k = falls_either (b && is_closed_by closed l n) (Over Closed ∷ []) n.seen (λ j. absurd cc) k
    one (IsPolled clock) c n k = let f : true ≡ false = sym (ap is_waker c.0) ∙ w in absurd cc
    one (IsSought who) c n k = k
    one FlowTaken c n k = falls_asks n.seen k
    one (Revived l url) c n k = let f : true ≡ false = sym (ap is_waker c.1) ∙ w in absurd cc
    one (NotRevived f) c n k = falls_fails f n.seen k
    one ClientStops c n k = absurd cc

-- WHERE ONE FALLS DUE its plan is told so

abbrev pub due_to_plan : (number ticket : ℕ) → Act
due_to_plan n t = Told (record { who = Consumer n t; outcome = outcome.Word word.Due })

told_in : (n : Notice) (ns : List Notice) → In n ns → In (Told n) (map Told ns)
told_in n [] i = absurd i
told_in n (x ∷ ns) (inl e) = inl (ap Told e)
told_in n (x ∷ ns) (inr i) = inr (told_in n ns i)

due_there : (t : ℕ) (m : Member) → is_due m.seen ≡ true → In (due_to_plan m.seen.number t) (map Told (due_at t (Some m)))
due_there t m h =
    let one : due_to t m ≡ word_notice t m word.Due ∷ [] = ap (λ b. word_to t m (word_if b word.Due)) h in
    subst (λ ns. In (due_to_plan m.seen.number t) (map Told (ns ++ []))) (sym one) (inl refl)

due_append : (n t : ℕ) (xs ys : List Notice) → In (due_to_plan n t) (map Told ys) → In (due_to_plan n t) (map Told (xs ++ ys))
due_append n t [] ys i = i
due_append n t (x ∷ xs) ys i = inr (due_append n t xs ys i)

opened_in : (n : Notice) (ns : List Notice) → In n ns → InOne (Told n) (map (map Told) (opens ns))
opened_in n [] i = absurd i
opened_in n (x ∷ ns) i = inl (told_in n (x ∷ ns) i)

-- a frame makes one due only with word of that
module _ (l : ℕ) (r : Reply) (m : Member) where
  ended_due : (b : Bool) → is_due (cond b (member_after (Over TopicEnded) m) m).seen ≡ true → is_due m.seen ≡ true
  ended_due true k = absurd cc
  ended_due false k = k

  abbrev heard_by : (a b c : Bool) → Member
  heard_by a b c = cond a (member_after (Hears l (frame_in r)) m) (cond b (ends_on l TopicEnded m) (cond c (member_after (Loses l) m) m))

  abbrev worded_by : (a b c : Bool) → Option Word
  worded_by a b c =
      cond a (word_if (lives_on l m.seen && is_due (heard_by a b c).seen) word.Due)
      (cond b (word_if (resubscribes l m.seen) (word.TopicEnded l)) (cond c (word_if (resubscribes l m.seen) word.Lost) None))

  message_word : (on : Bool) → lives_on l m.seen ≡ on → is_due (member_after (Hears l (frame_in r)) m).seen ≡ true →
      (word_if (lives_on l m.seen && is_due (member_after (Hears l (frame_in r)) m).seen) word.Due ≡ Some word.Due) ⊎ (is_due m.seen ≡ true)
  message_word true e h =
      inl (ap (λ b. word_if (b && is_due (member_after (Hears l (frame_in r)) m).seen) word.Due) e ∙ ap (λ b. word_if b word.Due) h)
  message_word false e h = inr (sym (ap (λ b. is_due (cond b (reader.heard (frame_in r) m.seen) m.seen)) e) ∙ h)

  frame_by : (a b c : Bool) → is_due (heard_by a b c).seen ≡ true → (worded_by a b c ≡ Some word.Due) ⊎ (is_due m.seen ≡ true)
  frame_by true b c h = message_word (lives_on l m.seen) refl h
  frame_by false true c h = inr (ended_due (lives_on l m.seen) h)
  frame_by false false true h = inr (falls_loses l m.seen h)
  frame_by false false false h = inr h

  frame_word : is_due (hears_frame l r m).seen ≡ true → (word_of_frame l r m ≡ Some word.Due) ⊎ (is_due m.seen ≡ true)
  frame_word h = frame_by (is_body 9 r.content.body) (is_body 27 r.content.body) (is_body 16 r.content.body) h

heard_word : (l : ℕ) (a : Arrival) (m : Member) → is_due (hears l a m).seen ≡ true → (word_of l a m ≡ Some word.Due) ⊎ (is_due m.seen ≡ true)
heard_word l (arrivals.Gives n r) m h = by (m.seen.number == n) h
  where
    by : (b : Bool) → is_due (cond b (hears_frame l r m) m).seen ≡ true → (cond b (word_of_frame l r m) None ≡ Some word.Due) ⊎ (is_due m.seen ≡ true)
    by true k = frame_word l r m k
    by false k = inr k
heard_word l arrivals.Nothing m h = inr h
heard_word l arrivals.Readied m h = inr h
heard_word l arrivals.Settles m h = inr h
heard_word l arrivals.Passes m h = inr h
heard_word l (arrivals.Bad cause) m h = inr h

module _ (o : Options) (log : List Entry) (t : ℕ) (m : Member) (there : (view o log).consumers.rows t ≡ Some m) where
  abbrev v : View
  v = view o log

  abbrev Rises : Act → Type 0
  Rises a = Arises rules o (due_to_plan m.seen.number t) (Then a) log ⊎ (is_due m.seen ≡ true)

  -- what is seen of its number behind an act
  renamed : (n : Member) (xs : List Notice) → n.seen.number ≡ m.seen.number → In (due_to_plan n.seen.number t) (map Told xs) →
      In (due_to_plan m.seen.number t) (map Told xs)
  renamed n xs e i = subst (λ k. In (due_to_plan k t) (map Told xs)) e i

  reads_due : (l : ℕ) → is_due (hears l (arrival_at (v.links.live l)) m).seen ≡ true → Rises (Comes (ToLink l Reads))
  reads_due l h = elim (heard_word l (arrival_at (v.links.live l)) m h) [
    | inr d ↦ inr d
    | inl w ↦
        (let a : Arrival = arrival_at (v.links.live l) in
        let one : heard_at l a t m ≡ word_notice t m word.Due ∷ [] = ap (word_to t m) w in
        let own : In (word_notice t m word.Due) (at_row (heard_at l a) v.consumers.rows t) =
        subst (λ row. In (word_notice t m word.Due) (flat_map (heard_at l a t) (option_to_list row))) (sym there)
        (subst (λ ns. In (word_notice t m word.Due) (ns ++ [])) (sym one) (inl refl)) in
        let all : In (word_notice t m word.Due) (heard_on v l) =
        into_flat (at_row (heard_at l a) v.consumers.rows) t (word_notice t m word.Due) v.consumers.tickets (has_ticket t o log m there) own in
        let front : List Notice = answered_on (v.links.live l) ++ waiters_of served_on v.addresses (turned v (Comes (ToLink l Reads))) in
        inl (inr (inr (inl (opened_in (word_notice t m word.Due) (front ++ heard_on v l) (in_right (word_notice t m word.Due) front (heard_on v l) all))))))
  ]

  polls_due : (u : ℕ) → is_due (applied (cond (t == u) (Polled v.now ∷ []) []) m.seen) ≡ true → Rises (Comes (Polls u))
  polls_due u h = elim (cases_Bool (t == u)) [
    | inr e ↦ inr (sym (ap (λ b. is_due (applied (cond b (Polled v.now ∷ []) []) m.seen)) e) ∙ h)
    | inl e ↦
        (let n : Member = member_after (Polled v.now) m in
        let d : is_due n.seen ≡ true = sym (ap (λ b. is_due (applied (cond b (Polled v.now ∷ []) []) m.seen)) e) ∙ h in
        let i : In (due_to_plan m.seen.number t) (map Told (due_at t (option_map (member_after (Polled v.now)) (v.consumers.rows t)))) =
        subst (λ row. In (due_to_plan m.seen.number t) (map Told (due_at t (option_map (member_after (Polled v.now)) row)))) (sym there)
        (renamed n (due_at t (Some n)) (after_number (Polled v.now) m.seen) (due_there t n d)) in
        inl (subst (λ x. Arises rules o (due_to_plan m.seen.number t) (Then (Comes (Polls x))) log) (eqb-true t u e) (inr (inl i))))
  ]

  pub revived_due : (who : Who) (l : ℕ) → (t == ticket_of who) ≡ true → is_due (applied (subscription_does l (url_at (v.links.live l))) m.seen) ≡ true →
      Arises rules o (due_to_plan m.seen.number t) (Then (Does who (OfConsumer (Revive l)))) log
  revived_due who l e h =
      let url : Option Parts = url_at (v.links.live l) in
      let n : Member = revived l url m in
      let i : In (due_to_plan m.seen.number t) (map Told (due_at t (Some n))) =
      renamed n (due_at t (Some n)) (seen_number url) (due_there t n (ap is_due (subscription_done l url m) ∙ h)) in
      let j : In (due_to_plan m.seen.number t) (map Told (again_at (v.consumers.rows t) ++ due_at t (option_map (revived l url) (v.consumers.rows t)))) =
      due_append m.seen.number t (again_at (v.consumers.rows t)) (due_at t (option_map (revived l url) (v.consumers.rows t)))
      (subst (λ row. In (due_to_plan m.seen.number t) (map Told (due_at t (option_map (revived l url) row)))) (sym there) i) in
      inr (inl (subst (λ x. In (due_to_plan m.seen.number t) (map Told (again_at (v.consumers.rows x) ++ due_at x (option_map (revived l url)
      (v.consumers.rows x)))))
      (eqb-true t (ticket_of who) e) j))
    where
      seen_number : (url : Option Parts) → (revived l url m).seen.number ≡ m.seen.number
      seen_number url = ap (λ (s : Seen). s.number) (subscription_done l url m) ∙ applied_number (subscription_does l url) m.seen

  revive_due : (who : Who) (l : ℕ) → is_due (applied (cond (t == ticket_of who) (subscription_does l (url_at (v.links.live l))) []) m.seen) ≡ true →
      Rises (Does who (OfConsumer (Revive l)))
  revive_due who l h = elim (cases_Bool (t == ticket_of who)) [
    | inr e ↦ inr (sym (ap (λ b. is_due (applied (cond b (subscription_does l (url_at (v.links.live l))) []) m.seen)) e) ∙ h)
    | inl e ↦ inl (revived_due who l e (sym (ap (λ b. is_due (applied (cond b (subscription_does l (url_at (v.links.live l))) []) m.seen)) e) ∙ h))
  ]

  pub rises : (a : Act) → is_waker a ≡ true → is_due (applied (does_to v t m a) m.seen) ≡ true → Rises a
  rises (Comes (ToLink l Reads)) w h = reads_due l (ap is_due (arrival_done l (arrival_at (v.links.live l)) m) ∙ h)
  rises (Comes (Polls u)) w h = polls_due u h
  rises (Does who (OfConsumer (Revive l))) w h = revive_due who l h
  rises a w h = absurd cc

-- and where a consumer is made
call_due : (v : View) (t : ℕ) (verdict : Verdict) (j : Joining) (n : Member) → verdict.makes ≡ makes.Consumer j →
    row_made (Some (member_on v.links.live j.link (setup_of v.consumers.next_key j))) (Call t) t (v.consumers.rows t) ≡ Some n → is_due n.seen ≡ true →
    In (due_to_plan n.seen.number t) (map Told (joins v (Answers (Call t) verdict)))
call_due v t verdict j n made is h =
    let it : Member = member_on v.links.live j.link (setup_of v.consumers.next_key j) in
    let same : it ≡ n = some_is (sym (joins_here (Call t) it (v.consumers.rows t) t (same_self (Call t))) ∙ is) in
    let one : due_to t n ≡ word_notice t n word.Due ∷ [] = ap (λ b. word_to t n (word_if b word.Due)) h in
    subst (λ x. In (due_to_plan n.seen.number t) (map Told (made_due v.links.live v.consumers.next_key (Call t) x))) (sym made)
    (subst (λ x. In (due_to_plan n.seen.number t) (map Told (due_to t x))) (sym same)
    (subst (λ ns. In (due_to_plan n.seen.number t) (map Told ns)) (sym one) (inl refl)))

-- a raw one asks for no flow
raw_none : (live : ℕ → Option Seat) (l : ℕ) (made : Subscribed) → is_due (member_on live l (reader.of_raw made)).seen ≡ true → ⊥
raw_none live l made h = by (url_at (live l)) h
  where
    by : (url : Option Parts) → is_due (consumer.member_of (reader.of_raw made) l url).seen ≡ true → ⊥
    by None k = cc
    by (Some u) k = cc

pub made_due_so : (v : View) (t : ℕ) (who : Who) (verdict : Verdict) (n : Member) → v.consumers.rows t ≡ None →
    (consumers_after v (Answers who verdict)).rows t ≡ Some n → is_due n.seen ≡ true →
    In (due_to_plan n.seen.number t) (map Told (joins v (Answers who verdict)))
made_due_so v t who verdict n none is h =
    by verdict.makes refl is
  where
    old : {A : Type 0} → v.consumers.rows t ≡ Some n → A
    old e = absurd (none_some (sym none ∙ e))

    joined_by : (who : Who) (j : Joining) → verdict.makes ≡ makes.Consumer j →
        row_made (Some (member_on v.links.live j.link (setup_of v.consumers.next_key j))) who t (v.consumers.rows t) ≡ Some n →
        In (due_to_plan n.seen.number t) (map Told (joins v (Answers who verdict)))
    joined_by (Call u) j made e = elim (cases_Bool (t == u)) [
      | inl same ↦
          subst (λ x. In (due_to_plan n.seen.number t) (map Told (joins v (Answers (Call x) verdict)))) (eqb-true t u same)
          (call_due v t verdict j n made
          (subst (λ x. row_made (Some (member_on v.links.live j.link (setup_of v.consumers.next_key j))) (Call x) t (v.consumers.rows t) ≡ Some n)
          (sym (eqb-true t u same)) e) h)
      | inr other ↦ old (rw other at e)
    ]
    joined_by (Consumer k u) j made e = old e
    joined_by (Producer k) j made e = old e

    raw_by : (who : Who) (l : ℕ) (made : Subscribed) → row_made (Some (member_on v.links.live l (reader.of_raw made))) who t (v.consumers.rows t) ≡ Some n →
        In (due_to_plan n.seen.number t) (map Told (joins v (Answers who verdict)))
    raw_by (Call u) l made e = elim (cases_Bool (t == u)) [
      | inl same ↦
          (let it : Some (member_on v.links.live l (reader.of_raw made)) ≡ Some n = rw same at e in
          absurd (raw_none v.links.live l made (ap (λ (x : Member). is_due x.seen) (some_is it) ∙ h)))
      | inr other ↦ old (rw other at e)
    ]
    raw_by (Consumer k u) l made e = old e
    raw_by (Producer k) l made e = old e

    by : (x : Makes) → verdict.makes ≡ x → row_made (member_made v.links.live v.consumers.next_key x) who t (v.consumers.rows t) ≡ Some n →
        In (due_to_plan n.seen.number t) (map Told (joins v (Answers who verdict)))
    by (makes.Consumer j) made e = joined_by who j made e
    by (makes.RawConsumer l made) f e = raw_by who l made e
    by makes.Nothing made e = old e
    by makes.Client made e = old e
    by (makes.Producer b) made e = old e

pub built_due : (v : View) (t : ℕ) (verdict : Verdict) (j : Joining) (n : Member) → verdict.makes ≡ makes.Consumer j →
    (consumers_after v (Answers (Call t) verdict)).rows t ≡ Some n → is_due n.seen ≡ true →
    In (due_to_plan n.seen.number t) (map Told (joins v (Answers (Call t) verdict)))
built_due v t verdict j n made is h =
    call_due v t verdict j n made
    (ap (λ x. row_made (member_made v.links.live v.consumers.next_key x) (Call t) t (v.consumers.rows t)) (sym made) ∙ is) h
