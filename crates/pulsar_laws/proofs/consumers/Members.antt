-- What acts leave of the consumers: which keep the rows as they are, and which keep one that no subscription of it is live.
use Rattle.std.proofs.Common.{◌≡◌, ◌∙◌, sym, ap, subst, ℕ, List, [], ◌∷◌, refl, true, false, cond, ◌==◌, Option, Some, None, inl, inr}
use Rattle.std.proofs.lemmas.Bool.{cases_Bool, eqb-true}
use Rattle.std.specs.List.{flat_map}
use Rattle.std.specs.Option.{option_map, option_to_list, is_some}
use Rattle.pulsar_laws.proofs.ActWords.{Act, Answers, Arrival, Ask, Call, Comes, Consumer, ConsumerAsk, Does, End, Ends, FailConsumer, FindConsumer, Notice, OfConsumer, Polls, Producer, Reads, RecallConsumer, Revive, StopAll, TakeFlow, ticket_of, ToLink, Verdict, Who}
use Rattle.pulsar_laws.proofs.RunWords.{begun_same, consumers_after, Each, each_append, each_flat, each_when, In, rules, View}
use Rattle.pulsar_laws.proofs.LinkWords.{answer_at, arrival_at, closed_consumer, closing, Fault, is_asked, is_body, Reply, url_at, Words}
use Rattle.pulsar_consumer.specs.Topic as reader
use Rattle.pulsar_consumer.specs.Topic.{Act as Act', Hears, Loses, Live, Seen, first_of, gives, is_due, is_on, lives_on, first_due, counts_first, ends as reader_ends, loses as reader_loses, Ends as Over}
use Rattle.pulsar_consumer.specs.Frames.{frame_in}
use Rattle.pulsar_incoming.specs.declared.polled.Ending.{Ending}
use Rattle.pulsar_incoming.specs.declared.polled.Ending.TheVariants.{LinkLost, TopicEnded}
use Rattle.pulsar_consumer.proofs.Checking.{same_after}
use Rattle.pulsar_consumer.proofs.Histories.{counted_same}
use Rattle.pulsar_consumer.proofs.Permits.{gives_dead}
use Rattle.pulsar_calls.specs.declared.act.Arrival.TheVariants as arrivals
use Rattle.pulsar_calls.specs.declared.act.Word.TheVariants as word
use Rattle.pulsar_consumer_table.specs.Consumers as consumer
use Rattle.pulsar_consumer_table.specs.Consumers.{Arrives, ClientStops, CloseAsked, Consumers, Deed, FlowTaken, IsPolled, IsSought, LinkEnds, Member, NotRevived, Revived, at_row, ends_on, hears, hears_frame, loses_by, member_after, member_by, over_rows}
use Rattle.pulsar_consumer_table.specs.Notices.{due_at, due_to, lost_at, word_to}
use Rattle.pulsar_consumer_table.specs.Asks.{ticket_asked}
use Rattle.pulsar_acts.specs.Things.{members}
use Rattle.pulsar_acts.specs.View.{consumer_asked, member_acts, member_born, member_made, member_of}
use Rattle.pulsar_run.specs.Things.{Keeps, along, row_after, row_by}
use Rattle.url.specs.Parts.{Parts}
use Rattle.pulsar_laws.proofs.Lists.{in_append}
use Rattle.pulsar_laws.proofs.Cases.{cond_so}

-- what a verdict makes of a row
abbrev pub row_made : Option Member → Who → (ticket : ℕ) → Option Member → Option Member
row_made made who t row = row_after member_by (member_of made who t) false [] row

-- WHAT BECOMES OF ONE: it is what is seen of the acts, as `Things` of pulsar_run says

pub members_keep : Keeps rules members
members_keep = record {
  none = λ o t. refl;
  begins = λ e v t. begun_same (λ w. w.consumers.rows t) e v refl;
  then_so = λ a v t. refl;
}

-- it joins with the verdict of its call
pub record Joins (v : View) (a : Act) (t : ℕ) (m : Member) : Type 0 where
  pub verdict : Verdict
  pub is_act : a ≡ Answers (Call t) verdict
  pub makes : member_made v.links.live v.consumers.next_key verdict.makes ≡ Some m

pub born_joins : (v : View) (a : Act) (t : ℕ) (m : Member) → member_born v t a ≡ Some m → Joins v a t m
born_joins v (Answers who verdict) t m h = by (member_made v.links.live v.consumers.next_key verdict.makes) refl who h
  where
    by : (r : Option Member) → member_made v.links.live v.consumers.next_key verdict.makes ≡ r → (who : Who) → member_of r who t ≡ Some m →
        Joins v (Answers who verdict) t m
    by None e who k = absurd cc
    by (Some n) e (Call u) k = elim (cases_Bool (t == u)) [
      | inl q ↦
          (let is : Some n ≡ Some m = rw q at k in
          record { verdict = verdict; is_act = ap (λ x. Answers (Call x) verdict) (sym (eqb-true t u q)); makes = e ∙ is })
      | inr q ↦ (let is : None ≡ Some m = rw q at k in absurd cc)
    ]
    by (Some n) e (Consumer j u) k = absurd cc
    by (Some n) e (Producer j) k = absurd cc
born_joins v a t m h = absurd cc

-- WHAT WAS DONE TO ONE, AND BY WHICH ACT

abbrev pub CameFrom : View → (ticket : ℕ) → Act → Deed → Type 0
CameFrom v t a (Arrives l x) = (a ≡ Comes (ToLink l Reads)) × (x ≡ arrival_at (v.links.live l))
CameFrom v t a (LinkEnds l c) = (end : End) × (a ≡ Comes (ToLink l (Ends end))) × (c ≡ closing end v.now (v.links.live l))
CameFrom v t a (CloseAsked closed l b) =
    (who : Who) × (request : Words) × (a ≡ Does who (Ask l request)) × (closed ≡ closed_consumer request)
    × (b ≡ is_asked (answer_at v.now request (v.links.live l)))
CameFrom v t a (IsPolled clock) = (a ≡ Comes (Polls t)) × (clock ≡ v.now)
CameFrom v t a (IsSought who) = a ≡ Does who (OfConsumer (FindConsumer t))
CameFrom v t a FlowTaken = (who : Who) × (a ≡ Does who (OfConsumer TakeFlow)) × (t ≡ ticket_of who)
CameFrom v t a (Revived l url) = (who : Who) × (a ≡ Does who (OfConsumer (Revive l))) × (t ≡ ticket_of who) × (url ≡ url_at (v.links.live l))
CameFrom v t a (NotRevived f) = (who : Who) × (a ≡ Does who (OfConsumer (FailConsumer f))) × (t ≡ ticket_of who)
CameFrom v t a ClientStops = (who : Who) × (a ≡ Does who StopAll)

ask_came : (v : View) (who : Who) (t : ℕ) (ask : ConsumerAsk) → t ≡ ticket_asked who ask →
    Each (CameFrom v t (Does who (OfConsumer ask))) (consumer_asked v who ask).acts
ask_came v who t (FindConsumer u) e = (ap (λ x. Does who (OfConsumer (FindConsumer x))) (sym e), tt)
ask_came v who t TakeFlow e = ((who, refl, e), tt)
ask_came v who t RecallConsumer e = tt
ask_came v who t (Revive l) e = ((who, refl, e, refl), tt)
ask_came v who t (FailConsumer f) e = ((who, refl, e), tt)

pub came_from : (v : View) (t : ℕ) (a : Act) → Each (CameFrom v t a) (member_acts v t a)
came_from v t (Comes (ToLink l Reads)) = ((refl, refl), tt)
came_from v t (Comes (ToLink l (Ends end))) = ((end, refl, refl), tt)
came_from v t (Comes (Polls u)) =
    each_when (CameFrom v t (Comes (Polls u))) (t == u) (IsPolled v.now ∷ []) []
    (λ e. ((ap (λ x. Comes (Polls x)) (sym (eqb-true t u e)), refl), tt)) (λ e. tt)
came_from v t (Does who (Ask l request)) = ((who, request, refl, refl, refl), tt)
came_from v t (Does who (OfConsumer ask)) =
    each_when (CameFrom v t (Does who (OfConsumer ask))) (t == ticket_asked who ask) (consumer_asked v who ask).acts []
    (λ e. ask_came v who t ask (eqb-true t (ticket_asked who ask) e)) (λ e. tt)
came_from v t (Does who StopAll) = ((who, refl), tt)
came_from v t _ = tt

-- so what is so of a row at its birth, and stays so by each act, is so after an act
pub after_holds : (P : Option Member → Type 0) (v : View) (t : ℕ) (a : Act) → ((m : Member) → Joins v a t m → P (Some m)) →
    ((d : Deed) → CameFrom v t a d → (m : Member) → P (Some m) → P (Some (member_by d m))) → P (v.consumers.rows t) →
    P ((consumers_after v a).rows t)
after_holds P v t a born more h = by (member_born v t a) (born_joins v a t)
  where
    along_holds : (es : List Deed) → Each (CameFrom v t a) es → (m : Member) → P (Some m) → P (Some (along member_by es m))
    along_holds [] c m k = k
    along_holds (d ∷ es) c m k = more d c.0 (along member_by es m) (along_holds es c.1 m k)

    row_holds : (es : List Deed) → Each (CameFrom v t a) es → (row : Option Member) → P row → P (row_by member_by es row)
    row_holds [] c row k = k
    row_holds (d ∷ es) c None k = k
    row_holds (d ∷ es) c (Some m) k = along_holds (d ∷ es) c m k

    by : (b : Option Member) → ((m : Member) → b ≡ Some m → Joins v a t m) →
        P (row_after member_by b false (member_acts v t a) (v.consumers.rows t))
    by (Some m) j = born m (j m refl)
    by None j = row_holds (member_acts v t a) (came_from v t a) (v.consumers.rows t) h

-- WHAT A ROW GIVES

-- whatever each consumer gives that is there
pub there_each : {A : Type 0} (P : A → Type 0) (f : ℕ → Member → List A) (cs : Consumers) →
    ((t : ℕ) (m : Member) → cs.rows t ≡ Some m → Each P (f t m)) → Each P (over_rows f cs)
there_each P f cs h = each_flat P (at_row f cs.rows) cs.tickets (λ t. one t (cs.rows t) refl)
  where
    one : (t : ℕ) (row : Option Member) → cs.rows t ≡ row → Each P (flat_map (f t) (option_to_list row))
    one t None e = tt
    one t (Some m) e = each_append P (f t m) [] (h t m e) tt

-- NO SUBSCRIPTION OF IT IS LIVE

abbrev pub IsGone : Member → Type 0
IsGone m = m.seen.engine.live ≡ None

abbrev pub Gone : Option Member → Type 0
Gone None = Unit {0}
Gone (Some m) = IsGone m

pub gone_map : (f : Member → Member) (row : Option Member) → ((m : Member) → IsGone m → IsGone (f m)) → Gone row → Gone (option_map f row)
gone_map f None h k = tt
gone_map f (Some m) h k = h m k

pub not_on : (link : ℕ) (l : Option Live) → l ≡ None → is_on link (option_map (λ x. x.link) l) ≡ false
not_on link None none = refl
not_on link (Some l) none = absurd cc

-- what an act makes of one of which none is live, where that needs one

pub lost_gone : (v : Seen) → (reader_loses v).engine.live ≡ None
lost_gone v = elim v.is_raw as (λ b. (cond b (reader_ends LinkLost v) (record v { engine = record v.engine { live = None } })).engine.live ≡ None)
    [ true ↦ refl | false ↦ refl ]

hears_gone_at : (l : ℕ) (r : Reply) (m : Member) → IsGone m → IsGone (member_after (Hears l (frame_in r)) m)
hears_gone_at l r m k =
    let off : lives_on l m.seen ≡ false = not_on l m.seen.engine.live k in
    ap (λ b. (cond b (reader.heard (frame_in r) m.seen) m.seen).engine.live) off ∙ k

loses_gone_at : (l : ℕ) (m : Member) → IsGone m → IsGone (member_after (Loses l) m)
loses_gone_at l m k = cond_so (λ z. z.engine.live ≡ None) (lives_on l m.seen) (reader_loses m.seen) m.seen (lost_gone m.seen) k

ends_gone_at : (l : ℕ) (why : Ending) (m : Member) → IsGone m → IsGone (ends_on l why m)
ends_gone_at l why m k =
    elim (lives_on l m.seen) as (λ b. (cond b (member_after (Over why) m) m).seen.engine.live ≡ None) [ true ↦ refl | false ↦ k ]

frame_gone : (l : ℕ) (r : Reply) (m : Member) → IsGone m → IsGone (hears_frame l r m)
frame_gone l r m k =
    cond_so IsGone (is_body 9 r.content.body) (member_after (Hears l (frame_in r)) m) _ (hears_gone_at l r m k)
    (cond_so IsGone (is_body 27 r.content.body) (ends_on l TopicEnded m) _ (ends_gone_at l TopicEnded m k)
    (cond_so IsGone (is_body 16 r.content.body) (member_after (Loses l) m) m (loses_gone_at l m k) k))

pub heard_gone : (l : ℕ) (a : Arrival) (m : Member) → IsGone m → IsGone (hears l a m)
heard_gone l (arrivals.Gives n r) m k = cond_so IsGone (m.seen.number == n) (hears_frame l r m) m (frame_gone l r m k) k
heard_gone l _ m k = k

pub loss_gone : (l : ℕ) (cause : Option Fault) (m : Member) → IsGone m → IsGone (loses_by l cause m)
loss_gone l None m k = k
loss_gone l (Some cause) m k = loses_gone_at l m k

pub poll_gone : (clock : ℕ) (m : Member) → IsGone m → IsGone (member_after (reader.Polls clock) m)
poll_gone clock m k =
    ap (λ e. e.live) (counted_same (first_of m.seen.engine.unread) clock (record m.seen { engine = gives (reader.clocked clock m.seen.engine) })).0
    ∙ gives_dead (reader.clocked clock m.seen.engine) k

-- it is told of no loss, and no flow of it is due
pub no_loss : (P : Notice → Type 0) (l : ℕ) (cause : Option Fault) (t : ℕ) (m : Member) → IsGone m → Each P (lost_at l cause t m)
no_loss P l None t m k = tt
no_loss P l (Some cause) t m k =
    let off : lives_on l m.seen ≡ false = not_on l m.seen.engine.live k in
    rw off tt

pub no_due : (P : Notice → Type 0) (t : ℕ) (row : Option Member) → Gone row → Each P (due_at t row)
no_due P t None k = tt
no_due P t (Some m) k =
    let off : is_due m.seen ≡ false = ap (λ l. is_some (first_due l)) k in
    each_append P (due_to t m) [] (ap_none off) tt
  where
    ap_none : is_due m.seen ≡ false → Each P (due_to t m)
    ap_none off = subst (λ b. Each P (word_to t m (consumer.word_if b word.Due))) (sym off) tt

-- ITS NUMBER stays

pub after_number : (act : Act') (s : Seen) → (reader.after act s).number ≡ s.number
after_number act s = ap (λ x. x.number) (same_after act s)

pub subscribed_number : (l : ℕ) (url : Option Parts) (m : Member) → (consumer.subscribed_on l url m).seen.number ≡ m.seen.number
subscribed_number l None m = refl
subscribed_number l (Some url) m = after_number (reader.Lives l url) m.seen

pub revived_number : (l : ℕ) (url : Option Parts) (m : Member) → (consumer.revived l url m).seen.number ≡ m.seen.number
revived_number l url m = subscribed_number l url m

-- WHAT IS IN WHAT ALL GIVE

in_tickets : {A : Type 0} (f : ℕ → Member → List A) (y : A) (cs : Consumers) (ts : List ℕ) → In y (flat_map (at_row f cs.rows) ts) →
    (t : ℕ) × In y (at_row f cs.rows t)
in_tickets f y cs [] i = absurd i
in_tickets f y cs (t ∷ ts) i = elim (in_append y (at_row f cs.rows t) (flat_map (at_row f cs.rows) ts) i) [
  | inl j ↦ (t, j)
  | inr j ↦ in_tickets f y cs ts j
]

pub in_rows : {A : Type 0} (f : ℕ → Member → List A) (y : A) (cs : Consumers) → In y (over_rows f cs) →
    (t : ℕ) × (m : Member) × (cs.rows t ≡ Some m) × In y (f t m)
in_rows {A} f y cs i =
    let k = in_tickets f y cs cs.tickets i in
    one k.0 (cs.rows k.0) refl k.1
  where
    one : (t : ℕ) (row : Option Member) → cs.rows t ≡ row → In y (flat_map (f t) (option_to_list row)) →
        (t : ℕ) × (m : Member) × (cs.rows t ≡ Some m) × In y (f t m)
    one t None e j = absurd j
    one t (Some m) e j = elim (in_append y (f t m) [] j) [ inl k ↦ (t, m, e, k) | inr k ↦ absurd k ]
