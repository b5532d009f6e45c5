-- Those of a batch are told what became of it, each once, and then the next batch is taken.
use Rattle.std.proofs.Common.{◌≡◌, ◌∙◌, sym, ap, refl, ℕ, zero, suc, ◌+◌, add-zero, Bool, true, false, cond, List, [], ◌∷◌, ◌++◌, map, Option, Some, None, Result, Ok, Err, arith, append-nil, append_assoc}
use Rattle.std.proofs.lemmas.List.{map-append}
use Rattle.std.specs.List.{slice_get}
use Rattle.std.specs.Option.{option_map}
use Rattle.pulsar_frame.specs.Batch.{EntryValues}
use Rattle.pulsar_messages.specs.Content.{ProducerMessageValues}
use Rattle.pulsar_wire.specs.declared.error.Reason.{Reason}
use Rattle.pulsar_wire.specs.Failures.{Fault, Failure}
use Rattle.pulsar_frame.specs.Reply.{Reply}
use Rattle.pulsar_addresses.specs.Address.{Place}
use Rattle.pulsar_searches.specs.Plans.{is_lost, look_begins, look_told, made_gets, made_told, verdict}
use Rattle.pulsar_searches.specs.declared.look.Looking.{Looking}
use Rattle.pulsar_searches.specs.declared.making.Command.{Command}
use Rattle.pulsar_searches.specs.declared.making.Making.{Making}
use Rattle.pulsar_searches.specs.declared.making.Served.{Served}
use Rattle.pulsar_searches.specs.declared.turn.Ways.{Ways}
use Rattle.pulsar_outgoing.specs.Batch.{batch_of, cut_report, entries_in, member_of, report_at, reports_from}
use Rattle.pulsar_producer.specs.Batching.{begins, cuts_off, is_sent_send, sends, sends_batch, settles, starts_with, told}
use Rattle.pulsar_producer.specs.BatchLaws.{EachHasItsPlace, EachHasItsReport, EachIsTold, HaltTellsAll, TakesWhereSettled, ToldInOrder, batching_after, given_at, given_from, joined, taken_of, ticket_in, told_by, told_from, under_way}
use Rattle.pulsar_outgoing.specs.Errors.{in_producer}
use Rattle.pulsar_producer.specs.Plans.{Sent, fault_told, in_asked, in_drawing, in_looking, in_making, in_recalling, in_remaking, in_sent, in_waiting, not_drawn, not_queued, receipt, send_begins, send_ends, send_looks, send_makes, send_recalls, send_told}
use Rattle.pulsar_outgoing.specs.Storage.{Item, SingleMessage, Flush}
use Rattle.pulsar_producer.specs.Topic.{seen, unsent_tickets}
use Rattle.pulsar_outgoing.specs.Storage.{ticket_of}
use Rattle.pulsar_outgoing.specs.declared.batch.Fate.{Fate}
use Rattle.pulsar_outgoing.specs.declared.batch.Fate.TheVariants as fate
use Rattle.pulsar_outgoing.specs.declared.batch.Member.{Member}
use Rattle.pulsar_outgoing.specs.declared.batch.Member.TheVariants as member
use Rattle.pulsar_producer.specs.declared.batching.Batching.{Batching}
use Rattle.pulsar_producer.specs.declared.batching.Batching.TheVariants.{Resting, Taking, Sending, Settling}
use Rattle.pulsar_producer.specs.declared.deed.Deed.TheVariants as deed
use Rattle.pulsar_producer.specs.News.{News}
use Rattle.pulsar_outgoing.specs.declared.news.News.TheVariants.{Told, Queued, InLine, HasTurn, Drew, Recalled, Numbered, Ready, HasBatch, Done}
use Rattle.pulsar_outgoing.specs.declared.orders.Errand.{Errand}
use Rattle.pulsar_producer.specs.declared.sending.Sending.{Sending as Send}
use Rattle.pulsar_producer.specs.declared.sending.Sending.TheVariants as send
use Rattle.pulsar_producer.proofs.Cutting.{batches_in_order, items_in_order, joined_append, joined_one}
use Rattle.pulsar_searches.specs.declared.transition.Transition.TheVariants.{Stays, Gives}
use Rattle.pulsar_searches.specs.Transitions.{SearchTransition}

-- EACH HAS ITS REPORT

report_ticket : (i n : ℕ) (f : Fate) (m : Member) → (report_at i n f m).ticket ≡ ticket_in m
report_ticket i n f (member.Message ticket) = refl
report_ticket i n f (member.Flush ticket) = refl

tickets_from : (i n : ℕ) (f : Fate) (ms : List Member) → map (λ r. r.ticket) (reports_from i n f ms) ≡ map ticket_in ms
tickets_from i n f [] = refl
tickets_from i n f (m ∷ ms) =
    ap (λ t. t ∷ map (λ r. r.ticket) (reports_from (i + 1) n f ms)) (report_ticket i n f m) ∙ ap (λ ts. ticket_in m ∷ ts) (tickets_from (i + 1) n f ms)

pub each_has_its_report : EachHasItsReport
each_has_its_report n f ms = tickets_from 0 n f ms

place_from : (j n i : ℕ) (f : Fate) (ms : List Member) → slice_get (reports_from j n f ms) i ≡ option_map (report_at (j + i) n f) (slice_get ms i)
place_from j n i f [] = refl
place_from j n zero f (m ∷ ms) = ap (λ k. Some (report_at k n f m)) (sym (add-zero j))
place_from j n (suc i) f (m ∷ ms) =
    let e : (j + 1) + i ≡ j + suc i = omega arith in
    place_from (j + 1) n i f ms ∙ ap (λ k. option_map (report_at k n f) (slice_get ms i)) e

pub each_has_its_place : EachHasItsPlace
each_has_its_place n i f ms = let e : 0 + i ≡ i = omega arith in place_from 0 n i f ms ∙ ap (λ k. option_map (report_at k n f) (slice_get ms i)) e

-- A SEND TELLS NONE

-- a step of a send takes no batch, and tells none
abbrev Silent : Sent → Type 0
Silent (Stays s d) = (told_by d ≡ []) × ((number : ℕ) → d ≡ deed.TakesBatch number → ⊥)
Silent (Gives a) = Unit {0}

ends_silent : (e : Errand) (f : Failure) → Silent (send_ends e f)
ends_silent e f = (refl, λ number is. cc)

not_drawn_silent : (e : Errand) (m : ProducerMessageValues) (f : Fault) → Silent (not_drawn e m f)
not_drawn_silent e m f = by (is_lost f)
  where
    by : (b : Bool) → Silent (cond b (send_recalls e m) (send_ends e (in_producer f)))
    by true = (refl, λ number is. cc)
    by false = (refl, λ number is. cc)

not_queued_silent : (e : Errand) (kept : Option ProducerMessageValues) (f : Fault) → Silent (not_queued e kept f)
not_queued_silent e None f = ends_silent e (in_producer f)
not_queued_silent e (Some m) f = not_drawn_silent e m f

receipt_silent : (r : Result Reply Fault) → Silent (receipt r)
receipt_silent (Ok r) = tt
receipt_silent (Err f) = tt

makes_silent : (e : Errand) (m : ProducerMessageValues) (c : Command) (t : SearchTransition Making (Result Served Failure)) → Silent (send_makes e m c t)
makes_silent e m c (Stays k action) = (refl, λ number is. cc)
makes_silent e m c (Gives (Ok served)) = (refl, λ number is. cc)
makes_silent e m c (Gives (Err f)) = ends_silent e f

looks_silent : (e : Errand) (m : ProducerMessageValues) (c : Command) (t : SearchTransition Looking (Result Place Failure)) → Silent (send_looks e m c t)
looks_silent e m c (Stays l action) = (refl, λ number is. cc)
looks_silent e m c (Gives (Ok place)) = makes_silent e m c (made_gets 0 place)
looks_silent e m c (Gives (Err f)) = ends_silent e f

waiting_silent : (e : Errand) (m : ProducerMessageValues) (n : News) → Silent (in_waiting e m n)
waiting_silent e m (HasTurn version) = (refl, λ number is. cc)
waiting_silent e m _ = tt

drawing_silent : (e : Errand) (m : ProducerMessageValues) (n : News) → Silent (in_drawing e m n)
drawing_silent e m (Drew d) = (refl, λ number is. cc)
drawing_silent e m (Told o) = not_drawn_silent e m (fault_told (Told o))
drawing_silent e m Queued = not_drawn_silent e m (fault_told Queued)
drawing_silent e m InLine = not_drawn_silent e m (fault_told InLine)
drawing_silent e m (HasTurn version) = not_drawn_silent e m (fault_told (HasTurn version))
drawing_silent e m (Recalled c) = not_drawn_silent e m (fault_told (Recalled c))
drawing_silent e m (Numbered number) = not_drawn_silent e m (fault_told (Numbered number))
drawing_silent e m Ready = not_drawn_silent e m (fault_told Ready)
drawing_silent e m (HasBatch items) = not_drawn_silent e m (fault_told (HasBatch items))
drawing_silent e m Done = not_drawn_silent e m (fault_told Done)

asked_silent : (e : Errand) (kept : Option ProducerMessageValues) (n : News) → Silent (in_asked e kept n)
asked_silent e kept Queued = (refl, λ number is. cc)
asked_silent e kept InLine = (refl, λ number is. cc)
asked_silent e kept (Told o) = not_queued_silent e kept (fault_told (Told o))
asked_silent e kept (HasTurn version) = not_queued_silent e kept (fault_told (HasTurn version))
asked_silent e kept (Drew d) = not_queued_silent e kept (fault_told (Drew d))
asked_silent e kept (Recalled c) = not_queued_silent e kept (fault_told (Recalled c))
asked_silent e kept (Numbered number) = not_queued_silent e kept (fault_told (Numbered number))
asked_silent e kept Ready = not_queued_silent e kept (fault_told Ready)
asked_silent e kept (HasBatch items) = not_queued_silent e kept (fault_told (HasBatch items))
asked_silent e kept Done = not_queued_silent e kept (fault_told Done)

sent_silent : (n : News) → Silent (in_sent n)
sent_silent (Told o) = receipt_silent (verdict 7 o)
sent_silent _ = (refl, λ number is. cc)

recalling_silent : (w : Ways) (e : Errand) (m : ProducerMessageValues) (n : News) → Silent (in_recalling w e m n)
recalling_silent w e m (Recalled c) = looks_silent e m c (look_begins w)
recalling_silent w e m _ = (refl, λ number is. cc)

looking_silent : (w : Ways) (e : Errand) (m : ProducerMessageValues) (c : Command) (l : Looking) (n : News) → Silent (in_looking w e m c l n)
looking_silent w e m c l (Told o) = looks_silent e m c (look_told w c.topic l o)
looking_silent w e m c l _ = (refl, λ number is. cc)

making_silent : (w : Ways) (e : Errand) (m : ProducerMessageValues) (c : Command) (k : Making) (n : News) → Silent (in_making w e m c k n)
making_silent w e m c k (Told o) = makes_silent e m c (made_told w c k o)
making_silent w e m c k _ = (refl, λ number is. cc)

remaking_silent : (e : Errand) (m : ProducerMessageValues) (n : News) → Silent (in_remaking e m n)
remaking_silent e m Done = (refl, λ number is. cc)
remaking_silent e m _ = (refl, λ number is. cc)

send_silent : (w : Ways) (e : Errand) (s : Send) (n : News) → Silent (send_told w e s n)
send_silent w e (send.Waiting m) n = waiting_silent e m n
send_silent w e (send.Drawing m) n = drawing_silent e m n
send_silent w e (send.Asked kept) n = asked_silent e kept n
send_silent w e send.Sent n = sent_silent n
send_silent w e (send.Recalling m) n = recalling_silent w e m n
send_silent w e (send.Looking m c l) n = looking_silent w e m c l n
send_silent w e (send.Making m c k) n = making_silent w e m c k n
send_silent w e (send.Remaking m) n = remaking_silent e m n
send_silent w e (send.Ending f) n = tt

-- EACH IS TOLD

settles_step : (ms : List Member) (n : ℕ) (f : Fate) → map ticket_in ms ≡ told_by (settles ms n f).deed ++ under_way (settles ms n f).state
settles_step ms n f = sym (append-nil _ ∙ each_has_its_report n f ms)

sends_step : (ms : List Member) (count : ℕ) (step : Sent) → Silent step →
    map ticket_in ms ≡ told_by (sends ms count step).deed ++ under_way (sends ms count step).state
sends_step ms count (Stays s d) q = ap (λ ts. ts ++ map ticket_in ms) (sym q.0)
sends_step ms count (Gives (Ok reply)) q = settles_step ms count _
sends_step ms count (Gives (Err f)) q = settles_step ms count _

batch_step : (e : Errand) (ms : List Member) (count : ℕ) (r : Result ProducerMessageValues Reason) →
    map ticket_in ms ≡ told_by (sends_batch e ms count r).deed ++ under_way (sends_batch e ms count r).state
batch_step e ms count (Ok m) = sends_step ms count (send_begins e m) (refl, λ number is. cc)
batch_step e ms count (Err r) = settles_step ms count _

starts_step : (e : Errand) (ms : List Member) (es : List EntryValues) →
    map ticket_in ms ≡ told_by (starts_with e ms es).deed ++ under_way (starts_with e ms es).state
starts_step e ms [] = settles_step ms 0 fate.Flushed
starts_step e ms (x ∷ xs) = batch_step e ms _ (batch_of (x ∷ xs))

members_tickets : (xs : List Item) → map ticket_of xs ≡ map ticket_in (map member_of xs)
members_tickets [] = refl
members_tickets (SingleMessage t e ∷ xs) = ap (λ ts. t ∷ ts) (members_tickets xs)
members_tickets (Flush t ∷ xs) = ap (λ ts. t ∷ ts) (members_tickets xs)

told_step : (w : Ways) (e : Errand) (state : Batching) (n : News) →
    under_way state ++ map ticket_of (joined (given_at state n)) ≡ told_by (told w e state n).deed ++ under_way (told w e state n).state
told_step w e Resting Ready = refl
told_step w e Resting _ = refl
told_step w e Taking (HasBatch (Some items)) =
    ap (map ticket_of) (joined_one items) ∙ members_tickets items ∙ starts_step e (map member_of items) (entries_in items)
told_step w e Taking (HasBatch None) = refl
told_step w e Taking _ = refl
told_step w e (Sending ms count s) n = append-nil (map ticket_in ms) ∙ sends_step ms count (send_told w e s n) (send_silent w e s n)
told_step w e Settling n = refl

pub each_is_told : EachIsTold
each_is_told w e state [] = append-nil (under_way state)
each_is_told w e state (n ∷ ns) =
    let g = told w e state n in
    let now = map ticket_of (joined (given_at state n)) in
    let later = map ticket_of (joined (given_from w e g.state ns)) in
    ap (λ ts. under_way state ++ ts) (ap (map ticket_of) (joined_append (given_at state n) (given_from w e g.state ns)) ∙ map-append ticket_of (joined (given_at state n)) (joined (given_from w e g.state ns)))
    ∙ sym (append_assoc (under_way state) now later)
    ∙ ap (λ ts. ts ++ later) (told_step w e state n)
    ∙ append_assoc (told_by g.deed) (under_way g.state) later
    ∙ ap (λ ts. told_by g.deed ++ ts) (each_is_told w e g.state ns)
    ∙ sym (append_assoc (told_by g.deed) (told_from w e g.state ns) (under_way (batching_after w e g.state ns)))

-- THE STOP

cut_ticket : (m : Member) → (cut_report m).ticket ≡ ticket_in m
cut_ticket (member.Message ticket) = refl
cut_ticket (member.Flush ticket) = refl

cut_tickets : (ms : List Member) → map (λ r. r.ticket) (map cut_report ms) ≡ map ticket_in ms
cut_tickets [] = refl
cut_tickets (m ∷ ms) = ap (λ t. t ∷ map (λ r. r.ticket) (map cut_report ms)) (cut_ticket m) ∙ ap (λ ts. ticket_in m ∷ ts) (cut_tickets ms)

halt_step : (is_sent : Bool) (ms : List Member) (count : ℕ) →
    (told_by (cuts_off is_sent ms count).deed ≡ map ticket_in ms) × (under_way (cuts_off is_sent ms count).state ≡ [])
halt_step true ms count = (cut_tickets ms, refl)
halt_step false ms count = (each_has_its_report count fate.Halted ms, refl)

pub halt_tells_all : HaltTellsAll
halt_tells_all Resting = (refl, refl)
halt_tells_all Taking = (refl, refl)
halt_tells_all (Sending ms count s) = halt_step (is_sent_send s) ms count
halt_tells_all Settling = (refl, refl)

-- THE NEXT BATCH

sends_not_next : (ms : List Member) (count : ℕ) (step : Sent) → Silent step → (number : ℕ) → (sends ms count step).deed ≡ deed.TakesBatch number → ⊥
sends_not_next ms count (Stays s d) q number is = q.1 number is
sends_not_next ms count (Gives (Ok reply)) q number is = cc
sends_not_next ms count (Gives (Err f)) q number is = cc

pub takes_where_settled : TakesWhereSettled
takes_where_settled w e Resting n number is = refl
takes_where_settled w e Taking n number is = refl
takes_where_settled w e (Sending ms count s) n number is = absurd (sends_not_next ms count (send_told w e s n) (send_silent w e s n) number is)
takes_where_settled w e Settling n number is = refl

-- IN ORDER

pub told_in_order : ToldInOrder
told_in_order w e ns s h given =
    let v = seen s h in
    let there = joined (taken_of s h) in
    let waits = joined v.cut ++ v.storage.items in
    ap (map ticket_of) (items_in_order s h ∙ ap (λ bs. joined bs ++ v.storage.items) (batches_in_order s h)
    ∙ ap (λ xs. xs ++ v.storage.items) (joined_append (taken_of s h) v.cut) ∙ append_assoc there (joined v.cut) v.storage.items)
    ∙ map-append ticket_of there waits
    ∙ ap (λ ts. ts ++ unsent_tickets v) (ap (λ bs. map ticket_of (joined bs)) (sym given) ∙ each_is_told w e begins.state ns)
    ∙ append_assoc (told_from w e begins.state ns) (under_way (batching_after w e begins.state ns)) (unsent_tickets v)
