-- A send asks for its message only where it drew a number, and no more once its frame is queued.
use Rattle.std.proofs.Common.{◌≡◌, ◌∙◌, ap, refl, ℕ, Bool, true, false, cond, List, [], ◌∷◌, ◌++◌, Option, Some, None, Result, Ok, Err}
use Rattle.std.specs.List.{list_any}
use Rattle.pulsar_messages.specs.Content.{ProducerMessageValues}
use Rattle.pulsar_wire.specs.Failures.{Fault, Failure}
use Rattle.pulsar_frame.specs.Reply.{Reply}
use Rattle.pulsar_addresses.specs.Address.{Place}
use Rattle.pulsar_searches.specs.Plans.{is_lost, look_begins, look_told, made_gets, made_told, verdict}
use Rattle.pulsar_searches.specs.declared.look.Looking.{Looking}
use Rattle.pulsar_searches.specs.declared.making.Command.{Command}
use Rattle.pulsar_searches.specs.declared.making.Making.{Making}
use Rattle.pulsar_searches.specs.declared.making.Served.{Served}
use Rattle.pulsar_searches.specs.declared.turn.Ways.{Ways}
use Rattle.pulsar_outgoing.specs.Errors.{in_producer}
use Rattle.pulsar_producer.specs.Plans.{fault_told, in_asked, in_drawing, in_looking, in_making, in_recalling, in_remaking, in_sent, in_waiting, not_drawn, not_queued, receipt, send_asks, send_ends, send_looks, send_makes, send_of, send_recalls, send_told}
use Rattle.pulsar_producer.specs.Laws.{EachFrameHasItsNumber, QueuedIsNotAskedAgain, deeds_in, deeds_of, is_send, state_after, state_in}
use Rattle.pulsar_producer.specs.declared.deed.Deed.TheVariants.{Sends}
use Rattle.pulsar_outgoing.specs.declared.news.Drawn.{Drawn}
use Rattle.pulsar_producer.specs.News.{News}
use Rattle.pulsar_outgoing.specs.declared.news.News.TheVariants.{Told, Queued, InLine, HasTurn, Drew, Recalled, Numbered, Ready, HasBatch, Done}
use Rattle.pulsar_producer.specs.declared.deed.Send.{Send}
use Rattle.pulsar_outgoing.specs.declared.orders.Errand.{Errand}
use Rattle.pulsar_producer.specs.declared.sending.Sending.{Sending}
use Rattle.pulsar_producer.specs.declared.sending.Sending.TheVariants as send
use Rattle.pulsar_searches.specs.declared.transition.Transition.TheVariants as transition
use Rattle.pulsar_searches.specs.Transitions.{SearchTransition}

-- WHAT ASKS FOR NO FRAME

not_drawn_by : (e : Errand) (m : ProducerMessageValues) (f : Fault) (b : Bool) (link : ℕ) (s : Send)
    → deeds_in (cond b (send_recalls e m) (send_ends e (in_producer f))) ≡ Sends link s ∷ [] → ⊥
not_drawn_by e m f true link s is = cc
not_drawn_by e m f false link s is = cc

not_drawn_none : (e : Errand) (m : ProducerMessageValues) (f : Fault) (link : ℕ) (s : Send) → deeds_in (not_drawn e m f) ≡ Sends link s ∷ [] → ⊥
not_drawn_none e m f link s is = not_drawn_by e m f (is_lost f) link s is

not_queued_none : (e : Errand) (kept : Option ProducerMessageValues) (f : Fault) (link : ℕ) (s : Send) → deeds_in (not_queued e kept f) ≡ Sends link s ∷ [] → ⊥
not_queued_none e None f link s is = cc
not_queued_none e (Some m) f link s is = not_drawn_none e m f link s is

receipt_none : (r : Result Reply Fault) (link : ℕ) (s : Send) → deeds_in (receipt r) ≡ Sends link s ∷ [] → ⊥
receipt_none (Ok r) link s is = cc
receipt_none (Err f) link s is = cc

makes_none : (e : Errand) (m : ProducerMessageValues) (c : Command) (t : SearchTransition Making (Result Served Failure)) (link : ℕ) (s : Send) →
    deeds_in (send_makes e m c t) ≡ Sends link s ∷ [] → ⊥
makes_none e m c (transition.Stays k action) link s is = cc
makes_none e m c (transition.Gives (Ok served)) link s is = cc
makes_none e m c (transition.Gives (Err f)) link s is = cc

looks_none : (e : Errand) (m : ProducerMessageValues) (c : Command) (t : SearchTransition Looking (Result Place Failure)) (link : ℕ) (s : Send) →
    deeds_in (send_looks e m c t) ≡ Sends link s ∷ [] → ⊥
looks_none e m c (transition.Stays l action) link s is = cc
looks_none e m c (transition.Gives (Ok place)) link s is = makes_none e m c (made_gets 0 place) link s is
looks_none e m c (transition.Gives (Err f)) link s is = cc

-- EACH FRAME

frame_of : (e : Errand) (d : Drawn) (m : ProducerMessageValues) (link : ℕ) (s : Send) → deeds_in (send_asks e d m) ≡ Sends link s ∷ []
    →
    (d' : Drawn) × (m' : ProducerMessageValues) × (◌≡◌ {A = News} (Drew d) (Drew d')) × (send.Drawing m ≡ send.Drawing m') × (link ≡ d'.link) × (s ≡ send_of e d' m')
frame_of e d m link s is = (d, m, refl, refl, cc, cc)

in_waiting_none : (e : Errand) (m : ProducerMessageValues) (n : News) (link : ℕ) (s : Send) → deeds_in (in_waiting e m n) ≡ Sends link s ∷ [] → ⊥
in_waiting_none e m (Told o) link s is = cc
in_waiting_none e m Queued link s is = cc
in_waiting_none e m InLine link s is = cc
in_waiting_none e m (HasTurn version) link s is = cc
in_waiting_none e m (Drew d) link s is = cc
in_waiting_none e m (Recalled again) link s is = cc
in_waiting_none e m (Numbered number) link s is = cc
in_waiting_none e m Ready link s is = cc
in_waiting_none e m (HasBatch items) link s is = cc
in_waiting_none e m Done link s is = cc

in_asked_none : (e : Errand) (kept : Option ProducerMessageValues) (n : News) (link : ℕ) (s : Send) → deeds_in (in_asked e kept n) ≡ Sends link s ∷ [] → ⊥
in_asked_none e kept (Told o) link s is = not_queued_none e kept (fault_told (Told o)) link s is
in_asked_none e kept Queued link s is = cc
in_asked_none e kept InLine link s is = cc
in_asked_none e kept (HasTurn version) link s is = not_queued_none e kept (fault_told (HasTurn version)) link s is
in_asked_none e kept (Drew d) link s is = not_queued_none e kept (fault_told (Drew d)) link s is
in_asked_none e kept (Recalled again) link s is = not_queued_none e kept (fault_told (Recalled again)) link s is
in_asked_none e kept (Numbered number) link s is = not_queued_none e kept (fault_told (Numbered number)) link s is
in_asked_none e kept Ready link s is = not_queued_none e kept (fault_told Ready) link s is
in_asked_none e kept (HasBatch items) link s is = not_queued_none e kept (fault_told (HasBatch items)) link s is
in_asked_none e kept Done link s is = not_queued_none e kept (fault_told Done) link s is

in_sent_none : (n : News) (link : ℕ) (s : Send) → deeds_in (in_sent n) ≡ Sends link s ∷ [] → ⊥
in_sent_none (Told o) link s is = receipt_none (verdict 7 o) link s is
in_sent_none Queued link s is = cc
in_sent_none InLine link s is = cc
in_sent_none (HasTurn version) link s is = cc
in_sent_none (Drew d) link s is = cc
in_sent_none (Recalled again) link s is = cc
in_sent_none (Numbered number) link s is = cc
in_sent_none Ready link s is = cc
in_sent_none (HasBatch items) link s is = cc
in_sent_none Done link s is = cc

in_recalling_none : (w : Ways) (e : Errand) (m : ProducerMessageValues) (n : News) (link : ℕ) (s : Send) →
    deeds_in (in_recalling w e m n) ≡ Sends link s ∷ [] → ⊥
in_recalling_none w e m (Told o) link s is = cc
in_recalling_none w e m Queued link s is = cc
in_recalling_none w e m InLine link s is = cc
in_recalling_none w e m (HasTurn version) link s is = cc
in_recalling_none w e m (Drew d) link s is = cc
in_recalling_none w e m (Recalled again) link s is = looks_none e m again (look_begins w) link s is
in_recalling_none w e m (Numbered number) link s is = cc
in_recalling_none w e m Ready link s is = cc
in_recalling_none w e m (HasBatch items) link s is = cc
in_recalling_none w e m Done link s is = cc

in_looking_none : (w : Ways) (e : Errand) (m : ProducerMessageValues) (c : Command) (l : Looking) (n : News) (link : ℕ) (s : Send) →
    deeds_in (in_looking w e m c l n) ≡ Sends link s ∷ [] → ⊥
in_looking_none w e m c l (Told o) link s is = looks_none e m c (look_told w c.topic l o) link s is
in_looking_none w e m c l Queued link s is = cc
in_looking_none w e m c l InLine link s is = cc
in_looking_none w e m c l (HasTurn version) link s is = cc
in_looking_none w e m c l (Drew d) link s is = cc
in_looking_none w e m c l (Recalled again) link s is = cc
in_looking_none w e m c l (Numbered number) link s is = cc
in_looking_none w e m c l Ready link s is = cc
in_looking_none w e m c l (HasBatch items) link s is = cc
in_looking_none w e m c l Done link s is = cc

in_making_none : (w : Ways) (e : Errand) (m : ProducerMessageValues) (c : Command) (k : Making) (n : News) (link : ℕ) (s : Send) →
    deeds_in (in_making w e m c k n) ≡ Sends link s ∷ [] → ⊥
in_making_none w e m c k (Told o) link s is = makes_none e m c (made_told w c k o) link s is
in_making_none w e m c k Queued link s is = cc
in_making_none w e m c k InLine link s is = cc
in_making_none w e m c k (HasTurn version) link s is = cc
in_making_none w e m c k (Drew d) link s is = cc
in_making_none w e m c k (Recalled again) link s is = cc
in_making_none w e m c k (Numbered number) link s is = cc
in_making_none w e m c k Ready link s is = cc
in_making_none w e m c k (HasBatch items) link s is = cc
in_making_none w e m c k Done link s is = cc

in_remaking_none : (e : Errand) (m : ProducerMessageValues) (n : News) (link : ℕ) (s : Send) → deeds_in (in_remaking e m n) ≡ Sends link s ∷ [] → ⊥
in_remaking_none e m (Told o) link s is = cc
in_remaking_none e m Queued link s is = cc
in_remaking_none e m InLine link s is = cc
in_remaking_none e m (HasTurn version) link s is = cc
in_remaking_none e m (Drew d) link s is = cc
in_remaking_none e m (Recalled again) link s is = cc
in_remaking_none e m (Numbered number) link s is = cc
in_remaking_none e m Ready link s is = cc
in_remaking_none e m (HasBatch items) link s is = cc
in_remaking_none e m Done link s is = cc

-- only one that draws, and drew
in_drawing_frame : (w : Ways) (e : Errand) (m : ProducerMessageValues) (n : News) (link : ℕ) (s : Send) → deeds_in (in_drawing e m n) ≡ Sends link s ∷ []
    → (d : Drawn) × (m' : ProducerMessageValues) × (n ≡ Drew d) × (send.Drawing m ≡ send.Drawing m') × (link ≡ d.link) × (s ≡ send_of e d m')
in_drawing_frame w e m (Told o) link s is = absurd (not_drawn_none e m (fault_told (Told o)) link s is)
in_drawing_frame w e m Queued link s is = absurd (not_drawn_none e m (fault_told Queued) link s is)
in_drawing_frame w e m InLine link s is = absurd (not_drawn_none e m (fault_told InLine) link s is)
in_drawing_frame w e m (HasTurn version) link s is = absurd (not_drawn_none e m (fault_told (HasTurn version)) link s is)
in_drawing_frame w e m (Drew d) link s is = frame_of e d m link s is
in_drawing_frame w e m (Recalled again) link s is = absurd (not_drawn_none e m (fault_told (Recalled again)) link s is)
in_drawing_frame w e m (Numbered number) link s is = absurd (not_drawn_none e m (fault_told (Numbered number)) link s is)
in_drawing_frame w e m Ready link s is = absurd (not_drawn_none e m (fault_told Ready) link s is)
in_drawing_frame w e m (HasBatch items) link s is = absurd (not_drawn_none e m (fault_told (HasBatch items)) link s is)
in_drawing_frame w e m Done link s is = absurd (not_drawn_none e m (fault_told Done) link s is)

each_frame : EachFrameHasItsNumber
each_frame w e (send.Waiting m) n link s is = absurd (in_waiting_none e m n link s is)
each_frame w e (send.Drawing m) n link s is = in_drawing_frame w e m n link s is
each_frame w e (send.Asked kept) n link s is = absurd (in_asked_none e kept n link s is)
each_frame w e send.Sent n link s is = absurd (in_sent_none n link s is)
each_frame w e (send.Recalling m) n link s is = absurd (in_recalling_none w e m n link s is)
each_frame w e (send.Looking m c l) n link s is = absurd (in_looking_none w e m c l n link s is)
each_frame w e (send.Making m c k) n link s is = absurd (in_making_none w e m c k n link s is)
each_frame w e (send.Remaking m) n link s is = absurd (in_remaking_none e m n link s is)
each_frame w e (send.Ending f) n link s is = absurd cc

pub each_frame_has_its_number : EachFrameHasItsNumber
each_frame_has_its_number = each_frame

-- NONE BEHIND A QUEUED ONE

after_both : (w : Ways) (e : Errand) (s : Option Sending) (xs ys : List News) → state_after w e s (xs ++ ys) ≡ state_after w e (state_after w e s xs) ys
after_both w e None xs ys = refl
after_both w e (Some s) [] ys = refl
after_both w e (Some s) (n ∷ xs) ys = after_both w e (state_in (send_told w e s n)) xs ys

-- it waits for its outcome, and asks for nothing
over_none : (w : Ways) (e : Errand) (r : Result Reply Fault) (ns : List News)
    → list_any is_send (deeds_in (receipt r) ++ deeds_of w e (state_in (receipt r)) ns) ≡ false
over_none w e (Ok r) ns = refl
over_none w e (Err f) ns = refl

sent_none : (w : Ways) (e : Errand) (ns : List News) → list_any is_send (deeds_of w e (Some send.Sent) ns) ≡ false
sent_none w e [] = refl
sent_none w e (Told o ∷ ns) = over_none w e (verdict 7 o) ns
sent_none w e (Queued ∷ ns) = sent_none w e ns
sent_none w e (InLine ∷ ns) = sent_none w e ns
sent_none w e (HasTurn version ∷ ns) = sent_none w e ns
sent_none w e (Drew d ∷ ns) = sent_none w e ns
sent_none w e (Recalled c ∷ ns) = sent_none w e ns
sent_none w e (Numbered n ∷ ns) = sent_none w e ns
sent_none w e (Ready ∷ ns) = sent_none w e ns
sent_none w e (HasBatch items ∷ ns) = sent_none w e ns
sent_none w e (Done ∷ ns) = sent_none w e ns

pub queued_is_not_asked_again : QueuedIsNotAskedAgain
queued_is_not_asked_again w e s before later m is =
    let there : state_after w e s (before ++ Queued ∷ []) ≡ Some send.Sent = after_both w e s before (Queued ∷ []) ∙ ap (λ x. state_after w e x (Queued ∷ [])) is in
    ap (λ x. list_any is_send (deeds_of w e x later)) there ∙ sent_none w e later
