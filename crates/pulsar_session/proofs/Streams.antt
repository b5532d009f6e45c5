-- What was taken, and what is unread, is what was fed.
use Rattle.std.proofs.Common.{◌≡◌, ◌∙◌, sym, ap, refl, ℕ, Bool, true, false, cond, List, [], ◌∷◌, ◌++◌, drop, Some, append_assoc, append-nil}
use Rattle.pulsar_frame.specs.Message.{MessageValues}
use Rattle.pulsar_frame.specs.Frame.{Front, Short, Refused, Whole, cut, front}
use Rattle.pulsar_frame.proofs.Streams.{cut-whole, front-whole-append}
use Rattle.pulsar_messages.specs.Words.{is_numbered}
use Rattle.pulsar_requests.specs.Waits.{ended, places}
use Rattle.pulsar_session.specs.declared.states.Stage.{Stage}
use Rattle.pulsar_session.specs.declared.states.Stage.TheVariants.{Dialing, Handshaking, Ready, Over}
use Rattle.pulsar_session.specs.Answers.{is}
use Rattle.pulsar_session.specs.Link.{Act, Opens, Feeds, Takes, Asks, Drains, Closes, Seen, Setup, after, answered_to, greeted, is_open, is_over, moved_up, number_for, seen, settled_by, taken_in, ticked}
use Rattle.pulsar_session.specs.Laws.{TakenAreCut, bytes_fed, fed_in, messages_in, messages_taken, taken_of}
use Rattle.pulsar_session.proofs.Settled.{passes}
use Rattle.pulsar_session.proofs.Still.{asked_of, moving, opening, unless}

one_more : (x t : List ℕ) (m : MessageValues) (rest : List ℕ) → front x ≡ Whole m rest → m ∷ cut (rest ++ t) ≡ cut (x ++ t)
one_more x t m rest e = sym (cut-whole (x ++ t) m (rest ++ t) (front-whole-append x t m rest e))

greeted_cut : (b : Bool) (v : Seen) (t : List ℕ) (m : MessageValues) (rest : List ℕ) → front v.unread ≡ Whole m rest → cond b (m ∷ []) [] ++ cut ((greeted b rest v).unread ++ t) ≡ cut (v.unread ++ t)
greeted_cut true v t m rest e = one_more v.unread t m rest e
greeted_cut false v t m rest e = refl

taken_cut : (stage : Stage) (f : Front) (v : Seen) (t : List ℕ) → front v.unread ≡ f → taken_of stage f ++ cut ((taken_in stage f v).unread ++ t) ≡ cut (v.unread ++ t)
taken_cut Dialing f v t e = refl
taken_cut Over f v t e = refl
taken_cut Handshaking Short v t e = refl
taken_cut Handshaking (Refused r) v t e = refl
taken_cut Handshaking (Whole m rest) v t e = greeted_cut (is 3 m) v t m rest e
taken_cut Ready Short v t e = refl
taken_cut Ready (Refused r) v t e = refl
taken_cut Ready (Whole m rest) v t e =
    let u = record v { unread = rest } in
    let a = record u { waits = answered_to m u.waits } in
    ap (λ x. m ∷ cut (x ++ t)) (unless (places (settled_by m u)) m a).unread ∙ one_more v.unread t m rest e

act_cut : (act : Act) (v : Seen) (t : List ℕ) → is_over (after act v).stage ≡ false → messages_in act v ++ cut ((after act v).unread ++ t) ≡ cut (v.unread ++ (fed_in act v ++ t))
act_cut (Opens now) v t o = ap (λ x. cut (x ++ t)) (opening v.stage (ticked now v) refl).unread
act_cut (Feeds piece) v t o = by (is_open v.stage)
  where
    by : (b : Bool) → cut ((cond b (record v { unread = v.unread ++ piece }) v).unread ++ t) ≡ cut (v.unread ++ (cond b piece [] ++ t))
    by true = ap cut (append_assoc v.unread piece t)
    by false = refl
act_cut (Takes now) v t o = taken_cut v.stage (front v.unread) (ticked now v) t refl
act_cut (Asks now words) v t o = ap (λ x. cut (x ++ t)) (asked_of (number_for (is_numbered words) v) now words (ticked now v)).unread
act_cut (Drains most now) v t o = by (is_open v.stage)
  where
    b : Seen
    b = record (ticked now v) { unwritten = drop most v.unwritten }

    by : (c : Bool) → cut ((cond c (moved_up v.line b) (ticked now v)).unread ++ t) ≡ cut (v.unread ++ t)
    by true = ap (λ x. cut (x ++ t)) (moving v.line b).unread
    by false = refl
act_cut (Closes cause) v t o = by (is_over v.stage) o
  where
    by : (c : Bool) → is_over (cond c v (record v { stage = Over; error = Some cause; unwritten = []; line = []; waits = ended v.waits; unread = [] })).stage ≡ false →
        cut ((cond c v (record v { stage = Over; error = Some cause; unwritten = []; line = []; waits = ended v.waits; unread = [] })).unread ++ t) ≡ cut (v.unread ++ t)
    by true h = refl
    by false h = absurd cc

all_cut : (s : Setup) (h : List Act) (t : List ℕ) → is_over (seen s h).stage ≡ false → messages_taken s h ++ cut ((seen s h).unread ++ t) ≡ cut (bytes_fed s h ++ t)
all_cut s [] t o = refl
all_cut s (act ∷ h) t o =
    let v = seen s h in
    append_assoc (messages_taken s h) (messages_in act v) (cut ((after act v).unread ++ t))
    ∙ ap (λ x. messages_taken s h ++ x) (act_cut act v t o)
    ∙ all_cut s h (fed_in act v ++ t) ((passes act v).goes_on o)
    ∙ ap cut (sym (append_assoc (bytes_fed s h) (fed_in act v) t))

pub taken_are_cut : TakenAreCut
taken_are_cut s h o =
    ap (λ x. messages_taken s h ++ cut x) (sym (append-nil (seen s h).unread)) ∙ all_cut s h [] o ∙ ap cut (append-nil (bytes_fed s h))
