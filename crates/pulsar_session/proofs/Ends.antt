-- The end of a connection, and its cause.
use Rattle.std.proofs.Common.{◌≡◌, ◌∙◌, sym, ap, refl, ℕ, ◌++◌, ◌&&◌, Bool, true, false, cond, List, [], ◌∷◌, drop, Some, Err, Ok}
use Rattle.std.specs.Option.{is_none}
use Rattle.pulsar_frame.specs.Frame.{Front, Short, Refused, Whole, front}
use Rattle.pulsar_wire.specs.declared.error.ConnectionError.TheVariants as error
use Rattle.pulsar_messages.specs.Words.{is_numbered}
use Rattle.pulsar_requests.specs.Waits.{ended, places}
use Rattle.pulsar_session.specs.declared.states.Stage.{Stage}
use Rattle.pulsar_session.specs.declared.states.Stage.TheVariants.{Dialing, Handshaking, Ready, Over}
use Rattle.pulsar_session.specs.Answers.{is}
use Rattle.pulsar_session.specs.Link.{Act, Opens, Feeds, Takes, Asks, Drains, Closes, Seen, after, after_of, answered_to, greeted, is_open, is_over, is_ready, moved_up, number_for, opens_in, seen, settled_by, taken_in, ticked}
use Rattle.pulsar_messages.specs.Claims.{is_spent}
use Rattle.pulsar_session.specs.Laws.{CauseAtEnd, EndedStays}
use Rattle.pulsar_session.proofs.Still.{asked_of, moving, opening, unless}

-- each act of one that has ended does nothing but tell its clock
pub ended_stays : EndedStays
ended_stays (Opens now) v e = (ap (λ s. (opens_in s (ticked now v)).stage) e ∙ e, ap (λ s. (opens_in s (ticked now v)).error) e)
ended_stays (Feeds piece) v e =
    (ap (λ s. (cond (is_open s) (record v { unread = v.unread ++ piece }) v).stage) e ∙ e, ap (λ s. (cond (is_open s) (record v { unread = v.unread ++ piece }) v).error) e)
ended_stays (Takes now) v e = (ap (λ s. (taken_in s (front v.unread) (ticked now v)).stage) e ∙ e, ap (λ s. (taken_in s (front v.unread) (ticked now v)).error) e)
ended_stays (Asks now words) v e = (
  ap (λ s. (after_of (cond (is_ready s) (cond (is_numbered words && is_spent v.next_number) (Err error.Exhausted) (Ok v.next_number)) (Err error.Disconnected)) now words (ticked now v)).stage) e ∙ e,
  ap (λ s. (after_of (cond (is_ready s) (cond (is_numbered words && is_spent v.next_number) (Err error.Exhausted) (Ok v.next_number)) (Err error.Disconnected)) now words (ticked now v)).error) e,
)
ended_stays (Drains most now) v e =
    let b = record (ticked now v) { unwritten = drop most v.unwritten } in
    (ap (λ s. (cond (is_open s) (moved_up v.line b) (ticked now v)).stage) e ∙ e, ap (λ s. (cond (is_open s) (moved_up v.line b) (ticked now v)).error) e)
ended_stays (Closes cause) v e =
    let w = record v { stage = Over; error = Some cause; unwritten = []; line = []; waits = ended v.waits; unread = [] } in
    (ap (λ s. (cond (is_over s) v w).stage) e ∙ e, ap (λ s. (cond (is_over s) v w).error) e)

-- THE CAUSE

abbrev Caused : Seen → Type 0
Caused v = is_none v.error ≡ cond (is_over v.stage) false true

still : (v w : Seen) → w.error ≡ v.error → is_over w.stage ≡ is_over v.stage → Caused v → Caused w
still v w e o h = ap is_none e ∙ h ∙ ap (λ b. cond b false true) (sym o)

greeted_caused : (b : Bool) (rest : List ℕ) (v : Seen) → v.stage ≡ Handshaking → Caused v → Caused (greeted b rest v)
greeted_caused true rest v e h = h ∙ ap (λ s. cond (is_over s) false true) e
greeted_caused false rest v e h = h

taken_caused : (stage : Stage) (f : Front) (v : Seen) → v.stage ≡ stage → Caused v → Caused (taken_in stage f v)
taken_caused Dialing f v e h = h
taken_caused Over f v e h = h
taken_caused Handshaking Short v e h = h
taken_caused Handshaking (Refused r) v e h = h
taken_caused Handshaking (Whole m rest) v e h = greeted_caused (is 3 m) rest v e h
taken_caused Ready Short v e h = h
taken_caused Ready (Refused r) v e h = h
taken_caused Ready (Whole m rest) v e h =
    let u = record v { unread = rest } in
    let a = record u { waits = answered_to m u.waits } in
    let x = unless (places (settled_by m u)) m a in
    still v (taken_in Ready (Whole m rest) v) x.error x.over h

act_caused : (act : Act) (v : Seen) → Caused v → Caused (after act v)
act_caused (Opens now) v h = let x = opening v.stage (ticked now v) refl in still v (after (Opens now) v) x.error x.over h
act_caused (Feeds piece) v h = by (is_open v.stage)
  where
    by : (b : Bool) → Caused (cond b (record v { unread = v.unread ++ piece }) v)
    by true = h
    by false = h
act_caused (Takes now) v h = taken_caused v.stage (front v.unread) (ticked now v) refl h
act_caused (Asks now words) v h = let x = asked_of (number_for (is_numbered words) v) now words (ticked now v) in still v (after (Asks now words) v) x.error x.over h
act_caused (Drains most now) v h = by (is_open v.stage)
  where
    b : Seen
    b = record (ticked now v) { unwritten = drop most v.unwritten }

    by : (o : Bool) → Caused (cond o (moved_up v.line b) (ticked now v))
    by true = let x = moving v.line b in still v (moved_up v.line b) x.error x.over h
    by false = h
act_caused (Closes cause) v h = by (is_over v.stage)
  where
    by : (o : Bool) → Caused (cond o v (record v { stage = Over; error = Some cause; unwritten = []; line = []; waits = ended v.waits; unread = [] }))
    by true = h
    by false = refl

pub cause_at_end : CauseAtEnd
cause_at_end s [] = refl
cause_at_end s (act ∷ h) = act_caused act (seen s h) (cause_at_end s h)
