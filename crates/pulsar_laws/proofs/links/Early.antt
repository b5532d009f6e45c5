-- Nothing stands in the line of a connection before it is ready.
use Rattle.std.proofs.Common.{◌≡◌, ◌∙◌, sym, ap, refl, ℕ, ◌&&◌, ◌++◌, Bool, true, false, cond, List, [], ◌∷◌, drop, Option, Some, None, Result, Ok, Err}
use Rattle.pulsar_laws.proofs.LinkWords.{ConnectionError, is_numbered, Words}
use Rattle.pulsar_wire.specs.declared.error.ConnectionError.TheVariants as error
use Rattle.pulsar_frame.specs.Frame.{Front, Short, Refused, Whole, front}
use Rattle.pulsar_messages.specs.Messages.{connect_command}
use Rattle.pulsar_requests.specs.Waits.{ended, places}
use Rattle.pulsar_session.specs.declared.states.Stage.{Stage}
use Rattle.pulsar_session.specs.declared.states.Stage.TheVariants.{Dialing, Handshaking, Ready, Over}
use Rattle.pulsar_session.specs.Answers.{is}
use Rattle.pulsar_session.specs.Link.{Act, Asks, Closes, Drains, Feeds, Opens, Seen, Setup, Standing, Takes, after, after_of, answered_to, bare, drawn, frame_for, greeted, greets_with, has_room, is_open, is_over, is_ready, moved_up, number_for, opens_in, queue, request, seen, settled_by, taken_in, ticked}
use Rattle.pulsar_messages.specs.Claims.{is_spent}
use Rattle.pulsar_session.proofs.Pieces.{asks_for_apart, unless_stage}
use Rattle.pulsar_laws.proofs.Cases.{cond_so}

abbrev pub Early : Seen → Type 0
Early v = is_ready v.stage ≡ false → v.line ≡ []

greets_line : (frame : Option (List ℕ)) (v : Seen) → (greets_with frame v).line ≡ v.line
greets_line None v = refl
greets_line (Some frame) v = refl

opens_early : (stage : Stage) (v : Seen) → v.stage ≡ stage → Early v → Early (opens_in stage v)
opens_early Dialing v e h = λ r. greets_line (frame_for (bare (connect_command v.setup.auth v.setup.proxy))) (record v { stage = Handshaking })
    ∙ h (ap is_ready e)
opens_early Handshaking v e h = h
opens_early Ready v e h = h
opens_early Over v e h = h

greeted_early : (b : Bool) (rest : List ℕ) (v : Seen) → v.stage ≡ Handshaking → Early v → Early (greeted b rest v)
greeted_early true rest v e h = λ r. h (ap is_ready e)
greeted_early false rest v e h = h

taken_early : (stage : Stage) (f : Front) (v : Seen) → v.stage ≡ stage → Early v → Early (taken_in stage f v)
taken_early Dialing f v e h = h
taken_early Over f v e h = h
taken_early Handshaking Short v e h = h
taken_early Handshaking (Refused r) v e h = h
taken_early Handshaking (Whole m rest) v e h = greeted_early (is 3 m) rest v e h
taken_early Ready Short v e h = h
taken_early Ready (Refused r) v e h = h
taken_early Ready (Whole m rest) v e h =
    let u = record v { unread = rest } in
    λ r. absurd (let no = sym (ap is_ready (unless_stage (places (settled_by m u)) m (record u { waits = answered_to m u.waits }) ∙ e)) ∙ r in cc)

pub moved_stage : (line : List Standing) (v : Seen) → (moved_up line v).stage ≡ v.stage
moved_stage [] v = refl
moved_stage (s ∷ line) v = by (has_room v) refl (moved_stage line (queue s.frame s.claim v))
  where
    by : (b : Bool) → has_room v ≡ b → (moved_up line (queue s.frame s.claim v)).stage ≡ v.stage → (moved_up (s ∷ line) v).stage ≡ v.stage
    by true e more = ap (λ b. (cond b (moved_up line (queue s.frame s.claim v)) (record v { line = s ∷ line })).stage) e ∙ more
    by false e more = ap (λ b. (cond b (moved_up line (queue s.frame s.claim v)) (record v { line = s ∷ line })).stage) e

moved_early : (v : Seen) → Early v → Early (moved_up v.line v)
moved_early v h = λ r.
    let empty = h (sym (ap is_ready (moved_stage v.line v)) ∙ r) in
    ap (λ l. (moved_up l v).line) empty

pub ready_of : (numbered : Bool) (v : Seen) (id : ℕ) → number_for numbered v ≡ Ok id → is_ready v.stage ≡ true
ready_of numbered v id h = by (is_ready v.stage) (numbered && is_spent v.next_number) h
  where
    by : (a b : Bool) → cond a (cond b (Err error.Exhausted) (Ok v.next_number)) (Err error.Disconnected) ≡ Ok id → a ≡ true
    by true b g = refl
    by false b g = absurd cc

pub drawn_stage : (b : Bool) (v : Seen) → (drawn b v).stage ≡ v.stage
drawn_stage true v = refl
drawn_stage false v = refl

after_of_early : (n : Result ℕ ConnectionError) (now : ℕ) (words : Words) (v : Seen) → ((id : ℕ) → n ≡ Ok id → is_ready v.stage ≡ true) → Early v →
    Early (after_of n now words v)
after_of_early (Err e) now words v g h = h
after_of_early (Ok id) now words v g h = λ r.
    absurd (let no = sym (ap is_ready ((asks_for_apart (request id now words)).stage (drawn (is_numbered words) v) ∙ drawn_stage (is_numbered words) v)
    ∙ g id refl) ∙ r in cc)

act_early : (act : Act) (v : Seen) → Early v → Early (after act v)
act_early (Opens now) v h = opens_early v.stage (ticked now v) refl h
act_early (Feeds piece) v h = cond_so Early (is_open v.stage) (record v { unread = v.unread ++ piece }) v h h
act_early (Takes now) v h = taken_early v.stage (front v.unread) (ticked now v) refl h
act_early (Asks now words) v h = after_of_early (number_for (is_numbered words) v) now words (ticked now v) (λ id e. ready_of (is_numbered words) v id e) h
act_early (Drains most now) v h = let b = record (ticked now v) { unwritten = drop most v.unwritten } in cond_so Early (is_open v.stage) (moved_up v.line b)
    (ticked now v) (moved_early b h) h
act_early (Closes cause) v h = cond_so Early (is_over v.stage) v
    (record v { stage = Over; error = Some cause; unwritten = []; line = []; waits = ended v.waits; unread = [] }) h (λ r. refl)

pub early : (s : Setup) (h : List Act) → Early (seen s h)
early s [] = λ r. refl
early s (act ∷ h) = act_early act (seen s h) (early s h)
