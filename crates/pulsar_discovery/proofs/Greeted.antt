-- A connection that was ready is ready until it is over, whatever is done to it.
use Rattle.std.proofs.Common.{◌≡◌, ◌∙◌, sym, subst, refl, ℕ, ◌++◌, Bool, true, false, cond, List, [], ◌∷◌, drop, Result, Ok, Err}
use Rattle.pulsar_wire.specs.declared.error.ConnectionError.{ConnectionError}
use Rattle.pulsar_frame.specs.Frame.{Front, Short, Refused, Whole, front}
use Rattle.pulsar_messages.specs.Words.{Words, is_numbered}
use Rattle.pulsar_session.specs.declared.states.Stage.{Stage}
use Rattle.pulsar_session.specs.declared.states.Stage.TheVariants.{Dialing, Handshaking, Ready, Over}
use Rattle.pulsar_session.specs.Link.{Act, Asks, Closes, Drains, Feeds, Opens, Seen, Standing, Takes, after, after_of, drawn, has_room, is_open, is_over, moved_up, number_for, opens_in, queue, request, taken_in, ticked}
use Rattle.pulsar_session.proofs.Pieces.{asks_for_apart, unless_stage}

abbrev pub IsGreeted : Stage → Type 0
IsGreeted Dialing = ⊥
IsGreeted Handshaking = ⊥
IsGreeted Ready = Unit {0}
IsGreeted Over = Unit {0}

moved_stage : (line : List Standing) (v : Seen) → (moved_up line v).stage ≡ v.stage
moved_stage [] v = refl
moved_stage (s ∷ line) v = by (has_room v) (moved_stage line (queue s.frame s.claim v))
  where
    by : (b : Bool) → (moved_up line (queue s.frame s.claim v)).stage ≡ v.stage → (cond b (moved_up line (queue s.frame s.claim v)) (record v { line = s ∷ line })).stage ≡ v.stage
    by true more = more
    by false more = refl

drawn_stage : (b : Bool) (v : Seen) → (drawn b v).stage ≡ v.stage
drawn_stage true v = refl
drawn_stage false v = refl

asked_stage : (n : Result ℕ ConnectionError) (now : ℕ) (words : Words) (v : Seen) → (after_of n now words v).stage ≡ v.stage
asked_stage (Err e) now words v = refl
asked_stage (Ok id) now words v = (asks_for_apart (request id now words)).stage (drawn (is_numbered words) v) ∙ drawn_stage (is_numbered words) v

opened : (s : Stage) (v : Seen) → IsGreeted s → v.stage ≡ s → (opens_in s v).stage ≡ s
opened Dialing v g e = absurd g
opened Handshaking v g e = absurd g
opened Ready v g e = e
opened Over v g e = e

taken : (s : Stage) (f : Front) (v : Seen) → IsGreeted s → v.stage ≡ s → (taken_in s f v).stage ≡ s
taken Dialing f v g e = absurd g
taken Handshaking f v g e = absurd g
taken Ready Short v g e = e
taken Ready (Refused r) v g e = e
taken Ready (Whole m rest) v g e =
    unless_stage _ m _ ∙ e
taken Over f v g e = e

pub greeted_stays : (act : Act) (v : Seen) → IsGreeted v.stage → IsGreeted (after act v).stage
greeted_stays (Opens now) v g = subst IsGreeted (sym (opened v.stage (ticked now v) g refl)) g
greeted_stays (Feeds piece) v g = by (is_open v.stage)
  where
    by : (b : Bool) → IsGreeted (cond b (record v { unread = v.unread ++ piece }) v).stage
    by true = g
    by false = g
greeted_stays (Takes now) v g = subst IsGreeted (sym (taken v.stage (front v.unread) (ticked now v) g refl)) g
greeted_stays (Asks now words) v g = subst IsGreeted (sym (asked_stage (number_for (is_numbered words) v) now words (ticked now v))) g
greeted_stays (Drains most now) v g = by (is_open v.stage)
  where
    rest : Seen
    rest = record (ticked now v) { unwritten = drop most v.unwritten }

    by : (b : Bool) → IsGreeted (cond b (moved_up v.line rest) (ticked now v)).stage
    by true = subst IsGreeted (sym (moved_stage v.line rest)) g
    by false = g
greeted_stays (Closes cause) v g = by (is_over v.stage) _ refl
  where
    by : (b : Bool) (w : Seen) → w.stage ≡ Over → IsGreeted (cond b v w).stage
    by true w e = g
    by false w e = subst IsGreeted (sym e) tt
