-- Each refusal comes exactly where its words hold.
use Rattle.std.proofs.Common.{◌≡◌, ◌∙◌, ap, refl, ℕ, ◌&&◌, not, Bool, true, false, cond, List, Some, None, Ok, Err}
use Rattle.pulsar_wire.specs.declared.error.ConnectionError.TheVariants as error
use Rattle.pulsar_wire.specs.declared.error.Reason.TheVariants as reason
use Rattle.pulsar_frame.specs.Message.{MessageValues}
use Rattle.pulsar_frame.specs.Frame.{frame_bytes}
use Rattle.pulsar_messages.specs.Words.{is_numbered, when_full}
use Rattle.pulsar_session.specs.Link.{Seen, answer_of, can_wait, drawn, fits, has_room, is_ready, message_of, place_in, ticked}
use Rattle.pulsar_messages.specs.Claims.{is_spent}
use Rattle.pulsar_session.specs.Laws.{RefusedExactly, refusal}

placed : (room waits fit : Bool) (frame : List ℕ) (v : Seen) →
    refusal (place_in room waits (cond fit (Some frame) None) v) ≡ cond (not room && not waits) (Some error.SlowDown) (cond (not fit) (Some (error.Encoding reason.Frame)) None)
placed true waits true frame v = refl
placed true waits false frame v = refl
placed false true true frame v = refl
placed false true false frame v = refl
placed false false fit frame v = refl

room_same : (b : Bool) (v : Seen) → has_room (drawn b v) ≡ has_room v
room_same true v = refl
room_same false v = refl

pub refused_exactly : RefusedExactly
refused_exactly now words v = by (is_ready v.stage) (is_numbered words && is_spent v.next_number)
  where
    m : MessageValues
    m = message_of v.next_number now words

    waits : Bool
    waits = can_wait (when_full words)

    d : Seen
    d = drawn (is_numbered words) (ticked now v)

    by : (ready spent : Bool) → refusal (answer_of (cond ready (cond spent (Err error.Exhausted) (Ok v.next_number)) (Err error.Disconnected)) now words (ticked now v))
        ≡ cond (not ready) (Some error.Disconnected)
        (cond spent (Some error.Exhausted) (cond (not (has_room v) && not waits) (Some error.SlowDown) (cond (not (fits m)) (Some (error.Encoding reason.Frame)) None)))
    by false spent = refl
    by true true = refl
    by true false = placed (has_room d) waits (fits m) (frame_bytes m) d
        ∙ ap (λ r. cond (not r && not waits) (Some error.SlowDown) (cond (not (fits m)) (Some (error.Encoding reason.Frame)) None)) (room_same (is_numbered words) (ticked now v))
