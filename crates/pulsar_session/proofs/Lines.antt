-- The line moves up in order.
use Rattle.std.proofs.Common.{◌≡◌, ◌∙◌, sym, ap, subst, refl, ℕ, ◌&&◌, Bool, true, false, cond, List, [], ◌∷◌, ◌++◌, length, map, drop, Option, Some, None, Result, Ok, Err, append_assoc, append-nil}
use Rattle.std.proofs.lemmas.List.{map-append}
use Rattle.pulsar_wire.specs.declared.error.ConnectionError.{ConnectionError}
use Rattle.pulsar_wire.specs.declared.error.ConnectionError.TheVariants as error
use Rattle.pulsar_frame.specs.Message.{MessageValues}
use Rattle.pulsar_frame.specs.Frame.{Front, Short, Refused, Whole, front}
use Rattle.pulsar_wire.specs.declared.awaited.Claim.{Claim}
use Rattle.pulsar_session.specs.declared.states.Stage.{Stage}
use Rattle.pulsar_session.specs.declared.states.Stage.TheVariants.{Dialing, Handshaking, Ready, Over}
use Rattle.pulsar_session.specs.Answers.{is}
use Rattle.pulsar_messages.specs.Messages.{connect_command}
use Rattle.pulsar_session.specs.Link.{Act, Asks, Closes, Drains, Feeds, Opens, Request, Seen, Setup, Standing, Takes, after, after_of, answered_to, asks_for, bare, can_wait, challenged, drawn, frame_for, greeted, greets_with, has_room, is_open, is_over, is_ready, moved_up, named_by, number_for, opens_in, pongs, put_frame, put_in, queue, reacts, reacts_unless, request, responds, seen, settled_by, taken_in, ticked, unready_in}
use Rattle.pulsar_messages.specs.Claims.{is_spent}
use Rattle.pulsar_requests.specs.Waits.{ended, places}
use Rattle.pulsar_messages.specs.Content.{AuthenticationValues}
use Rattle.pulsar_messages.specs.Words.{Words, is_numbered}
use Rattle.pulsar_session.specs.Laws.{AskedInOrder, IsInLine, frames_queued, left_in, queued_in, standing_frames}
use Rattle.pulsar_session.proofs.Others.{none_stands_beside_room}
use Rattle.pulsar_session.proofs.Pieces.{asks_for_apart, unless_stage}
use Rattle.pulsar_session.proofs.Settled.{drop_before, drop_taken, new_frames}

-- the frames that are there, and behind them those that stand
abbrev there : Seen → List (List ℕ)
there v = v.unwritten ++ standing_frames v.line

-- some more are there, behind the others
record More (v w : Seen) : Type 0 where
  more : List (List ℕ)
  is : there w ≡ there v ++ more

more_same : (v w : Seen) → there w ≡ there v → More v w
more_same v w e = record { more = []; is = e ∙ sym (append-nil (there v)) }

queue_more : (frame : List ℕ) (c : Option Claim) (v : Seen) → v.line ≡ [] → More v (queue frame c v)
queue_more frame c v e = record {
  more = frame ∷ [];
  is = ap (λ l. (v.unwritten ++ frame ∷ []) ++ standing_frames l) e ∙ append-nil (v.unwritten ++ frame ∷ [])
      ∙ ap (λ x. x ++ frame ∷ []) (sym (append-nil v.unwritten) ∙ ap (λ l. v.unwritten ++ standing_frames l) (sym e));
}

put_in_more : (room : Bool) (w : Bool) (frame : List ℕ) (c : Option Claim) (v : Seen) → has_room v ≡ room → IsInLine v → More v (put_in room w frame c v)
put_in_more true w frame c v e h = queue_more frame c v (h e)
put_in_more false true frame c v e h =
    let one : List Standing = record { frame = frame; claim = c } ∷ [] in
    record {
      more = frame ∷ [];
      is = ap (λ x. v.unwritten ++ x) (map-append (λ s. s.frame) v.line one) ∙ sym (append_assoc v.unwritten (standing_frames v.line) (frame ∷ []));
    }
put_in_more false false frame c v e h = more_same v v refl

put_frame_more : (frame : Option (List ℕ)) (w : Bool) (c : Option Claim) (v : Seen) → IsInLine v → More v (put_frame frame w c v)
put_frame_more None w c v h = more_same v v refl
put_frame_more (Some frame) w c v h = put_in_more (has_room v) w frame c v refl h

asks_for_more : (r : Request) (v : Seen) → IsInLine v → More v (asks_for r v)
asks_for_more r v h = put_frame_more (frame_for r.message) (can_wait r.when_full) r.claim v h

challenged_more : (c : Option AuthenticationValues) (v : Seen) → IsInLine v → More v (challenged c v)
challenged_more None v h = more_same v v refl
challenged_more (Some c) v h = asks_for_more (responds c) v h

named_more : (n : Option ℕ) (v : Seen) → More v (named_by n v)
named_more None v = more_same v v refl
named_more (Some n) v = more_same v (named_by (Some n) v) refl

cond_more : (b : Bool) (v x y : Seen) → More v x → More v y → More v (cond b x y)
cond_more true v x y h g = h
cond_more false v x y h g = g

reacts_more : (m : MessageValues) (v : Seen) → IsInLine v → More v (reacts m v)
reacts_more m v h = cond_more (is 18 m) v (asks_for pongs v) (cond (is 36 m) (challenged v.setup.auth v) (named_by (unready_in m.command.body) v))
    (asks_for_more pongs v h)
    (cond_more (is 36 m) v (challenged v.setup.auth v) (named_by (unready_in m.command.body) v) (challenged_more v.setup.auth v h) (named_more (unready_in m.command.body) v))

unless_more : (ps : List ℕ) (m : MessageValues) (v : Seen) → IsInLine v → More v (reacts_unless ps m v)
unless_more [] m v h = reacts_more m v h
unless_more (p ∷ ps) m v h = more_same v v refl

moved_there : (line : List Standing) (v : Seen) → there (moved_up line v) ≡ v.unwritten ++ standing_frames line
moved_there [] v = refl
moved_there (s ∷ line) v = by (has_room v) refl (moved_there line (queue s.frame s.claim v))
  where
    by : (b : Bool) → has_room v ≡ b → there (moved_up line (queue s.frame s.claim v)) ≡ (v.unwritten ++ s.frame ∷ []) ++ standing_frames line → there (moved_up (s ∷ line) v) ≡ v.unwritten ++ standing_frames (s ∷ line)
    by true e more = ap (λ b. there (cond b (moved_up line (queue s.frame s.claim v)) (record v { line = s ∷ line }))) e ∙ more ∙ append_assoc v.unwritten (s.frame ∷ []) (standing_frames line)
    by false e more = ap (λ b. there (cond b (moved_up line (queue s.frame s.claim v)) (record v { line = s ∷ line }))) e

greeted_more : (b : Bool) (rest : List ℕ) (v : Seen) → More v (greeted b rest v)
greeted_more true rest v = more_same v (greeted true rest v) refl
greeted_more false rest v = more_same v v refl

taken_more : (stage : Stage) (f : Front) (v : Seen) → IsInLine v → More v (taken_in stage f v)
taken_more Dialing f v h = more_same v v refl
taken_more Over f v h = more_same v v refl
taken_more Handshaking Short v h = more_same v v refl
taken_more Handshaking (Refused r) v h = more_same v v refl
taken_more Handshaking (Whole m rest) v h = greeted_more (is 3 m) rest v
taken_more Ready Short v h = more_same v v refl
taken_more Ready (Refused r) v h = more_same v v refl
taken_more Ready (Whole m rest) v h =
    let u = record v { unread = rest } in
    let a = record u { waits = answered_to m u.waits } in
    let x = unless_more (places (settled_by m u)) m a h in record { more = x.more; is = x.is }

-- NOBODY STANDS BEFORE THE LINK IS READY

abbrev Early : Seen → Type 0
Early v = is_ready v.stage ≡ false → v.line ≡ []

greets_more : (frame : Option (List ℕ)) (v : Seen) → v.line ≡ [] → More v (greets_with frame v)
greets_more None v e = more_same v v refl
greets_more (Some frame) v e = queue_more frame None v e

opens_more : (stage : Stage) (v : Seen) → v.stage ≡ stage → Early v → More v (opens_in stage v)
opens_more Dialing v e h =
    let u = record v { stage = Handshaking } in
    let x = greets_more (frame_for (bare (connect_command v.setup.auth v.setup.proxy))) u (h (ap is_ready e)) in record { more = x.more; is = x.is }
opens_more Handshaking v e h = more_same v v refl
opens_more Ready v e h = more_same v v refl
opens_more Over v e h = more_same v v refl

drawn_in_line : (b : Bool) (v : Seen) → IsInLine v → IsInLine (drawn b v)
drawn_in_line true v h = h
drawn_in_line false v h = h

drawn_there : (b : Bool) (v : Seen) → there (drawn b v) ≡ there v
drawn_there true v = refl
drawn_there false v = refl

after_of_more : (n : Result ℕ ConnectionError) (now : ℕ) (words : Words) (v : Seen) → IsInLine v → More v (after_of n now words v)
after_of_more (Err e) now words v h = more_same v v refl
after_of_more (Ok id) now words v h =
    let d = drawn (is_numbered words) v in
    let x = asks_for_more (request id now words) d (drawn_in_line (is_numbered words) v h) in
    record { more = x.more; is = x.is ∙ ap (λ y. y ++ x.more) (drawn_there (is_numbered words) v) }

greets_line : (frame : Option (List ℕ)) (v : Seen) → (greets_with frame v).line ≡ v.line
greets_line None v = refl
greets_line (Some frame) v = refl

opens_early : (stage : Stage) (v : Seen) → v.stage ≡ stage → Early v → Early (opens_in stage v)
opens_early Dialing v e h = λ r. greets_line (frame_for (bare (connect_command v.setup.auth v.setup.proxy))) (record v { stage = Handshaking }) ∙ h (ap is_ready e)
opens_early Handshaking v e h = h
opens_early Ready v e h = h
opens_early Over v e h = h

greeted_early : (b : Bool) (rest : List ℕ) (v : Seen) → v.stage ≡ Handshaking → Early v → Early (greeted b rest v)
greeted_early true rest v e h = λ r. h (ap is_ready e)
greeted_early false rest v e h = h

taken_early : (stage : Stage) (f : Front) (v : Seen) → v.stage ≡ stage → Early v → Early (taken_in stage f v)
taken_early Dialing f v e h = h
taken_early Over f v e h = h
taken_early Handshaking Short v e h = h
taken_early Handshaking (Refused r) v e h = h
taken_early Handshaking (Whole m rest) v e h = greeted_early (is 3 m) rest v e h
taken_early Ready Short v e h = h
taken_early Ready (Refused r) v e h = h
taken_early Ready (Whole m rest) v e h =
    let u = record v { unread = rest } in
    λ r. absurd (let no = sym (ap is_ready (unless_stage (places (settled_by m u)) m (record u { waits = answered_to m u.waits }) ∙ e)) ∙ r in cc)

moved_stage : (line : List Standing) (v : Seen) → (moved_up line v).stage ≡ v.stage
moved_stage [] v = refl
moved_stage (s ∷ line) v = by (has_room v) refl (moved_stage line (queue s.frame s.claim v))
  where
    by : (b : Bool) → has_room v ≡ b → (moved_up line (queue s.frame s.claim v)).stage ≡ v.stage → (moved_up (s ∷ line) v).stage ≡ v.stage
    by true e more = ap (λ b. (cond b (moved_up line (queue s.frame s.claim v)) (record v { line = s ∷ line })).stage) e ∙ more
    by false e more = ap (λ b. (cond b (moved_up line (queue s.frame s.claim v)) (record v { line = s ∷ line })).stage) e

moved_early : (v : Seen) → Early v → Early (moved_up v.line v)
moved_early v h = λ r.
    let empty = h (sym (ap is_ready (moved_stage v.line v)) ∙ r) in
    ap (λ l. (moved_up l v).line) empty

ready_of : (numbered : Bool) (v : Seen) (id : ℕ) → number_for numbered v ≡ Ok id → is_ready v.stage ≡ true
ready_of numbered v id h = by (is_ready v.stage) (numbered && is_spent v.next_number) h
  where
    by : (a b : Bool) → cond a (cond b (Err error.Exhausted) (Ok v.next_number)) (Err error.Disconnected) ≡ Ok id → a ≡ true
    by true b g = refl
    by false b g = absurd cc

drawn_stage : (b : Bool) (v : Seen) → (drawn b v).stage ≡ v.stage
drawn_stage true v = refl
drawn_stage false v = refl

after_of_early : (n : Result ℕ ConnectionError) (now : ℕ) (words : Words) (v : Seen) → ((id : ℕ) → n ≡ Ok id → is_ready v.stage ≡ true) → Early v → Early (after_of n now words v)
after_of_early (Err e) now words v g h = h
after_of_early (Ok id) now words v g h = λ r.
    absurd (let no = sym (ap is_ready ((asks_for_apart (request id now words)).stage (drawn (is_numbered words) v) ∙ drawn_stage (is_numbered words) v) ∙ g id refl) ∙ r in cc)

cond_early : (b : Bool) (x y : Seen) → Early x → Early y → Early (cond b x y)
cond_early true x y h g = h
cond_early false x y h g = g

act_early : (act : Act) (v : Seen) → Early v → Early (after act v)
act_early (Opens now) v h = opens_early v.stage (ticked now v) refl h
act_early (Feeds piece) v h = cond_early (is_open v.stage) (record v { unread = v.unread ++ piece }) v h h
act_early (Takes now) v h = taken_early v.stage (front v.unread) (ticked now v) refl h
act_early (Asks now words) v h = after_of_early (number_for (is_numbered words) v) now words (ticked now v) (λ id e. ready_of (is_numbered words) v id e) h
act_early (Drains most now) v h = let b = record (ticked now v) { unwritten = drop most v.unwritten } in cond_early (is_open v.stage) (moved_up v.line b) (ticked now v) (moved_early b h) h
act_early (Closes cause) v h = cond_early (is_over v.stage) v (record v { stage = Over; error = Some cause; unwritten = []; line = []; waits = ended v.waits; unread = [] }) h (λ r. refl)

early : (s : Setup) (h : List Act) → Early (seen s h)
early s [] = λ r. refl
early s (act ∷ h) = act_early act (seen s h) (early s h)

-- WHAT AN ACT ADDS

record Adds (act : Act) (v w : Seen) : Type 0 where
  added : List (List ℕ)
  is : there w ≡ (left_in act v ++ standing_frames v.line) ++ added

adds : (act : Act) (v : Seen) → IsInLine v → Early v → is_over (after act v).stage ≡ false → Adds act v (after act v)
adds (Opens now) v h g o = let x = opens_more v.stage (ticked now v) refl g in record { added = x.more; is = x.is }
adds (Feeds piece) v h g o = let x = cond_more (is_open v.stage) v (record v { unread = v.unread ++ piece }) v (more_same v (record v { unread = v.unread ++ piece }) refl) (more_same v v refl) in record { added = x.more; is = x.is }
adds (Takes now) v h g o = let x = taken_more v.stage (front v.unread) (ticked now v) h in record { added = x.more; is = x.is }
adds (Asks now words) v h g o = let x = after_of_more (number_for (is_numbered words) v) now words (ticked now v) h in record { added = x.more; is = x.is }
adds (Drains most now) v h g o = by (is_open v.stage) refl
  where
    b : Seen
    b = record (ticked now v) { unwritten = drop most v.unwritten }

    by : (x : Bool) → is_open v.stage ≡ x → Adds (Drains most now) v (after (Drains most now) v)
    by true e = record {
      added = [];
      is = ap (λ x. there (cond x (moved_up v.line b) (ticked now v))) e ∙ moved_there v.line b
          ∙ ap (λ x. x ++ standing_frames v.line) (sym (drop_taken most v.unwritten) ∙ ap (λ x. drop (length (cond x (Rattle.std.proofs.Common.take most v.unwritten) [])) v.unwritten) (sym e))
          ∙ sym (append-nil (left_in (Drains most now) v ++ standing_frames v.line));
    }
    by false e = record {
      added = [];
      is = ap (λ x. there (cond x (moved_up v.line b) (ticked now v))) e
          ∙ ap (λ x. drop (length (cond x (Rattle.std.proofs.Common.take most v.unwritten) [])) v.unwritten ++ standing_frames v.line) (sym e)
          ∙ sym (append-nil (left_in (Drains most now) v ++ standing_frames v.line));
    }
adds (Closes cause) v h g o = by (is_over v.stage) refl
  where
    by : (x : Bool) → is_over v.stage ≡ x → Adds (Closes cause) v (after (Closes cause) v)
    by true e = absurd (let no = sym (ap (λ x. is_over (cond x v (record v { stage = Over; error = Some cause; unwritten = []; line = []; waits = ended v.waits; unread = [] })).stage) e ∙ e) ∙ o in cc)
    by false e = absurd (let no = sym (ap (λ x. is_over (cond x v (record v { stage = Over; error = Some cause; unwritten = []; line = []; waits = ended v.waits; unread = [] })).stage) e) ∙ o in cc)

cancel : (xs ys zs : List (List ℕ)) → xs ++ ys ≡ xs ++ zs → ys ≡ zs
cancel xs ys zs e = sym (drop_before xs ys) ∙ ap (drop (length xs)) e ∙ drop_before xs zs

pub asked_in_order : AskedInOrder
asked_in_order s act h over =
    let v = seen s h in
    let w = after act v in
    let a = adds act v (none_stands_beside_room s h) (early s h) over in
    let new : queued_in act v ++ standing_frames w.line ≡ standing_frames v.line ++ a.added =
    cancel (left_in act v) (queued_in act v ++ standing_frames w.line) (standing_frames v.line ++ a.added)
    (sym (append_assoc (left_in act v) (queued_in act v) (standing_frames w.line)) ∙ ap (λ x. x ++ standing_frames w.line) (sym (new_frames act v over)) ∙ a.is
    ∙ append_assoc (left_in act v) (standing_frames v.line) a.added) in
    (a.added, append_assoc (frames_queued s h) (standing_frames v.line) a.added ∙ ap (λ x. frames_queued s h ++ x) (sym new) ∙ sym (append_assoc (frames_queued s h) (queued_in act v) (standing_frames w.line)))
