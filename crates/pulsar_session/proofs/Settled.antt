-- A request is settled once.
use Rattle.std.proofs.Common.{◌≡◌, ◌∙◌, sym, ap, subst, refl, ℕ, ◌≤◌, ◌<◌, Bool, true, false, not, cond, List, [], ◌∷◌, ◌++◌, filter, length, drop, take, zero, suc, Option, Some, None, arith, append-nil, append_assoc, length-append}
use Rattle.std.specs.Option.{is_some, option_or, option_to_list}
use Rattle.pulsar_wire.specs.declared.error.ConnectionError.{ConnectionError}
use Rattle.pulsar_wire.specs.declared.key.RequestKey.{RequestKey}
use Rattle.pulsar_wire.specs.declared.key.RequestKey.TheVariants.{RequestId, ProducerSend, Consumer, CloseConsumer, AuthChallenge}
use Rattle.std.proofs.Common.{Result, Ok, Err}
use Rattle.pulsar_frame.specs.Message.{MessageValues}
use Rattle.pulsar_frame.specs.Key.{key}
use Rattle.pulsar_frame.specs.Frame.{Front, Short, Refused, Whole, front}
use Rattle.pulsar_session.specs.declared.states.Stage.{Stage}
use Rattle.pulsar_session.specs.declared.states.Stage.TheVariants.{Dialing, Handshaking, Ready, Over}
use Rattle.pulsar_session.specs.Answers.{answers, is}
use Rattle.pulsar_wire.specs.Failures.{Fault}
use Rattle.pulsar_messages.specs.Messages.{connect_command}
use Rattle.pulsar_messages.specs.Words.{Words, is_numbered}
use Rattle.pulsar_session.specs.Link.{Act, Asks, Closes, Drains, Feeds, Opens, Seen, Setup, Takes, after, after_of, answered_to, asks_for, bare, came_by, came_in, closes, drains, drawn, feeds, greeted, greeted_by, is_open, is_over, moved_up, number_for, opens_in, received, request, seen, settled_by, taken_in, ticked, unasked}
use Rattle.pulsar_requests.specs.Waits.{Pending, ended, places, request_at}
use Rattle.pulsar_session.specs.Laws.{RequestOutcome, Replied, Ended, SettledByFirst, PlacesCount, WrittenInOrder, answered_in, frames_queued, frames_written, is_named, left_in, outcome, queued_in, settles, told_by, told_in, told_of, written_in}
use Rattle.pulsar_session.proofs.Steps.{Moves, Rises, absent_append, absent_filter, asks_for_moves, found_filter, greets_moves, is_named_at, moved_up_moves, moves_same, moves_then, place_below, rises_append, rises_filter, rises_le, unless_moves}

-- WHAT AN ACT DOES TO THE REQUESTS

-- Those that wait are asked for a test, which they may fail; the others go on, and some that are queued follow.
pub record Passes (act : Act) (v w : Seen) : Type 0 where
  pub kept : Pending → Bool
  pub between : Seen
  pub waiting : between.waits.waiting ≡ filter kept v.waits.waiting
  pub count : between.waits.queued ≡ v.waits.queued
  pub moves : Moves between w
  pub left : is_over w.stage ≡ false → between.unwritten ≡ left_in act v
  pub goes_on : is_over w.stage ≡ false → is_over v.stage ≡ false
  pub tells : (n : ℕ) (r : Pending) → request_at n v.waits.waiting ≡ Some r → Rises 0 v.waits.waiting v.waits.queued → (told_in act v n ≡ settles act v r) × (is_some (settles act v r) ≡ not (kept r))
  pub silent : (n : ℕ) → request_at n v.waits.waiting ≡ None → told_in act v n ≡ None

filter_true : (ps : List Pending) → ps ≡ filter (λ p. true) ps
filter_true [] = refl
filter_true (p ∷ ps) = ap (λ t. p ∷ t) (filter_true ps)

filter_false : (ps : List Pending) → [] ≡ filter (λ p. false) ps
filter_false [] = refl
filter_false (p ∷ ps) = filter_false ps

-- an act that settles nothing
quiet : (act : Act) (v b w : Seen) → b.waits.waiting ≡ v.waits.waiting → b.waits.queued ≡ v.waits.queued → Moves b w → b.unwritten ≡ left_in act v → is_over b.stage ≡ is_over v.stage →
    ((n : ℕ) → told_in act v n ≡ None) → ((r : Pending) → settles act v r ≡ None) → Passes act v w
quiet act v b w same count moves left over told settles_none = record {
  kept = λ p. true;
  between = b;
  waiting = same ∙ filter_true v.waits.waiting;
  count = count;
  moves = moves;
  left = λ o. left;
  goes_on = λ o. sym over ∙ sym moves.over ∙ o;
  tells = λ n r e h. (told n ∙ sym (settles_none r), ap is_some (settles_none r));
  silent = λ n e. told n;
}

unasked_tells : (n : ℕ) (m : MessageValues) (b : Bool) (k : Option RequestKey) → is 36 m ≡ b → key m ≡ k → told_by n (unasked m) ≡ None
unasked_tells n m true k e g = rw e refl
unasked_tells n m false None e g = rw (e, g) refl
unasked_tells n m false (Some (RequestId i)) e g = rw (e, g) refl
unasked_tells n m false (Some (ProducerSend p s)) e g = rw (e, g) refl
unasked_tells n m false (Some (Consumer c)) e g = rw (e, g) refl
unasked_tells n m false (Some (CloseConsumer c i)) e g = rw (e, g) refl
unasked_tells n m false (Some AuthChallenge) e g = rw (e, g) refl

came_tells : (n : ℕ) (ps : List ℕ) (m : MessageValues) → told_by n (came_by ps m) ≡ cond (is_named n ps) (Some (Replied m)) None
came_tells n [] m = unasked_tells n m (is 36 m) (key m) refl refl
came_tells n (p ∷ ps) m = refl

some_of : (b : Bool) (r : Pending) (o : RequestOutcome) → cond (is_some (cond b (Some r) None)) (Some o) None ≡ cond b (Some o) None
some_of true r o = refl
some_of false r o = refl

is_some_of : (b : Bool) (o : RequestOutcome) → is_some (cond b (Some o) None) ≡ not (not b)
is_some_of true o = refl
is_some_of false o = refl

module _ (now : ℕ) (v : Seen) (stage : Stage) (f : Front) (e : v.stage ≡ stage) (g : front v.unread ≡ f) where
  onto : Passes (Takes now) v (taken_in stage f (ticked now v)) → Passes (Takes now) v (taken_in v.stage (front v.unread) (ticked now v))
  onto p = subst (λ s. Passes (Takes now) v (taken_in s (front v.unread) (ticked now v))) (sym e) (subst (λ x. Passes (Takes now) v (taken_in stage x (ticked now v))) (sym g) p)

  tells_at : (n : ℕ) → told_in (Takes now) v n ≡ told_by n (came_in stage f v)
  tells_at n = ap (λ s. told_by n (came_in s (front v.unread) v)) e ∙ ap (λ x. told_by n (came_in stage x v)) g

  settles_at : (r : Pending) → settles (Takes now) v r ≡ answered_in stage f r
  settles_at r = ap (λ s. answered_in s (front v.unread) r) e ∙ ap (λ x. answered_in stage x r) g

-- the next frame of a ready link
taken_passes : (now : ℕ) (v : Seen) (m : MessageValues) (rest : List ℕ) → v.stage ≡ Ready → front v.unread ≡ Whole m rest → Passes (Takes now) v (received m (record (ticked now v) { unread = rest }))
taken_passes now v m rest ready e =
    let u = record (ticked now v) { unread = rest } in
    let b = record u { waits = answered_to m u.waits } in
    let told : (n : ℕ) → told_in (Takes now) v n ≡ cond (is_some (request_at n (settled_by m v))) (Some (Replied m)) None = λ n.
    tells_at now v Ready (Whole m rest) ready e n ∙ came_tells n (places (settled_by m v)) m ∙ ap (λ x. cond x (Some (Replied m)) None) (is_named_at n (settled_by m v)) in
    record {
      kept = λ p. not (answers m p.awaits);
      between = b;
      waiting = refl;
      count = refl;
      moves = unless_moves (places (settled_by m u)) m b;
      left = λ o. refl;
      goes_on = λ o. ap is_over ready;
      tells = λ n r at h. (
        told n ∙ ap (λ x. cond (is_some x) (Some (Replied m)) None) (found_filter (λ p. answers m p.awaits) n 0 v.waits.waiting v.waits.queued r h at) ∙ some_of (answers m r.awaits) r (Replied m)
            ∙ sym (settles_at now v Ready (Whole m rest) ready e r),
        ap is_some (settles_at now v Ready (Whole m rest) ready e r) ∙ is_some_of (answers m r.awaits) (Replied m),
      );
      silent = λ n none. told n ∙ ap (λ x. cond (is_some x) (Some (Replied m)) None) (absent_filter (λ p. answers m p.awaits) n v.waits.waiting none);
    }

greeted_told : (n : ℕ) (b : Bool) → told_by n (greeted_by b) ≡ None
greeted_told n true = refl
greeted_told n false = refl

-- the first frame
greeted_passes : (now : ℕ) (v : Seen) (rest : List ℕ) (b : Bool) → v.stage ≡ Handshaking → ((n : ℕ) → told_in (Takes now) v n ≡ None) → ((r : Pending) → settles (Takes now) v r ≡ None) →
    Passes (Takes now) v (greeted b rest (ticked now v))
greeted_passes now v rest true e told settled =
    let w = record (ticked now v) { stage = Ready; unread = rest } in quiet (Takes now) v w w refl refl (moves_same w) refl (sym (ap is_over e)) told settled
greeted_passes now v rest false e told settled = quiet (Takes now) v (ticked now v) (ticked now v) refl refl (moves_same (ticked now v)) refl refl told settled

takes_passes : (now : ℕ) (v : Seen) (stage : Stage) (f : Front) → v.stage ≡ stage → front v.unread ≡ f → Passes (Takes now) v (taken_in v.stage (front v.unread) (ticked now v))
takes_passes now v Dialing f e g = onto now v Dialing f e g (quiet (Takes now) v (ticked now v) (ticked now v) refl refl (moves_same (ticked now v)) refl refl (tells_at now v Dialing f e g) (settles_at now v Dialing f e g))
takes_passes now v Over f e g = onto now v Over f e g (quiet (Takes now) v (ticked now v) (ticked now v) refl refl (moves_same (ticked now v)) refl refl (tells_at now v Over f e g) (settles_at now v Over f e g))
takes_passes now v Handshaking Short e g = onto now v Handshaking Short e g (quiet (Takes now) v (ticked now v) (ticked now v) refl refl (moves_same (ticked now v)) refl refl (tells_at now v Handshaking Short e g) (settles_at now v Handshaking Short e g))
takes_passes now v Handshaking (Refused x) e g = onto now v Handshaking (Refused x) e g (quiet (Takes now) v (ticked now v) (ticked now v) refl refl (moves_same (ticked now v)) refl refl (tells_at now v Handshaking (Refused x) e g) (settles_at now v Handshaking (Refused x) e g))
takes_passes now v Handshaking (Whole m rest) e g =
    onto now v Handshaking (Whole m rest) e g (greeted_passes now v rest (is 3 m) e
    (λ n. tells_at now v Handshaking (Whole m rest) e g n ∙ greeted_told n (is 3 m)) (settles_at now v Handshaking (Whole m rest) e g))
takes_passes now v Ready Short e g = onto now v Ready Short e g (quiet (Takes now) v (ticked now v) (ticked now v) refl refl (moves_same (ticked now v)) refl refl (tells_at now v Ready Short e g) (settles_at now v Ready Short e g))
takes_passes now v Ready (Refused x) e g = onto now v Ready (Refused x) e g (quiet (Takes now) v (ticked now v) (ticked now v) refl refl (moves_same (ticked now v)) refl refl (tells_at now v Ready (Refused x) e g) (settles_at now v Ready (Refused x) e g))
takes_passes now v Ready (Whole m rest) e g = onto now v Ready (Whole m rest) e g (taken_passes now v m rest e g)

opens_moves : (stage : Stage) (v : Seen) → is_over v.stage ≡ is_over stage → Moves v (opens_in stage v)
opens_moves Dialing v e =
    let b = record v { stage = Handshaking } in
    let h = greets_moves (bare (connect_command v.setup.auth v.setup.proxy)) b in
    record { more = h.more; frames = h.frames; waiting = h.waiting; unwritten = h.unwritten; rises = h.rises; count = h.count; over = h.over ∙ sym e }
opens_moves Handshaking v e = moves_same v
opens_moves Ready v e = moves_same v
opens_moves Over v e = moves_same v

drawn_moves : (b : Bool) (v : Seen) → Moves v (drawn b v)
drawn_moves true v = record { more = []; frames = []; waiting = sym (append-nil v.waits.waiting); unwritten = sym (append-nil v.unwritten); rises = omega arith; count = omega arith; over = refl }
drawn_moves false v = moves_same v

after_of_moves : (n : Result ℕ ConnectionError) (now : ℕ) (words : Words) (v : Seen) → Moves v (after_of n now words v)
after_of_moves (Err e) now words v = moves_same v
after_of_moves (Ok id) now words v = moves_then v (drawn (is_numbered words) v) (asks_for (request id now words) (drawn (is_numbered words) v)) (drawn_moves (is_numbered words) v) (asks_for_moves (request id now words) (drawn (is_numbered words) v))

feeds_passes : (piece : List ℕ) (v : Seen) (b : Bool) → is_open v.stage ≡ b → Passes (Feeds piece) v (feeds piece v)
feeds_passes piece v true e = let w = record v { unread = v.unread ++ piece } in rw e (quiet (Feeds piece) v w w refl refl (moves_same w) refl refl (λ n. refl) (λ r. refl))
feeds_passes piece v false e = rw e (quiet (Feeds piece) v v v refl refl (moves_same v) refl refl (λ n. refl) (λ r. refl))

pub drop_taken : (n : ℕ) (xs : List (List ℕ)) → drop (length (take n xs)) xs ≡ drop n xs
drop_taken zero xs = refl
drop_taken (suc n) [] = refl
drop_taken (suc n) (x ∷ xs) = drop_taken n xs

drains_passes : (most now : ℕ) (v : Seen) (b : Bool) → is_open v.stage ≡ b → Passes (Drains most now) v (drains most now v)
drains_passes most now v true e =
    let b = record (ticked now v) { unwritten = drop most v.unwritten } in
    rw e (quiet (Drains most now) v b (moved_up v.line b) refl refl (moved_up_moves v.line b) (rw e (sym (drop_taken most v.unwritten))) refl (λ n. refl) (λ r. refl))
drains_passes most now v false e = rw e (quiet (Drains most now) v (ticked now v) (ticked now v) refl refl (moves_same (ticked now v)) (rw e refl) refl (λ n. refl) (λ r. refl))

closes_passes : (cause : Fault) (v : Seen) (b : Bool) → is_over v.stage ≡ b → Passes (Closes cause) v (closes cause v)
closes_passes cause v true e = rw e (quiet (Closes cause) v v v refl refl (moves_same v) refl refl (λ n. rw e refl) (λ r. rw e refl))
closes_passes cause v false e =
    let w = record v { stage = Over; error = Some cause; unwritten = []; line = []; waits = ended v.waits; unread = [] } in
    rw e record {
      kept = λ p. false;
      between = w;
      waiting = filter_false v.waits.waiting;
      count = refl;
      moves = moves_same w;
      left = λ o. absurd cc;
      goes_on = λ o. absurd cc;
      tells = λ n r at h. (rw e (ap (λ x. cond x (Some (Ended cause)) None) (is_named_at n v.waits.waiting ∙ ap is_some at)), rw e refl);
      silent = λ n none. rw e (ap (λ x. cond x (Some (Ended cause)) None) (is_named_at n v.waits.waiting ∙ ap is_some none));
    }

pub passes : (act : Act) (v : Seen) → Passes act v (after act v)
passes (Opens now) v = quiet (Opens now) v (ticked now v) (after (Opens now) v) refl refl (opens_moves v.stage (ticked now v) refl) refl refl (λ n. refl) (λ r. refl)
passes (Feeds piece) v = feeds_passes piece v (is_open v.stage) refl
passes (Takes now) v = takes_passes now v v.stage (front v.unread) refl refl
passes (Asks now words) v = quiet (Asks now words) v (ticked now v) (after (Asks now words) v) refl refl (after_of_moves (number_for (is_numbered words) v) now words (ticked now v)) refl refl (λ n. refl) (λ r. refl)
passes (Drains most now) v = drains_passes most now v (is_open v.stage) refl
passes (Closes cause) v = closes_passes cause v (is_over v.stage) refl

-- OVER A HISTORY

-- places ascend and stay below the number of the queued frames
pub rising : (s : Setup) (h : List Act) → Rises 0 (seen s h).waits.waiting (seen s h).waits.queued
rising s [] = omega arith
rising s (act ∷ h) =
    let v = seen s h in
    let w = after act v in
    let p = passes act v in
    let before = subst (λ ps. Rises 0 ps v.waits.queued) (sym p.waiting) (rises_filter p.kept 0 v.waits.waiting v.waits.queued (rising s h)) in
    let moved = subst (λ n. Rises n p.moves.more w.waits.queued) p.count p.moves.rises in
    subst (λ ps. Rises 0 ps w.waits.queued) (sym p.moves.waiting) (rises_append 0 p.between.waits.waiting v.waits.queued p.moves.more w.waits.queued before moved)

pub grows : (act : Act) (v : Seen) → v.waits.queued ≤ (after act v).waits.queued
grows act v = let p = passes act v in let le = rises_le p.between.waits.queued p.moves.more (after act v).waits.queued p.moves.rises in subst (λ n. n ≤ (after act v).waits.queued) p.count le

-- the request of a place, after an act
pub at_after : (act : Act) (v : Seen) (n : ℕ) → n < v.waits.queued → request_at n (after act v).waits.waiting ≡ request_at n (filter (passes act v).kept v.waits.waiting)
at_after act v n lt =
    let p = passes act v in
    ap (request_at n) p.moves.waiting
    ∙ absent_append n p.between.waits.queued p.between.waits.waiting p.moves.more (after act v).waits.queued (subst (λ x. n < x) (sym p.count) lt) p.moves.rises
    ∙ ap (request_at n) p.waiting

-- where a request stands: it waits and is told nothing, or it was told once and waits no longer
abbrev pub Stands : Option RequestOutcome → List RequestOutcome → Option Pending → Pending → Type 0
Stands None told now r = (told ≡ []) × (now ≡ Some r)
Stands (Some o) told now r = (told ≡ o ∷ []) × (now ≡ None)

stands_next : (before : Option RequestOutcome) (told : List RequestOutcome) (act : Act) (v : Seen) (r : Pending) → Rises 0 v.waits.waiting v.waits.queued → r.place < v.waits.queued →
    Stands before told (request_at r.place v.waits.waiting) r →
    Stands (option_or before (settles act v r)) (told ++ option_to_list (told_in act v r.place)) (request_at r.place (after act v).waits.waiting) r
stands_next (Some o) told act v r rise lt h =
    let p = passes act v in
    (rw (p.silent r.place h.1) (append-nil told ∙ h.0), at_after act v r.place lt ∙ absent_filter p.kept r.place v.waits.waiting h.1)
stands_next None told act v r rise lt h = by (settles act v r) ((passes act v).kept r) refl refl
  where
    by : (o : Option RequestOutcome) (kept : Bool) → settles act v r ≡ o → (passes act v).kept r ≡ kept → Stands (settles act v r) (told ++ option_to_list (told_in act v r.place)) (request_at r.place (after act v).waits.waiting) r
    by None true e k =
        let p = passes act v in let t = p.tells r.place r h.1 rise in
        rw e (
          ap (λ x. told ++ option_to_list x) (t.0 ∙ e) ∙ append-nil told ∙ h.0,
          at_after act v r.place lt ∙ found_filter p.kept r.place 0 v.waits.waiting v.waits.queued r rise h.1 ∙ ap (λ b. cond b (Some r) None) k,
        )
    by None false e k = let t = (passes act v).tells r.place r h.1 rise in absurd (let no = sym (ap is_some e) ∙ t.1 ∙ ap not k in cc)
    by (Some o) true e k = let t = (passes act v).tells r.place r h.1 rise in absurd (let no = sym (ap is_some e) ∙ t.1 ∙ ap not k in cc)
    by (Some o) false e k =
        let p = passes act v in let t = p.tells r.place r h.1 rise in
        rw e (
          ap (λ x. told ++ option_to_list x) (t.0 ∙ e) ∙ ap (λ x. x ++ o ∷ []) h.0,
          at_after act v r.place lt ∙ found_filter p.kept r.place 0 v.waits.waiting v.waits.queued r rise h.1 ∙ ap (λ b. cond b (Some r) None) k,
        )

pub stands_at : (s : Setup) (later h : List Act) (r : Pending) → request_at r.place (seen s h).waits.waiting ≡ Some r →
    Stands (outcome s r later h) (told_of s r.place later h) (request_at r.place (seen s (later ++ h)).waits.waiting) r × (r.place < (seen s (later ++ h)).waits.queued)
stands_at s [] h r at = ((refl, at), place_below r.place 0 (seen s h).waits.waiting (seen s h).waits.queued r (rising s h) at)
stands_at s (act ∷ later) h r at =
    let before = stands_at s later h r at in
    let v = seen s (later ++ h) in
    let more = grows act v in
    (stands_next (outcome s r later h) (told_of s r.place later h) act v r (rising s (later ++ h)) before.1 before.0, omega (arith, more, before.1))

told_list : (o : Option RequestOutcome) (told : List RequestOutcome) (now : Option Pending) (r : Pending) → Stands o told now r → told ≡ option_to_list o
told_list None told now r h = h.0
told_list (Some o) told now r h = h.0

pub settled_by_first : SettledByFirst
settled_by_first s later h r at = told_list (outcome s r later h) (told_of s r.place later h) (request_at r.place (seen s (later ++ h)).waits.waiting) r (stands_at s later h r at).0

-- FRAMES

pub drop_before : (xs ys : List (List ℕ)) → drop (length xs) (xs ++ ys) ≡ ys
drop_before [] ys = refl
drop_before (x ∷ xs) ys = drop_before xs ys

take_rest : (n : ℕ) (xs : List (List ℕ)) → take n xs ++ drop (length (take n xs)) xs ≡ xs
take_rest zero xs = refl
take_rest (suc n) [] = refl
take_rest (suc n) (x ∷ xs) = ap (λ t. x ∷ t) (take_rest n xs)

-- what is written and what is left
parts : (act : Act) (v : Seen) → written_in act v ++ left_in act v ≡ v.unwritten
parts (Opens now) v = refl
parts (Feeds piece) v = refl
parts (Takes now) v = refl
parts (Asks now words) v = refl
parts (Drains most now) v = by (is_open v.stage) refl
  where
    by : (b : Bool) → is_open v.stage ≡ b → written_in (Drains most now) v ++ left_in (Drains most now) v ≡ v.unwritten
    by true e = rw e (take_rest most v.unwritten)
    by false e = rw e refl
parts (Closes cause) v = refl

pub new_frames : (act : Act) (v : Seen) → is_over (after act v).stage ≡ false → (after act v).unwritten ≡ left_in act v ++ queued_in act v
new_frames act v over =
    let p = passes act v in
    let new : (after act v).unwritten ≡ left_in act v ++ p.moves.frames = p.moves.unwritten ∙ ap (λ x. x ++ p.moves.frames) (p.left over) in
    new ∙ ap (λ x. left_in act v ++ x) (sym (ap (drop (length (left_in act v))) new ∙ drop_before (left_in act v) p.moves.frames))

pub written_in_order : WrittenInOrder
written_in_order s [] over = refl
written_in_order s (act ∷ h) over =
    let v = seen s h in
    let w = after act v in
    let p = passes act v in
    let new : w.unwritten ≡ left_in act v ++ p.moves.frames = p.moves.unwritten ∙ ap (λ x. x ++ p.moves.frames) (p.left over) in
    let queued : queued_in act v ≡ p.moves.frames = ap (drop (length (left_in act v))) new ∙ drop_before (left_in act v) p.moves.frames in
    let before = written_in_order s h (p.goes_on over) in
    ap (λ x. (frames_written s h ++ written_in act v) ++ x) new
    ∙ append_assoc (frames_written s h) (written_in act v) (left_in act v ++ p.moves.frames)
    ∙ ap (λ x. frames_written s h ++ x) (sym (append_assoc (written_in act v) (left_in act v) p.moves.frames) ∙ ap (λ x. x ++ p.moves.frames) (parts act v))
    ∙ sym (append_assoc (frames_written s h) v.unwritten p.moves.frames)
    ∙ ap (λ x. x ++ p.moves.frames) before
    ∙ ap (λ x. frames_queued s h ++ x) (sym queued)

pub places_count : PlacesCount
places_count s [] over = refl
places_count s (act ∷ h) over =
    let v = seen s h in
    let p = passes act v in
    let new : (after act v).unwritten ≡ left_in act v ++ p.moves.frames = p.moves.unwritten ∙ ap (λ x. x ++ p.moves.frames) (p.left over) in
    let queued : queued_in act v ≡ p.moves.frames = ap (drop (length (left_in act v))) new ∙ drop_before (left_in act v) p.moves.frames in
    let before = places_count s h (p.goes_on over) in
    let len = length-append (frames_queued s h) (queued_in act v) in
    let same = ap length queued in
    let count = p.moves.count in
    let kept = p.count in
    omega (arith, len, same, before, count, kept)
