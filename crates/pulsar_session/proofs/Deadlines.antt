-- What waits, and when it is due.
use Rattle.std.proofs.Common.{◌≡◌, ◌∙◌, sym, ap, subst, refl, ℕ, ◌+◌, ◌≤◌, ◌<◌, ◌==◌, ◌||◌, ◌&&◌, Bool, true, false, cond, List, [], ◌∷◌, ◌++◌, Option, Some, None, Result, Ok, Err, arith}
use Rattle.std.proofs.lemmas.Bool.Decides.{nat_tests}
use Rattle.std.specs.List.{list_any}
use Rattle.std.specs.Option.{is_none, option_map}
use Rattle.pulsar_wire.specs.declared.error.ConnectionError.{ConnectionError}
use Rattle.pulsar_wire.specs.declared.error.ConnectionError.TheVariants as error
use Rattle.pulsar_wire.specs.declared.awaited.Claim.{Claim}
use Rattle.pulsar_session.specs.declared.states.Asked.TheVariants.{Queued}
use Rattle.pulsar_session.specs.Link.{Seen, after_of, answer_of, can_wait, drawn, due_in, frame_for, has_room, is_ready, number_for, place_in, place_of, put_frame, put_in, request, seen, ticked}
use Rattle.pulsar_messages.specs.Claims.{claim, is_spent}
use Rattle.pulsar_requests.specs.Waits.{Pending, Waits, is_due, is_overdue, is_some_due, request_at, request_of, waits_for}
use Rattle.pulsar_messages.specs.Words.{Words, is_numbered, when_full}
use Rattle.pulsar_session.specs.Laws.{DueIsOverdue, RequestOutcome, QueuedWaits, WaitsUntilSettled, outcome, told_of}
use Rattle.pulsar_session.proofs.Settled.{Stands, rising, stands_at}
use Rattle.pulsar_session.proofs.Steps.{Rises}

-- UNTIL IT IS SETTLED

stands_now : (o : Option RequestOutcome) (told : List RequestOutcome) (now : Option Pending) (r : Pending) → Stands o told now r → now ≡ cond (is_none o) (Some r) None
stands_now None told now r h = h.1
stands_now (Some o) told now r h = h.1

pub waits_until_settled : WaitsUntilSettled
waits_until_settled s later h r at = stands_now (outcome s r later h) (told_of s r.place later h) (request_at r.place (seen s (later ++ h)).waits.waiting) r (stands_at s later h r at).0

-- FROM ITS QUEUEING ON

absent_above : (n lo : ℕ) (ps : List Pending) (hi : ℕ) → hi ≤ n → Rises lo ps hi → request_at n ps ≡ None
absent_above n lo [] hi le h = refl
absent_above n lo (p ∷ ps) hi le h = by (p.place == n) refl (below p.place ps h.1) (absent_above n (p.place + 1) ps hi le h.1)
  where
    below : (q : ℕ) (qs : List Pending) → Rises (q + 1) qs hi → q < hi
    below q [] g = omega (arith, g)
    below q (x ∷ xs) g = let lt = below x.place xs g.1 in omega (arith, lt, g.0)

    by : (b : Bool) → (p.place == n) ≡ b → p.place < hi → request_at n ps ≡ None → request_at n (p ∷ ps) ≡ None
    by true e lt more = absurd (let same : p.place ≡ n = grind (arith, nat_tests) in omega (arith, same, lt, le))
    by false e lt more = rw e more

at_end : (n : ℕ) (xs ys : List Pending) → request_at n xs ≡ None → request_at n (xs ++ ys) ≡ request_at n ys
at_end n [] ys h = refl
at_end n (x ∷ xs) ys h = by (x.place == n) refl (λ h'. at_end n xs ys h')
  where
    by : (b : Bool) → (x.place == n) ≡ b → (request_at n xs ≡ None → request_at n (xs ++ ys) ≡ request_at n ys) → request_at n (x ∷ (xs ++ ys)) ≡ request_at n ys
    by true e more = absurd (let no = rw e at h in cc)
    by false e more = rw e (more (rw e at h))

at_itself : (n : ℕ) (p : Pending) → p.place ≡ n → request_at n (p ∷ []) ≡ Some p
at_itself n p e = let here : (p.place == n) ≡ true = grind (arith, nat_tests, e) in rw here refl

pub queued_at : (c : Option Claim) (w : Waits) → Rises 0 w.waiting w.queued → request_at w.queued (w.waiting ++ waits_for c w) ≡ option_map (request_of w.queued w) c
queued_at None w h = at_end w.queued w.waiting [] (absent_above w.queued 0 w.waiting w.queued (omega arith) h)
queued_at (Some c) w h = at_end w.queued w.waiting (waits_for (Some c) w) (absent_above w.queued 0 w.waiting w.queued (omega arith) h) ∙ at_itself w.queued (request_of w.queued w c) refl

put_in_waits : (room : Bool) (f : Bool) (frame : List ℕ) (c : Option Claim) (v : Seen) (place : ℕ) → Rises 0 v.waits.waiting v.waits.queued → place_in room f (Some frame) v ≡ Ok (Queued place) →
    request_at place (put_in room f frame c v).waits.waiting ≡ option_map (request_of place v.waits) c
put_in_waits true f frame c v place h e =
    let same : v.waits.queued ≡ place = cc in
    subst (λ n. request_at n (v.waits.waiting ++ waits_for c v.waits) ≡ option_map (request_of n v.waits) c) same (queued_at c v.waits h)
put_in_waits false true frame c v place h e = absurd cc
put_in_waits false false frame c v place h e = absurd cc

put_frame_waits : (frame : Option (List ℕ)) (f : Bool) (c : Option Claim) (v : Seen) (place : ℕ) → Rises 0 v.waits.waiting v.waits.queued → place_of frame f v ≡ Ok (Queued place) →
    request_at place (put_frame frame f c v).waits.waiting ≡ option_map (request_of place v.waits) c
put_frame_waits None f c v place h e = absurd (unplaced (has_room v) f e)
  where
    unplaced : (room f : Bool) → place_in room f None v ≡ Ok (Queued place) → ⊥
    unplaced true f e = cc
    unplaced false true e = cc
    unplaced false false e = cc
put_frame_waits (Some frame) f c v place h e = put_in_waits (has_room v) f frame c v place h e

drawn_waits : (b : Bool) (v : Seen) → (drawn b v).waits ≡ v.waits
drawn_waits true v = refl
drawn_waits false v = refl

number_is : (numbered : Bool) (v : Seen) (id : ℕ) → number_for numbered v ≡ Ok id → id ≡ v.next_number
number_is numbered v id h = by (is_ready v.stage) (numbered && is_spent v.next_number) h
  where
    by : (a b : Bool) → cond a (cond b (Err error.Exhausted) (Ok v.next_number)) (Err error.Disconnected) ≡ Ok id → id ≡ v.next_number
    by true true g = absurd cc
    by true false g = cc
    by false b g = absurd cc

after_of_waits : (r : Result ℕ ConnectionError) (now : ℕ) (words : Words) (v : Seen) (place next : ℕ) → Rises 0 v.waits.waiting v.waits.queued → ((id : ℕ) → r ≡ Ok id → id ≡ next) →
    answer_of r now words v ≡ Ok (Queued place) → request_at place (after_of r now words v).waits.waiting ≡ option_map (request_of place v.waits) (claim next words)
after_of_waits (Err e) now words v place next h n a = absurd cc
after_of_waits (Ok id) now words v place next h n a =
    let d = drawn (is_numbered words) v in
    let same = drawn_waits (is_numbered words) v in
    put_frame_waits (frame_for (request id now words).message) (can_wait (when_full words)) (claim id words) d place (subst (λ w. Rises 0 w.waiting w.queued) (sym same) h) a
    ∙ ap (λ w. option_map (request_of place w) (claim id words)) same
    ∙ ap (λ i. option_map (request_of place v.waits) (claim i words)) (n id refl)

pub queued_waits : QueuedWaits
queued_waits s h now words place e =
    let v = seen s h in
    after_of_waits (number_for (is_numbered words) v) now words (ticked now v) place v.next_number (rising s h) (λ id g. number_is (is_numbered words) v id g) e

-- DUE

-- each of a list of requests is the one of its place
any_overdue : (now : ℕ) (w : Waits) (xs ps : List Pending) (lo : ℕ) → w.waiting ≡ xs ++ ps → ((n : ℕ) → lo ≤ n → request_at n xs ≡ None) → Rises lo ps w.queued →
    list_any (is_due now w.excused) ps ≡ list_any (λ p. is_overdue p.place now w) ps
any_overdue now w xs [] lo e above h = refl
any_overdue now w xs (p ∷ ps) lo e above h =
    let here : is_overdue p.place now w ≡ is_due now w.excused p =
    ap (is_some_due now w.excused) (ap (request_at p.place) e ∙ at_end p.place xs (p ∷ ps) (above p.place h.0) ∙ first_at p ps) in
    let more = any_overdue now w (xs ++ p ∷ []) ps (p.place + 1) (e ∙ sym (append_one xs p ps)) (λ n le. at_end n xs (p ∷ []) (above n (omega (arith, le, h.0))) ∙ absent_above n 0 (p ∷ []) (p.place + 1) le (omega arith, omega arith)) h.1 in
    ap (λ b. b || list_any (is_due now w.excused) ps) (sym here) ∙ ap (λ b. is_overdue p.place now w || b) more
  where
    first_at : (p : Pending) (ps : List Pending) → request_at p.place (p ∷ ps) ≡ Some p
    first_at p ps = let same : (p.place == p.place) ≡ true = grind (arith, nat_tests) in rw same refl

    append_one : (xs : List Pending) (p : Pending) (ps : List Pending) → (xs ++ p ∷ []) ++ ps ≡ xs ++ p ∷ ps
    append_one [] p ps = refl
    append_one (x ∷ xs) p ps = ap (λ t. x ∷ t) (append_one xs p ps)

pub due_is_overdue : DueIsOverdue
due_is_overdue s h now ready =
    let v = seen s h in
    ap (λ x. due_in x now v) ready ∙ any_overdue now v.waits [] v.waits.waiting 0 refl (λ n le. refl) (rising s h)
