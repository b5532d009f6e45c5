-- What leaves the line waits from then on.
use Rattle.std.proofs.Common.{◌≡◌, ◌∙◌, sym, ap, subst, refl, ℕ, ◌+◌, ◌<◌, Bool, true, false, cond, List, [], ◌∷◌, ◌++◌, length, drop, Option, arith}
use Rattle.std.specs.Option.{option_map}
use Rattle.pulsar_wire.specs.declared.awaited.Claim.{Claim}
use Rattle.pulsar_requests.specs.Waits.{Waits, request_at, request_of, with_next}
use Rattle.pulsar_session.specs.Link.{Seen, Standing, has_room, is_open, moved_up, queue, seen, ticked}
use Rattle.pulsar_session.specs.Laws.{MovedUpWaits, requests_at, requests_of}
use Rattle.pulsar_session.proofs.Deadlines.{queued_at}
use Rattle.pulsar_session.proofs.Settled.{rising}
use Rattle.pulsar_session.proofs.Steps.{Moves, Rises, absent_append, queue_moves, rises_append}

-- the moment of the queueing alone decides
same_requests : (place : ℕ) (c : Option Claim) (w : Waits) (xs : List Standing) → requests_of place (with_next c w) xs ≡ requests_of place w xs
same_requests place c w [] = refl
same_requests place c w (x ∷ xs) = ap (λ t. option_map (request_of place w) x.claim ∷ t) (same_requests (place + 1) c w xs)

record Leaves (line : List Standing) (v w : Seen) : Type 0 where
  moved : List Standing
  rest : moved ++ w.line ≡ line
  count : w.waits.queued ≡ v.waits.queued + length moved
  before : (n : ℕ) → n < v.waits.queued → request_at n w.waits.waiting ≡ request_at n v.waits.waiting
  at : requests_at v.waits.queued (length moved) w.waits.waiting ≡ requests_of v.waits.queued v.waits moved

stays : (line : List Standing) (v : Seen) → Leaves line v (record v { line = line })
stays line v = record { moved = []; rest = refl; count = omega arith; before = λ n lt. refl; at = refl }

leaves : (line : List Standing) (v : Seen) → Rises 0 v.waits.waiting v.waits.queued → Leaves line v (moved_up line v)
leaves [] v rise = stays [] v
leaves (s ∷ line) v rise = by (has_room v) refl (leaves line u rises)
  where
    u : Seen
    u = queue s.frame s.claim v

    m : Moves v u
    m = queue_moves s.frame s.claim v

    rises : Rises 0 u.waits.waiting u.waits.queued
    rises = subst (λ ps. Rises 0 ps u.waits.queued) (sym m.waiting) (rises_append 0 v.waits.waiting v.waits.queued m.more u.waits.queued rise m.rises)

    by : (b : Bool) → has_room v ≡ b → Leaves line u (moved_up line u) → Leaves (s ∷ line) v (moved_up (s ∷ line) v)
    by true e more = subst (λ x. Leaves (s ∷ line) v (cond x (moved_up line u) (record v { line = s ∷ line }))) (sym e) record {
      moved = s ∷ more.moved;
      rest = ap (λ t. s ∷ t) more.rest;
      count = omega (arith, more.count);
      before = λ n lt. more.before n (omega (arith, lt)) ∙ ap (request_at n) m.waiting ∙ absent_append n v.waits.queued v.waits.waiting m.more u.waits.queued lt m.rises;
      at =
          ap (λ x. x ∷ requests_at (v.waits.queued + 1) (length more.moved) (moved_up line u).waits.waiting) (more.before v.waits.queued (omega arith) ∙ queued_at s.claim v.waits rise)
          ∙ ap (λ t. option_map (request_of v.waits.queued v.waits) s.claim ∷ t) (more.at ∙ same_requests (v.waits.queued + 1) s.claim v.waits more.moved);
    }
    by false e more = subst (λ x. Leaves (s ∷ line) v (cond x (moved_up line u) (record v { line = s ∷ line }))) (sym e) (stays (s ∷ line) v)

pub moved_up_waits : MovedUpWaits
moved_up_waits s h most now = by (is_open v.stage)
  where
    v : Seen
    v = seen s h

    b : Seen
    b = record (ticked now v) { unwritten = drop most v.unwritten }

    by : (o : Bool) → let w = cond o (moved_up v.line b) (ticked now v) in
        (moved : List Standing) × (moved ++ w.line ≡ v.line) × (w.waits.queued ≡ v.waits.queued + length moved)
        × (requests_at v.waits.queued (length moved) w.waits.waiting ≡ requests_of v.waits.queued (ticked now v).waits moved)
    by true = let x = leaves v.line b (rising s h) in (x.moved, x.rest, x.count, x.at)
    by false = ([], refl, omega arith, refl)
