-- What one act does to what is seen.
use Rattle.std.proofs.Common.{◌≡◌, ◌∙◌, sym, ap, subst, refl, ℕ, ◌+◌, ◌≤◌, ◌<◌, ◌==◌, Bool, true, false, cond, List, [], ◌∷◌, ◌++◌, length, filter, Option, Some, None, arith, append_assoc, append-nil, length-append}
use Rattle.std.proofs.lemmas.Bool.Decides.{nat_tests}
use Rattle.std.specs.List.{list_any}
use Rattle.std.specs.Option.{is_some}
use Rattle.pulsar_frame.specs.Message.{MessageValues}
use Rattle.pulsar_wire.specs.declared.awaited.Claim.{Claim}
use Rattle.pulsar_session.specs.Answers.{is}
use Rattle.pulsar_session.specs.Link.{Request, Seen, Standing, asks_for, can_wait, challenged, frame_for, greets, greets_with, has_room, is_over, moved_up, named_by, pongs, put_frame, put_in, queue, reacts, reacts_unless, responds, unready_in}
use Rattle.pulsar_requests.specs.Waits.{Pending, places, request_at, waits_for}
use Rattle.pulsar_messages.specs.Content.{AuthenticationValues}

-- PLACES

-- the places of these requests ascend from one number on, and stay below another
abbrev pub Rises : ℕ → List Pending → ℕ → Type 0
Rises lo [] hi = lo ≤ hi
Rises lo (p ∷ ps) hi = (lo ≤ p.place) × Rises (p.place + 1) ps hi

pub rises_le : (lo : ℕ) (ps : List Pending) (hi : ℕ) → Rises lo ps hi → lo ≤ hi
rises_le lo [] hi h = h
rises_le lo (p ∷ ps) hi h = let le = rises_le (p.place + 1) ps hi h.1 in omega (arith, le, h.0)

pub rises_from : (lo lo' : ℕ) (ps : List Pending) (hi : ℕ) → lo' ≤ lo → Rises lo ps hi → Rises lo' ps hi
rises_from lo lo' [] hi le h = omega (arith, le, h)
rises_from lo lo' (p ∷ ps) hi le h = (omega (arith, le, h.0), h.1)

pub rises_append : (lo : ℕ) (xs : List Pending) (mid : ℕ) (ys : List Pending) (hi : ℕ) → Rises lo xs mid → Rises mid ys hi → Rises lo (xs ++ ys) hi
rises_append lo [] mid ys hi h g = rises_from mid lo ys hi h g
rises_append lo (x ∷ xs) mid ys hi h g = (h.0, rises_append (x.place + 1) xs mid ys hi h.1 g)

pub rises_filter : (test : Pending → Bool) (lo : ℕ) (ps : List Pending) (hi : ℕ) → Rises lo ps hi → Rises lo (filter test ps) hi
rises_filter test lo [] hi h = h
rises_filter test lo (p ∷ ps) hi h = by (test p) refl (rises_filter test (p.place + 1) ps hi h.1)
  where
    by : (b : Bool) → test p ≡ b → Rises (p.place + 1) (filter test ps) hi → Rises lo (filter test (p ∷ ps)) hi
    by true e more = rw e (h.0, more)
    by false e more = rw e (rises_from (p.place + 1) lo (filter test ps) hi (omega (arith, h.0)) more)

pub absent_below : (n lo : ℕ) (ps : List Pending) (hi : ℕ) → n < lo → Rises lo ps hi → request_at n ps ≡ None
absent_below n lo [] hi lt h = refl
absent_below n lo (p ∷ ps) hi lt h =
    let other : (p.place == n) ≡ false = grind (arith, nat_tests, lt, h.0) in
    rw other (absent_below n (p.place + 1) ps hi (omega (arith, lt, h.0)) h.1)

pub place_below : (n lo : ℕ) (ps : List Pending) (hi : ℕ) (r : Pending) → Rises lo ps hi → request_at n ps ≡ Some r → n < hi
place_below n lo [] hi r h e = absurd cc
place_below n lo (p ∷ ps) hi r h e = by (p.place == n) refl (λ e'. place_below n (p.place + 1) ps hi r h.1 e')
  where
    by : (b : Bool) → (p.place == n) ≡ b → (request_at n ps ≡ Some r → n < hi) → n < hi
    by true t more = let le = rises_le (p.place + 1) ps hi h.1 in let same : p.place ≡ n = grind (arith, nat_tests) in omega (arith, le, same)
    by false f more = more (rw f at e)

pub absent_append : (n lo : ℕ) (xs ys : List Pending) (hi : ℕ) → n < lo → Rises lo ys hi → request_at n (xs ++ ys) ≡ request_at n xs
absent_append n lo [] ys hi lt h = absent_below n lo ys hi lt h
absent_append n lo (x ∷ xs) ys hi lt h = by (x.place == n) refl (absent_append n lo xs ys hi lt h)
  where
    by : (b : Bool) → (x.place == n) ≡ b → request_at n (xs ++ ys) ≡ request_at n xs → request_at n (x ∷ (xs ++ ys)) ≡ request_at n (x ∷ xs)
    by true t more = rw t refl
    by false f more = rw f more

pub absent_filter : (test : Pending → Bool) (n : ℕ) (ps : List Pending) → request_at n ps ≡ None → request_at n (filter test ps) ≡ None
absent_filter test n [] e = refl
absent_filter test n (p ∷ ps) e = by (p.place == n) (test p) refl refl (λ e'. absent_filter test n ps e')
  where
    by : (b c : Bool) → (p.place == n) ≡ b → test p ≡ c → (request_at n ps ≡ None → request_at n (filter test ps) ≡ None) → request_at n (filter test (p ∷ ps)) ≡ None
    by true c t g more = absurd (let no = rw t at e in cc)
    by false true f g more = rw (g, f) (more (rw f at e))
    by false false f g more = rw g (more (rw f at e))

pub found_filter : (test : Pending → Bool) (n lo : ℕ) (ps : List Pending) (hi : ℕ) (r : Pending) → Rises lo ps hi → request_at n ps ≡ Some r →
    request_at n (filter test ps) ≡ cond (test r) (Some r) None
found_filter test n lo [] hi r h e = absurd cc
found_filter test n lo (p ∷ ps) hi r h e = by (p.place == n) (test p) refl refl (λ e'. found_filter test n (p.place + 1) ps hi r h.1 e')
  where
    by : (b c : Bool) → (p.place == n) ≡ b → test p ≡ c → (request_at n ps ≡ Some r → request_at n (filter test ps) ≡ cond (test r) (Some r) None) → request_at n (filter test (p ∷ ps)) ≡ cond (test r) (Some r) None
    by true true t g more = let same : p ≡ r = (let e' : Some p ≡ Some r = rw t at e in cc) in rw (g, t) (subst (λ x. Some p ≡ cond (test x) (Some x) None) same (rw g refl))
    by true false t g more =
        let same : p ≡ r = (let e' : Some p ≡ Some r = rw t at e in cc) in
        let here : p.place ≡ n = grind (arith, nat_tests) in
        rw g (absent_filter test n ps (absent_below n (p.place + 1) ps hi (omega (arith, here)) h.1) ∙ subst (λ x. None ≡ cond (test x) (Some x) None) same (rw g refl))
    by false true f g more = rw (g, f) (more (rw f at e))
    by false false f g more = rw g (more (rw f at e))

pub is_named_at : (n : ℕ) (ps : List Pending) → list_any (λ p. p == n) (places ps) ≡ is_some (request_at n ps)
is_named_at n [] = refl
is_named_at n (p ∷ ps) = by (p.place == n) refl (is_named_at n ps)
  where
    by : (b : Bool) → (p.place == n) ≡ b → list_any (λ p. p == n) (places ps) ≡ is_some (request_at n ps) → list_any (λ p. p == n) (places (p ∷ ps)) ≡ is_some (request_at n (p ∷ ps))
    by true t more = rw t refl
    by false f more = rw f more

-- WHAT IS QUEUED

-- Some frames were queued behind those that were there, and their requests wait behind the others.
pub record Moves (v w : Seen) : Type 0 where
  pub more : List Pending
  pub frames : List (List ℕ)
  pub waiting : w.waits.waiting ≡ v.waits.waiting ++ more
  pub unwritten : w.unwritten ≡ v.unwritten ++ frames
  pub rises : Rises v.waits.queued more w.waits.queued
  pub count : w.waits.queued ≡ v.waits.queued + length frames
  pub over : is_over w.stage ≡ is_over v.stage

pub moves_same : (v : Seen) → Moves v v
moves_same v = record { more = []; frames = []; waiting = sym (append-nil v.waits.waiting); unwritten = sym (append-nil v.unwritten); rises = omega arith; count = omega arith; over = refl }

pub moves_then : (u v w : Seen) → Moves u v → Moves v w → Moves u w
moves_then u v w a b = record {
  more = a.more ++ b.more;
  frames = a.frames ++ b.frames;
  waiting = b.waiting ∙ ap (λ x. x ++ b.more) a.waiting ∙ append_assoc u.waits.waiting a.more b.more;
  unwritten = b.unwritten ∙ ap (λ x. x ++ b.frames) a.unwritten ∙ append_assoc u.unwritten a.frames b.frames;
  rises = rises_append u.waits.queued a.more v.waits.queued b.more w.waits.queued a.rises b.rises;
  count = (let len = length-append a.frames b.frames in omega (arith, len, a.count, b.count));
  over = b.over ∙ a.over;
}

pub queue_moves : (frame : List ℕ) (claim : Option Claim) (v : Seen) → Moves v (queue frame claim v)
queue_moves frame None v = record { more = []; frames = frame ∷ []; waiting = refl; unwritten = refl; rises = omega arith; count = omega arith; over = refl }
queue_moves frame (Some c) v = record { more = waits_for (Some c) v.waits; frames = frame ∷ []; waiting = refl; unwritten = refl; rises = (omega arith, omega arith); count = omega arith; over = refl }

pub put_in_moves : (room : Bool) (w : Bool) (frame : List ℕ) (claim : Option Claim) (v : Seen) → Moves v (put_in room w frame claim v)
put_in_moves true w frame claim v = queue_moves frame claim v
put_in_moves false true frame claim v = record { more = []; frames = []; waiting = sym (append-nil v.waits.waiting); unwritten = sym (append-nil v.unwritten); rises = omega arith; count = omega arith; over = refl }
put_in_moves false false frame claim v = moves_same v

pub put_frame_moves : (frame : Option (List ℕ)) (w : Bool) (claim : Option Claim) (v : Seen) → Moves v (put_frame frame w claim v)
put_frame_moves None w claim v = moves_same v
put_frame_moves (Some frame) w claim v = put_in_moves (has_room v) w frame claim v

pub asks_for_moves : (r : Request) (v : Seen) → Moves v (asks_for r v)
asks_for_moves r v = put_frame_moves (frame_for r.message) (can_wait r.when_full) r.claim v

challenged_moves : (c : Option AuthenticationValues) (v : Seen) → Moves v (challenged c v)
challenged_moves None v = moves_same v
challenged_moves (Some c) v = asks_for_moves (responds c) v

named_moves : (n : Option ℕ) (v : Seen) → Moves v (named_by n v)
named_moves None v = moves_same v
named_moves (Some n) v = by (list_any (λ p. Rattle.pulsar_wire.specs.Awaited.is_same (Rattle.pulsar_wire.specs.declared.awaited.Awaited.TheVariants.Reply n) p.awaits) v.waits.waiting) refl
  where
    by : (b : Bool) → list_any (λ p. Rattle.pulsar_wire.specs.Awaited.is_same (Rattle.pulsar_wire.specs.declared.awaited.Awaited.TheVariants.Reply n) p.awaits) v.waits.waiting ≡ b → Moves v (named_by (Some n) v)
    by true e = record { more = []; frames = []; waiting = rw e (sym (append-nil v.waits.waiting)); unwritten = sym (append-nil v.unwritten); rises = rw e (omega arith); count = rw e (omega arith); over = refl }
    by false e = record { more = []; frames = []; waiting = rw e (sym (append-nil v.waits.waiting)); unwritten = sym (append-nil v.unwritten); rises = rw e (omega arith); count = rw e (omega arith); over = refl }

pub reacts_moves : (m : MessageValues) (v : Seen) → Moves v (reacts m v)
reacts_moves m v = by (is 18 m) (is 36 m) refl refl
  where
    by : (b c : Bool) → is 18 m ≡ b → is 36 m ≡ c → Moves v (reacts m v)
    by true c t g = subst (λ x. Moves v (cond x (asks_for pongs v) (cond (is 36 m) (challenged v.setup.auth v) (named_by (unready_in m.command.body) v)))) (sym t) (asks_for_moves pongs v)
    by false true t g = subst (λ x. Moves v (cond x (asks_for pongs v) (cond (is 36 m) (challenged v.setup.auth v) (named_by (unready_in m.command.body) v)))) (sym t) (subst (λ x. Moves v (cond x (challenged v.setup.auth v) (named_by (unready_in m.command.body) v))) (sym g) (challenged_moves v.setup.auth v))
    by false false t g = subst (λ x. Moves v (cond x (asks_for pongs v) (cond (is 36 m) (challenged v.setup.auth v) (named_by (unready_in m.command.body) v)))) (sym t) (subst (λ x. Moves v (cond x (challenged v.setup.auth v) (named_by (unready_in m.command.body) v))) (sym g) (named_moves (unready_in m.command.body) v))

pub unless_moves : (ps : List ℕ) (m : MessageValues) (v : Seen) → Moves v (reacts_unless ps m v)
unless_moves [] m v = reacts_moves m v
unless_moves (p ∷ ps) m v = moves_same v

pub moved_up_moves : (line : List Standing) (v : Seen) → Moves v (moved_up line v)
moved_up_moves [] v = record { more = []; frames = []; waiting = sym (append-nil v.waits.waiting); unwritten = sym (append-nil v.unwritten); rises = omega arith; count = omega arith; over = refl }
moved_up_moves (s ∷ line) v = by (has_room v) refl (moved_up_moves line (queue s.frame s.claim v))
  where
    by : (b : Bool) → has_room v ≡ b → Moves (queue s.frame s.claim v) (moved_up line (queue s.frame s.claim v)) → Moves v (moved_up (s ∷ line) v)
    by true t more = subst (λ x. Moves v (cond x (moved_up line (queue s.frame s.claim v)) (record v { line = s ∷ line }))) (sym t)
        (moves_then v (queue s.frame s.claim v) (moved_up line (queue s.frame s.claim v)) (queue_moves s.frame s.claim v) more)
    by false t more = subst (λ x. Moves v (cond x (moved_up line (queue s.frame s.claim v)) (record v { line = s ∷ line }))) (sym t)
        record { more = []; frames = []; waiting = sym (append-nil v.waits.waiting); unwritten = sym (append-nil v.unwritten); rises = omega arith; count = omega arith; over = refl }

greets_with_moves : (frame : Option (List ℕ)) (v : Seen) → Moves v (greets_with frame v)
greets_with_moves None v = moves_same v
greets_with_moves (Some frame) v = queue_moves frame None v

pub greets_moves : (m : MessageValues) (v : Seen) → Moves v (greets m v)
greets_moves m v = greets_with_moves (frame_for m) v
