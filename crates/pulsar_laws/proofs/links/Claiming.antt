-- Who asked for what waits on a link. `A` is what is known of one who is the asker of a request.
use Rattle.std.proofs.Common.{◌≡◌, inl, inr, ◌∙◌, sym, ap, subst, ℕ, ◌+◌, ◌<◌, ◌≤◌, ◌==◌, arith, List, [], ◌∷◌, ◌++◌, refl, length, filter, drop, Bool, true, false, nat_lt, cond, Option, Some, None, Result, Ok, Err}
use Rattle.std.proofs.lemmas.Bool.{cases_Bool}
use Rattle.std.proofs.lemmas.Bool.Decides.{nat_tests}
use Rattle.std.specs.List.{list_any}
use Rattle.std.specs.Prelude.{not}
use Rattle.pulsar_laws.proofs.ActWords.{Who}
use Rattle.pulsar_laws.proofs.RunWords.{Each, each_append, each_map}
use Rattle.pulsar_laws.proofs.LinkWords.{ConnectionError, is_numbered, place_of, SendPing, Words}
use Rattle.pulsar_frame.specs.Frame.{Front, Short, Refused, Whole, front}
use Rattle.pulsar_frame.specs.Message.{MessageValues}
use Rattle.pulsar_messages.specs.Content.{AuthenticationValues}
use Rattle.pulsar_messages.specs.Words.{when_full}
use Rattle.pulsar_wire.specs.declared.awaited.Awaited.{Awaited}
use Rattle.pulsar_wire.specs.declared.awaited.Awaited.TheVariants.{Reply}
use Rattle.pulsar_wire.specs.declared.awaited.Claim.{Claim}
use Rattle.pulsar_wire.specs.Awaited.{is_same}
use Rattle.pulsar_requests.specs.Waits.{Pending, Waits, places, waits_for}
use Rattle.pulsar_session.specs.declared.states.Stage.{Stage}
use Rattle.pulsar_session.specs.declared.states.Stage.TheVariants.{Dialing, Handshaking, Ready, Over}
use Rattle.pulsar_session.specs.Answers.{answers, is}
use Rattle.pulsar_session.specs.Laws.{IsInLine}
use Rattle.pulsar_session.specs.Link.{Asks, Drains, Feeds, Opens, Request, Seen, Standing, Takes, after, after_of, answer_of, answered, asked, asks_for, can_wait, challenged, drawn, feeds, frame_for, greeted, greeting, greets_with, has_room, is_open, is_ready, moved_up, named_by, number_for, opens_in, place_in, pongs, put_frame, put_in, queue, reacts, reacts_unless, request, responds, settled_by, taken_in, ticked, unready_in}
use Rattle.pulsar_messages.specs.Claims.{claim}
use Rattle.pulsar_session.specs.Link as session
use Rattle.pulsar_exchange.specs.Request.{is_awaited}
use Rattle.pulsar_links.specs.Seats.{asker_at}
use Rattle.pulsar_laws.proofs.Cases.{none_some}

-- each who asks for a place is such
abbrev pub AsksOf : (Who → Awaited → Type 0) → (ℕ → Option Who) → ℕ → Awaited → Type 0
AsksOf A askers place a = (who : Who) → askers place ≡ Some who → A who a

abbrev pub ClaimOf : (Who → Awaited → Type 0) → (ℕ → Option Who) → ℕ → Option Claim → Type 0
ClaimOf A askers place None = Unit {0}
ClaimOf A askers place (Some c) = AsksOf A askers place c.awaits

abbrev pub PendsSo : (Who → Awaited → Type 0) → (ℕ → Option Who) → Pending → Type 0
PendsSo A askers p = AsksOf A askers p.place p.awaits

abbrev pub LineSo : (Who → Awaited → Type 0) → (ℕ → Option Who) → ℕ → List Standing → Type 0
LineSo A askers place [] = Unit {0}
LineSo A askers place (x ∷ xs) = ClaimOf A askers place x.claim × LineSo A askers (place + 1) xs

abbrev pub IsBelow : ℕ → Pending → Type 0
IsBelow n p = p.place < n

-- what waits and what stands was asked so, and nobody asked for a place from the end of the line on
pub record Claimed (A : Who → Awaited → Type 0) (v : Seen) (askers : ℕ → Option Who) (bound : ℕ) : Type 0 where
  pub waiting : Each (PendsSo A askers) v.waits.waiting
  pub low : Each (IsBelow v.waits.queued) v.waits.waiting
  pub line : LineSo A askers v.waits.queued v.line
  pub few : (place : ℕ) (who : Who) → askers place ≡ Some who → place < bound

abbrev pub end_of_line : Seen → ℕ
end_of_line v = v.waits.queued + length v.line

module _ (A : Who → Awaited → Type 0) where
  -- FEWER ASKERS, OR MORE IS KNOWN

  line_fewer : (f g : ℕ → Option Who) → ((p : ℕ) (w : Who) → g p ≡ Some w → f p ≡ Some w) → (n : ℕ) (xs : List Standing) → LineSo A f n xs → LineSo A g n xs
  line_fewer f g less n [] h = tt
  line_fewer f g less n (x ∷ xs) h = (one x.claim h.0, line_fewer f g less (n + 1) xs h.1)
    where
      one : (c : Option Claim) → ClaimOf A f n c → ClaimOf A g n c
      one None k = tt
      one (Some c) k = λ w e. k w (less n w e)

  pub fewer : (v : Seen) (f g : ℕ → Option Who) (b : ℕ) → ((p : ℕ) (w : Who) → g p ≡ Some w → f p ≡ Some w) → Claimed A v f b → Claimed A v g b
  fewer v f g b less k = record {
    waiting = each_map (PendsSo A f) (PendsSo A g) v.waits.waiting (λ p h w e. h w (less p.place w e)) k.waiting;
    low = k.low;
    line = line_fewer f g less v.waits.queued v.line k.line;
    few = λ p w e. k.few p w (less p w e);
  }

  -- ONE MORE ASKER, at the end of the line

  line_more : (f g : ℕ → Option Who) (n b : ℕ) (xs : List Standing) → ((p : ℕ) → p < b → g p ≡ f p) → n + length xs ≤ b → LineSo A f n xs → LineSo A g n xs
  line_more f g n b [] same le h = tt
  line_more f g n b (x ∷ xs) same le h = (one x.claim h.0, line_more f g (n + 1) b xs same (omega (arith, le)) h.1)
    where
      one : (c : Option Claim) → ClaimOf A f n c → ClaimOf A g n c
      one None k = tt
      one (Some c) k = λ w e. k w (sym (same n (omega (arith, le))) ∙ e)

  with_asker : (v : Seen) (f g : ℕ → Option Who) → ((p : ℕ) → p < end_of_line v → g p ≡ f p) → ((p : ℕ) → end_of_line v < p → g p ≡ f p) →
      Claimed A v f (end_of_line v) → Claimed A v g (end_of_line v + 1)
  with_asker v f g under over k = record {
    waiting = both v.waits.waiting k.waiting k.low;
    low = k.low;
    line = line_more f g v.waits.queued (end_of_line v) v.line under (omega arith) k.line;
    few = λ p w e. elim (cases_Bool (nat_lt (end_of_line v) p)) [
      | inl h ↦
          (let lt : end_of_line v < p = grind (arith, nat_tests) in
          let old : p < end_of_line v = k.few p w (sym (over p lt) ∙ e) in omega (arith, lt, old))
      | inr h ↦ grind (arith, nat_tests)
    ];
  }
    where
      both : (ps : List Pending) → Each (PendsSo A f) ps → Each (IsBelow v.waits.queued) ps → Each (PendsSo A g) ps
      both [] h l = tt
      both (p ∷ ps) h l =
          let lt : p.place < v.waits.queued = l.0 in
          let e : v.waits.queued ≤ end_of_line v = omega arith in
          ((λ w q. h.0 w (sym (under p.place (omega (arith, lt, e))) ∙ q)), both ps h.1 l.1)

  -- A FRAME IS PUT at the end of the line

  below_next : (n : ℕ) (ps : List Pending) → Each (IsBelow n) ps → Each (IsBelow (n + 1)) ps
  below_next n ps h = each_map (IsBelow n) (IsBelow (n + 1)) ps (λ p l. (let lt : p.place < n = l in omega (arith, lt))) h

  new_pends : (f : ℕ → Option Who) (c : Option Claim) (w : Waits) → ClaimOf A f w.queued c → Each (PendsSo A f) (waits_for c w)
  new_pends f None w h = tt
  new_pends f (Some c) w h = (h, tt)

  new_below : (c : Option Claim) (w : Waits) → Each (IsBelow (w.queued + 1)) (waits_for c w)
  new_below None w = tt
  new_below (Some c) w = (omega arith, tt)

  -- it is queued, and those that stand are behind it
  queue_front : (frame : List ℕ) (c : Option Claim) (v : Seen) (f : ℕ → Option Who) (b : ℕ) (xs : List Standing) → Each (PendsSo A f) v.waits.waiting →
      Each (IsBelow v.waits.queued) v.waits.waiting → ClaimOf A f v.waits.queued c →
      Each (PendsSo A f) (queue frame c v).waits.waiting × Each (IsBelow (queue frame c v).waits.queued) (queue frame c v).waits.waiting
  queue_front frame c v f b xs h l k = (
    each_append (PendsSo A f) v.waits.waiting (waits_for c v.waits) h (new_pends f c v.waits k),
    each_append (IsBelow (v.waits.queued + 1)) v.waits.waiting (waits_for c v.waits) (below_next v.waits.queued v.waits.waiting l) (new_below c v.waits),
  )

  line_end : (f : ℕ → Option Who) (n : ℕ) (xs : List Standing) (x : Standing) → LineSo A f n xs → ClaimOf A f (n + length xs) x.claim →
      LineSo A f n (xs ++ x ∷ [])
  line_end f n [] x h k = (subst (λ m. ClaimOf A f m x.claim) (let e : n + 0 ≡ n = omega arith in e) k, tt)
  line_end f n (y ∷ xs) x h k =
      (h.0, line_end f (n + 1) xs x h.1 (subst (λ m. ClaimOf A f m x.claim) (let e : n + length (y ∷ xs) ≡ n + 1 + length xs = omega arith in e) k))

  put_claimed : (room waits : Bool) (frame : List ℕ) (c : Option Claim) (v : Seen) (f : ℕ → Option Who) (b : ℕ) → has_room v ≡ room → IsInLine v →
      Claimed A v f b →
      ClaimOf A f (end_of_line v) c → Claimed A (put_in room waits frame c v) f b
  put_claimed true waits frame c v f b e h k s =
      let none : v.line ≡ [] = h e in
      let at : end_of_line v ≡ v.waits.queued = (let z : length v.line ≡ 0 = ap length none in omega (arith, z)) in
      let q = queue_front frame c v f b [] k.waiting k.low (subst (λ n. ClaimOf A f n c) at s) in
      record { waiting = q.0; low = q.1; line = subst (LineSo A f (v.waits.queued + 1)) (sym none) tt; few = k.few }
  put_claimed false true frame c v f b e h k s = record {
    waiting = k.waiting;
    low = k.low;
    line = line_end f v.waits.queued v.line (record { frame = frame; claim = c }) k.line s;
    few = k.few;
  }
  put_claimed false false frame c v f b e h k s = k

  frame_claimed : (frame : Option (List ℕ)) (waits : Bool) (c : Option Claim) (v : Seen) (f : ℕ → Option Who) (b : ℕ) → IsInLine v → Claimed A v f b →
      ClaimOf A f (end_of_line v) c → Claimed A (put_frame frame waits c v) f b
  frame_claimed None waits c v f b h k s = k
  frame_claimed (Some frame) waits c v f b h k s = put_claimed (has_room v) waits frame c v f b refl h k s

  -- what answers nothing
  plain_claimed : (r : Request) (v : Seen) (f : ℕ → Option Who) (b : ℕ) → r.claim ≡ None → IsInLine v → Claimed A v f b → Claimed A (asks_for r v) f b
  plain_claimed r v f b e h k = frame_claimed (frame_for r.message) (can_wait r.when_full) r.claim v f b h k (subst (ClaimOf A f (end_of_line v)) (sym e) tt)

  either_claimed : (x : Bool) (v w : Seen) (f : ℕ → Option Who) (b : ℕ) → Claimed A v f b → Claimed A w f b → Claimed A (cond x v w) f b
  either_claimed true v w f b p q = p
  either_claimed false v w f b p q = q

  -- A FRAME COMES

  challenged_claimed : (auth : Option AuthenticationValues) (v : Seen) (f : ℕ → Option Who) (b : ℕ) → IsInLine v → Claimed A v f b →
      Claimed A (challenged auth v) f b
  challenged_claimed None v f b h k = k
  challenged_claimed (Some auth) v f b h k = plain_claimed (responds auth) v f b refl h k

  named_claimed : (n : Option ℕ) (v : Seen) (f : ℕ → Option Who) (b : ℕ) → Claimed A v f b → Claimed A (named_by n v) f b
  named_claimed None v f b k = k
  named_claimed (Some n) v f b k = elim (cases_Bool (list_any (λ p. is_same (Reply n) p.awaits) v.waits.waiting)) [
    | inl e ↦ rw e (record { waiting = k.waiting; low = k.low; line = k.line; few = k.few })
    | inr e ↦ rw e (record { waiting = k.waiting; low = k.low; line = k.line; few = k.few })
  ]

  reacts_claimed : (m : MessageValues) (v : Seen) (f : ℕ → Option Who) (b : ℕ) → IsInLine v → Claimed A v f b → Claimed A (reacts m v) f b
  reacts_claimed m v f b h k =
      either_claimed (is 18 m) (asks_for pongs v) (cond (is 36 m) (challenged v.setup.auth v) (named_by (unready_in m.command.body) v)) f b
      (plain_claimed pongs v f b refl h k)
      (either_claimed (is 36 m) (challenged v.setup.auth v) (named_by (unready_in m.command.body) v) f b (challenged_claimed v.setup.auth v f b h k)
      (named_claimed (unready_in m.command.body) v f b k))

  unless_claimed : (ps : List ℕ) (m : MessageValues) (v : Seen) (f : ℕ → Option Who) (b : ℕ) → IsInLine v → Claimed A v f b →
      Claimed A (reacts_unless ps m v) f b
  unless_claimed [] m v f b h k = reacts_claimed m v f b h k
  unless_claimed (p ∷ ps) m v f b h k = k

  each_filter : (P : Pending → Type 0) (test : Pending → Bool) (ps : List Pending) → Each P ps → Each P (filter test ps)
  each_filter P test [] h = tt
  each_filter P test (p ∷ ps) h = elim (test p) as (λ x. Each P (cond x (p ∷ filter test ps) (filter test ps))) [
    | true ↦ (h.0, each_filter P test ps h.1)
    | false ↦ each_filter P test ps h.1
  ]

  answered_claimed : (m : MessageValues) (v : Seen) (f : ℕ → Option Who) (b : ℕ) → Claimed A v f b → Claimed A (answered m v) f b
  answered_claimed m v f b k = record {
    waiting = each_filter (PendsSo A f) (λ p. not (answers m p.awaits)) v.waits.waiting k.waiting;
    low = each_filter (IsBelow v.waits.queued) (λ p. not (answers m p.awaits)) v.waits.waiting k.low;
    line = k.line;
    few = k.few;
  }

  greeted_claimed : (x : Bool) (left : List ℕ) (v : Seen) (f : ℕ → Option Who) (b : ℕ) → Claimed A v f b → Claimed A (greeted x left v) f b
  greeted_claimed true left v f b k = record { waiting = k.waiting; low = k.low; line = k.line; few = k.few }
  greeted_claimed false left v f b k = k

  taken_claimed : (stage : Stage) (x : Front) (v : Seen) (f : ℕ → Option Who) (b : ℕ) → IsInLine v → Claimed A v f b → Claimed A (taken_in stage x v) f b
  taken_claimed Dialing x v f b h k = k
  taken_claimed Handshaking Short v f b h k = k
  taken_claimed Handshaking (Refused r) v f b h k = k
  taken_claimed Handshaking (Whole m left) v f b h k = greeted_claimed (is 3 m) left v f b k
  taken_claimed Ready Short v f b h k = k
  taken_claimed Ready (Refused r) v f b h k = k
  taken_claimed Ready (Whole m left) v f b h k =
      let u : Seen = record v { unread = left } in
      unless_claimed (places (settled_by m u)) m (answered m u) f b h
      (answered_claimed m u f b (record { waiting = k.waiting; low = k.low; line = k.line; few = k.few }))
  taken_claimed Over x v f b h k = k

  pub takes_claimed : (now : ℕ) (v : Seen) (f : ℕ → Option Who) (b : ℕ) → IsInLine v → Claimed A v f b → Claimed A (after (Takes now) v) f b
  takes_claimed now v f b h k =
      taken_claimed v.stage (front v.unread) (ticked now v) f b h (record { waiting = k.waiting; low = k.low; line = k.line; few = k.few })

  -- BYTES, AND AN OPENED CONNECTION

  pub feeds_claimed : (piece : List ℕ) (v : Seen) (f : ℕ → Option Who) (b : ℕ) → Claimed A v f b → Claimed A (feeds piece v) f b
  feeds_claimed piece v f b k =
      either_claimed (is_open v.stage) (record v { unread = v.unread ++ piece }) v f b
      (record { waiting = k.waiting; low = k.low; line = k.line; few = k.few }) k

  greets_claimed : (frame : Option (List ℕ)) (v : Seen) (f : ℕ → Option Who) (b : ℕ) → v.line ≡ [] → Claimed A v f b → Claimed A (greets_with frame v) f b
  greets_claimed None v f b e k = k
  greets_claimed (Some frame) v f b e k =
      let q = queue_front frame None v f b [] k.waiting k.low tt in
      record { waiting = q.0; low = q.1; line = subst (LineSo A f (v.waits.queued + 1)) (sym e) tt; few = k.few }

  opens_claimed : (stage : Stage) (v : Seen) (f : ℕ → Option Who) (b : ℕ) → (is_ready stage ≡ false → v.line ≡ []) → Claimed A v f b →
      Claimed A (opens_in stage v) f b
  opens_claimed Dialing v f b e k =
      greets_claimed (frame_for (greeting v.setup)) (record v { stage = Handshaking }) f b (e refl)
      (record { waiting = k.waiting; low = k.low; line = k.line; few = k.few })
  opens_claimed Handshaking v f b e k = k
  opens_claimed Ready v f b e k = k
  opens_claimed Over v f b e k = k

  -- A DRAIN

  moved_claimed : (xs : List Standing) (v : Seen) (f : ℕ → Option Who) (b : ℕ) → Each (PendsSo A f) v.waits.waiting →
      Each (IsBelow v.waits.queued) v.waits.waiting →
      LineSo A f v.waits.queued xs → ((p : ℕ) (w : Who) → f p ≡ Some w → p < b) → Claimed A (moved_up xs v) f b
  moved_claimed [] v f b h l x few = record { waiting = h; low = l; line = tt; few = few }
  moved_claimed (s ∷ xs) v f b h l x few = elim (cases_Bool (has_room v)) [
    | inl e ↦
        (let q = queue_front s.frame s.claim v f b xs h l x.0 in
        rw e (moved_claimed xs (queue s.frame s.claim v) f b q.0 q.1 x.1 few))
    | inr e ↦ rw e (record { waiting = h; low = l; line = x; few = few })
  ]

  pub drains_claimed : (most now : ℕ) (v : Seen) (f : ℕ → Option Who) (b : ℕ) → Claimed A v f b → Claimed A (after (Drains most now) v) f b
  drains_claimed most now v f b k =
      either_claimed (is_open v.stage) (moved_up v.line (record (ticked now v) { unwritten = drop most v.unwritten })) (ticked now v) f b
      (moved_claimed v.line (record (ticked now v) { unwritten = drop most v.unwritten }) f b k.waiting k.low k.line k.few)
      (record { waiting = k.waiting; low = k.low; line = k.line; few = k.few })

  -- THE END OF THE LINE stays before what is asked for later

  -- ONE ASKS

  -- the place, where there is one, is the end of the line
  place_at_end : (frame : Option (List ℕ)) (waits : Bool) (v : Seen) (place : ℕ) → IsInLine v → place_of (session.place_of frame waits v) ≡ Some place →
      place ≡ end_of_line v
  place_at_end frame waits v place h e = by (has_room v) refl waits frame e
    where
      by : (room : Bool) → has_room v ≡ room → (w : Bool) (x : Option (List ℕ)) → place_of (place_in room w x v) ≡ Some place → place ≡ end_of_line v
      by true r w (Some frame) q =
          let z : length v.line ≡ 0 = ap length (h r) in let f : Some v.waits.queued ≡ Some place = q in let same : v.waits.queued ≡ place = cc in omega
          (arith, z, same)
      by true r w None q = absurd (none_some q)
      by false r true (Some frame) q = let f : Some
          (v.waits.queued + length v.line) ≡ Some place = q in let same : v.waits.queued + length v.line ≡ place = cc in sym same
      by false r true None q = absurd (none_some q)
      by false r false x q = absurd (none_some q)

  -- nobody asks for that place before
  asks_plain : (words : Words) (id now : ℕ) (v : Seen) (f : ℕ → Option Who) (b : ℕ) → IsInLine v → Claimed A v f b →
      ((c : Claim) → claim id words ≡ Some c → AsksOf A f (end_of_line v) c.awaits) → Claimed A (asks_for (request id now words) v) f b
  asks_plain words id now v f b h k s =
      frame_claimed (frame_for (request id now words).message) (can_wait (when_full words)) (claim id words) v f b h k (of (claim id words) refl)
    where
      of : (c : Option Claim) → claim id words ≡ c → ClaimOf A f (end_of_line v) c
      of None e = tt
      of (Some c) e = s c e

  -- the asker of what is asked for, at the end of the line or nowhere
  abbrev Added : Bool → Option ℕ → Who → (ℕ → Option Who) → (ℕ → Option Who)
  Added x place who f = asker_at x who place f

  added_same : (x : Bool) (place : Option ℕ) (who : Who) (f : ℕ → Option Who) (n p : ℕ) → ((m : ℕ) → place ≡ Some m → m ≡ n) → (p == n) ≡ false →
      Added x place who f p ≡ f p
  added_same x None who f n p at d = refl
  added_same true (Some m) who f n p at d = let e : (p == m) ≡ false = subst (λ y. (p == y) ≡ false) (sym (at m refl)) d in ap (λ y. cond y (Some who) (f p)) e
  added_same false (Some m) who f n p at d = refl

  added_at : (x : Bool) (place : Option ℕ) (who w : Who) (f : ℕ → Option Who) (n : ℕ) → ((w : Who) → f n ≡ Some w → ⊥) → Added x place who f n ≡ Some w →
      w ≡ who
  added_at x None who w f n none e = absurd (none w e)
  added_at true (Some m) who w f n none e = elim (cases_Bool (n == m)) [
    | inl q ↦ (let g : Some who ≡ Some w = rw q at e in let same : who ≡ w = cc in sym same)
    | inr q ↦ absurd (none w (rw q at e))
  ]
  added_at false (Some m) who w f n none e = absurd (none w e)

  -- what one asks for
  numbered_same : (numbered : Bool) (v : Seen) (f : ℕ → Option Who) (b : ℕ) → Claimed A v f b → Claimed A (drawn numbered v) f b
  numbered_same true v f b k = record { waiting = k.waiting; low = k.low; line = k.line; few = k.few }
  numbered_same false v f b k = k

  numbered_line : (numbered : Bool) (v : Seen) → IsInLine v → IsInLine (drawn numbered v)
  numbered_line true v h = h
  numbered_line false v h = h

  numbered_end : (numbered : Bool) (v : Seen) → end_of_line (drawn numbered v) ≡ end_of_line v
  numbered_end true v = refl
  numbered_end false v = refl

  more_below : (v : Seen) (f : ℕ → Option Who) (b c : ℕ) → b ≤ c → Claimed A v f b → Claimed A v f c
  more_below v f b c le k = record { waiting = k.waiting; low = k.low; line = k.line; few = λ p w e. (let lt : p < b = k.few p w e in omega (arith, lt, le)) }

  -- with the frame the line is longer, where it has a place
  module _ (words : Words) (who : Who) (f : ℕ → Option Who) (so : (id : ℕ) (c : Claim) → claim id words ≡ Some c → A who c.awaits) where
    abbrev is_asker : Bool
    is_asker = is_awaited words

    asks_numbered : (id now : ℕ) (v : Seen) → IsInLine v → Claimed A v f (end_of_line v) →
        Claimed A (asks_for (request id now words) v) (Added is_asker (place_of (session.asked_for (request id now words) v)) who f) (end_of_line v + 1)
    asks_numbered id now v h k =
        let place : Option ℕ = place_of (session.asked_for (request id now words) v) in
        let at : (m : ℕ) → place ≡ Some m →
        m ≡ end_of_line v = λ m e. place_at_end (frame_for (request id now words).message) (can_wait (when_full words)) v m h e in
        let none : (w : Who) → f (end_of_line v) ≡ Some w →
        ⊥ = λ w e. (let lt : end_of_line v < end_of_line v = k.few (end_of_line v) w e in absurd (let no : ⊥ = omega (arith, lt) in no)) in
        let g : ℕ → Option Who = Added is_asker place who f in
        let more : Claimed A v g (end_of_line v + 1) = with_asker v f g
        (λ p lt. added_same is_asker place who f (end_of_line v) p at (grind (arith, nat_tests)))
        (λ p lt. added_same is_asker place who f (end_of_line v) p at (grind (arith, nat_tests))) k in
        asks_plain words id now v g (end_of_line v + 1) h more
        (λ c e w q. subst (λ y. A y c.awaits) (sym (added_at is_asker place who w f (end_of_line v) none q)) (so id c e))

    asks_answered : (r : Result ℕ ConnectionError) (now : ℕ) (v : Seen) → IsInLine v → Claimed A v f (end_of_line v) →
        Claimed A (after_of r now words v) (Added is_asker (place_of (answer_of r now words v)) who f) (end_of_line v + 1)
    asks_answered (Err e) now v h k = more_below v f (end_of_line v) (end_of_line v + 1) (omega arith) k
    asks_answered (Ok id) now v h k =
        let n : Bool = is_numbered words in
        let u : Seen = drawn n v in
        let e : end_of_line u ≡ end_of_line v = numbered_end n v in
        subst (λ b. Claimed A (asks_for (request id now words) u) (Added is_asker (place_of (session.asked_for (request id now words) u)) who f) (b + 1)) e
        (asks_numbered id now u (numbered_line n v h) (subst (Claimed A u f) (sym e) (numbered_same n v f (end_of_line v) k)))

    asks_bounded : (now : ℕ) (v : Seen) → IsInLine v → Claimed A v f (end_of_line v) →
        Claimed A (after (Asks now words) v) (Added is_asker (place_of (asked now words v)) who f) (end_of_line v + 1)
    asks_bounded now v h k = asks_answered (number_for (is_numbered words) v) now (ticked now v) h
        (record { waiting = k.waiting; low = k.low; line = k.line; few = k.few })

-- MORE IS KNOWN

module _ (A B : Who → Awaited → Type 0) (f : ℕ → Option Who) (more : (p : ℕ) (w : Who) (a : Awaited) → f p ≡ Some w → A w a → B w a) where
  line_known : (n : ℕ) (xs : List Standing) → LineSo A f n xs → LineSo B f n xs
  line_known n [] h = tt
  line_known n (x ∷ xs) h = (one x.claim h.0, line_known (n + 1) xs h.1)
    where
      one : (c : Option Claim) → ClaimOf A f n c → ClaimOf B f n c
      one None k = tt
      one (Some c) k = λ w e. more n w c.awaits e (k w e)

  pub known : (v : Seen) (b : ℕ) → Claimed A v f b → Claimed B v f b
  known v b k = record {
    waiting = each_map (PendsSo A f) (PendsSo B f) v.waits.waiting (λ p h w e. more p.place w p.awaits e (h w e)) k.waiting;
    low = k.low;
    line = line_known v.waits.queued v.line k.line;
    few = k.few;
  }

-- THE LINE IS NOT SHORTER THAN IT WAS

either_grows : (b : Bool) (v x y : Seen) → end_of_line v ≤ end_of_line x → end_of_line v ≤ end_of_line y → end_of_line v ≤ end_of_line (cond b x y)
either_grows true v x y p q = p
either_grows false v x y p q = q

length_end : (xs : List Standing) (x : Standing) → length (xs ++ x ∷ []) ≡ length xs + 1
length_end [] x = refl
length_end (y ∷ xs) x = let e : length (xs ++ x ∷ []) ≡ length xs + 1 = length_end xs x in omega (arith, e)

put_adds : (room w : Bool) (frame : List ℕ) (c : Option Claim) (v : Seen) (m : ℕ) → has_room v ≡ room → IsInLine v →
    place_of (place_in room w (Some frame) v) ≡ Some m →
    end_of_line (put_in room w frame c v) ≡ end_of_line v + 1
put_adds true w frame c v m e h q = let z : length v.line ≡ 0 = ap length (h e) in omega (arith, z)
put_adds false true frame c v m e h q = let z : length (v.line ++ record { frame = frame; claim = c } ∷ []) ≡ length v.line + 1 = length_end v.line
    (record { frame = frame; claim = c }) in omega (arith, z)
put_adds false false frame c v m e h q = absurd (none_some q)

put_grows : (room w : Bool) (frame : List ℕ) (c : Option Claim) (v : Seen) → has_room v ≡ room → IsInLine v →
    end_of_line v ≤ end_of_line (put_in room w frame c v)
put_grows true w frame c v e h = let z : length v.line ≡ 0 = ap length (h e) in omega (arith, z)
put_grows false true frame c v e h = let z : length (v.line ++ record { frame = frame; claim = c } ∷ []) ≡ length v.line + 1 = length_end v.line
    (record { frame = frame; claim = c }) in omega (arith, z)
put_grows false false frame c v e h = omega arith

frame_grows : (frame : Option (List ℕ)) (w : Bool) (c : Option Claim) (v : Seen) → IsInLine v → end_of_line v ≤ end_of_line (put_frame frame w c v)
frame_grows None w c v h = omega arith
frame_grows (Some frame) w c v h = put_grows (has_room v) w frame c v refl h

asks_grows : (r : Request) (v : Seen) → IsInLine v → end_of_line v ≤ end_of_line (asks_for r v)
asks_grows r v h = frame_grows (frame_for r.message) (can_wait r.when_full) r.claim v h

challenged_grows : (auth : Option AuthenticationValues) (v : Seen) → IsInLine v → end_of_line v ≤ end_of_line (challenged auth v)
challenged_grows None v h = omega arith
challenged_grows (Some auth) v h = asks_grows (responds auth) v h

named_grows : (n : Option ℕ) (v : Seen) → end_of_line v ≤ end_of_line (named_by n v)
named_grows None v = omega arith
named_grows (Some n) v = elim (cases_Bool (list_any (λ p. is_same (Reply n) p.awaits) v.waits.waiting)) [
  | inl e ↦ rw e (omega arith)
  | inr e ↦ rw e
      (omega arith)
]

reacts_grows : (m : MessageValues) (v : Seen) → IsInLine v → end_of_line v ≤ end_of_line (reacts m v)
reacts_grows m v h =
    either_grows (is 18 m) v (asks_for pongs v) (cond (is 36 m) (challenged v.setup.auth v) (named_by (unready_in m.command.body) v)) (asks_grows pongs v h)
    (either_grows (is 36 m) v (challenged v.setup.auth v) (named_by (unready_in m.command.body) v) (challenged_grows v.setup.auth v h)
    (named_grows (unready_in m.command.body) v))

unless_grows : (ps : List ℕ) (m : MessageValues) (v : Seen) → IsInLine v → end_of_line v ≤ end_of_line (reacts_unless ps m v)
unless_grows [] m v h = reacts_grows m v h
unless_grows (p ∷ ps) m v h = omega arith

greeted_grows : (x : Bool) (left : List ℕ) (v : Seen) → end_of_line v ≤ end_of_line (greeted x left v)
greeted_grows true left v = omega arith
greeted_grows false left v = omega arith

pub taken_grows : (stage : Stage) (x : Front) (v : Seen) → IsInLine v → end_of_line v ≤ end_of_line (taken_in stage x v)
taken_grows Dialing x v h = omega arith
taken_grows Handshaking Short v h = omega arith
taken_grows Handshaking (Refused r) v h = omega arith
taken_grows Handshaking (Whole m left) v h = greeted_grows (is 3 m) left v
taken_grows Ready Short v h = omega arith
taken_grows Ready (Refused r) v h = omega arith
taken_grows Ready (Whole m left) v h = let u : Seen = record v { unread = left } in unless_grows (places (settled_by m u)) m (answered m u) h
taken_grows Over x v h = omega arith

greets_grows : (frame : Option (List ℕ)) (v : Seen) → end_of_line v ≤ end_of_line (greets_with frame v)
greets_grows None v = omega arith
greets_grows (Some frame) v = omega arith

pub opens_grows : (stage : Stage) (v : Seen) → end_of_line v ≤ end_of_line (opens_in stage v)
opens_grows Dialing v = greets_grows (frame_for (greeting v.setup)) (record v { stage = Handshaking })
opens_grows Handshaking v = omega arith
opens_grows Ready v = omega arith
opens_grows Over v = omega arith

moved_end : (xs : List Standing) (v : Seen) → end_of_line (moved_up xs v) ≡ v.waits.queued + length xs
moved_end [] v = omega arith
moved_end (s ∷ xs) v = elim (cases_Bool (has_room v)) [
  | inl e ↦ (let k : end_of_line (moved_up xs (queue s.frame s.claim v)) ≡ v.waits.queued + 1 + length xs = moved_end xs (queue s.frame s.claim v) in rw e
      (omega (arith, k)))
  | inr e ↦ rw e refl
]

pub drains_grows : (most now : ℕ) (v : Seen) → end_of_line v ≤ end_of_line (after (Drains most now) v)
drains_grows most now v =
    either_grows (is_open v.stage) v (moved_up v.line (record (ticked now v) { unwritten = drop most v.unwritten })) (ticked now v)
    (let e : end_of_line (moved_up v.line (record (ticked now v) { unwritten = drop most v.unwritten })) ≡ v.waits.queued + length v.line =
    moved_end v.line (record (ticked now v) { unwritten = drop most v.unwritten }) in omega (arith, e)) (omega arith)

pub feeds_same : (piece : List ℕ) (v : Seen) → end_of_line v ≤ end_of_line (feeds piece v)
feeds_same piece v = either_grows (is_open v.stage) v (record v { unread = v.unread ++ piece }) v (omega arith) (omega arith)

-- WHAT WAITS ON A LINK WAS ASKED FOR, whatever is done to it

module _ (A : Who → Awaited → Type 0) where
  abbrev pub IsClaimed : Seen → (ℕ → Option Who) → Type 0
  IsClaimed v f = Claimed A v f (end_of_line v)

  wider : (v : Seen) (f : ℕ → Option Who) (b : ℕ) → b ≤ end_of_line v → Claimed A v f b → IsClaimed v f
  wider v f b le k = more_below A v f b (end_of_line v) le k

  pub fed : (piece : List ℕ) (v : Seen) (f : ℕ → Option Who) → IsClaimed v f → IsClaimed (after (Feeds piece) v) f
  fed piece v f k = wider (feeds piece v) f (end_of_line v) (feeds_same piece v) (feeds_claimed A piece v f (end_of_line v) k)

  pub opened : (now : ℕ) (v : Seen) (f : ℕ → Option Who) → (is_ready v.stage ≡ false → v.line ≡ []) → IsClaimed v f → IsClaimed (after (Opens now) v) f
  opened now v f e k = wider (opens_in v.stage (ticked now v)) f (end_of_line v) (opens_grows v.stage (ticked now v))
      (opens_claimed A v.stage (ticked now v) f (end_of_line v) e (record { waiting = k.waiting; low = k.low; line = k.line; few = k.few }))

  pub taken : (now : ℕ) (v : Seen) (f : ℕ → Option Who) → IsInLine v → IsClaimed v f → IsClaimed (after (Takes now) v) f
  taken now v f h k = wider (after (Takes now) v) f (end_of_line v) (taken_grows v.stage (front v.unread) (ticked now v) h)
      (takes_claimed A now v f (end_of_line v) h k)

  pub drained_so : (most now : ℕ) (v : Seen) (f : ℕ → Option Who) → IsClaimed v f → IsClaimed (after (Drains most now) v) f
  drained_so most now v f k = wider (after (Drains most now) v) f (end_of_line v) (drains_grows most now v) (drains_claimed A most now v f (end_of_line v) k)

  -- a frame that is asked for
  pub answer_adds : (words : Words) (r : Result ℕ ConnectionError) (now : ℕ) (v : Seen) (m : ℕ) → IsInLine v → place_of (answer_of r now words v) ≡ Some m →
      end_of_line (after_of r now words v) ≡ end_of_line v + 1
  answer_adds words (Err e) now v m h q = absurd (none_some q)
  answer_adds words (Ok id) now v m h q =
      let u : Seen = drawn (is_numbered words) v in
      let e : end_of_line u ≡ end_of_line v = numbered_end A (is_numbered words) v in
      let k : end_of_line (asks_for (request id now words) u) ≡ end_of_line u + 1 =
      by u (frame_for (request id now words).message) (numbered_line A (is_numbered words) v h) q in
      omega (arith, e, k)
    where
      by : (u : Seen) (frame : Option (List ℕ)) → IsInLine u → place_of (session.place_of frame (can_wait (when_full words)) u) ≡ Some m →
          end_of_line (put_frame frame (can_wait (when_full words)) (claim id words) u) ≡ end_of_line u + 1
      by u (Some frame) l p = put_adds (has_room u) (can_wait (when_full words)) frame (claim id words) u m refl l p
      by u None l p = none (has_room u) (can_wait (when_full words)) p
        where
          none : (a b : Bool) → place_of (place_in a b None u) ≡ Some m → end_of_line u ≡ end_of_line u + 1
          none true b p = absurd (none_some p)
          none false true p = absurd (none_some p)
          none false false p = absurd (none_some p)

  pub answer_grows : (words : Words) (r : Result ℕ ConnectionError) (now : ℕ) (v : Seen) → IsInLine v → end_of_line v ≤ end_of_line (after_of r now words v)
  answer_grows words (Err e) now v h = omega arith
  answer_grows words (Ok id) now v h =
      let u : Seen = drawn (is_numbered words) v in
      let e : end_of_line u ≡ end_of_line v = numbered_end A (is_numbered words) v in
      let k : end_of_line u ≤ end_of_line (asks_for (request id now words) u) = asks_grows (request id now words) u (numbered_line A (is_numbered words) v h) in
      omega (arith, e, k)

  pub asked_so : (words : Words) (who : Who) (f : ℕ → Option Who) (now : ℕ) (v : Seen) → ((id : ℕ) (c : Claim) → claim id words ≡ Some c → A who c.awaits) →
      IsInLine v →
      IsClaimed v f → IsClaimed (after (Asks now words) v) (asker_at (is_awaited words) who (place_of (asked now words v)) f)
  asked_so words who f now v so h k =
      let b = asks_bounded A words who f so now v h k in
      record { waiting = b.waiting; low = b.low; line = b.line; few = at (place_of (asked now words v)) refl }
    where
      at : (place : Option ℕ) → place_of (asked now words v) ≡ place → (p : ℕ) (w : Who) →
          asker_at (is_awaited words) who (place_of (asked now words v)) f p ≡ Some w → p < end_of_line (after (Asks now words) v)
      at None e p w q =
          let old : p < end_of_line v = k.few p w (sym (ap (λ y. asker_at (is_awaited words) who y f p) e) ∙ q) in
          let g : end_of_line v ≤ end_of_line (after (Asks now words) v) = answer_grows words (number_for (is_numbered words) v) now (ticked now v) h in
          omega (arith, old, g)
      at (Some m) e p w q =
          let b : p < end_of_line v + 1 = (asks_bounded A words who f so now v h k).few p w q in
          let g : end_of_line (after (Asks now words) v) ≡ end_of_line v + 1 = answer_adds words (number_for (is_numbered words) v) now (ticked now v) m h e in
          omega (arith, b, g)

  -- and a ping, for which nobody is the asker
  pub pinged : (now : ℕ) (v : Seen) (f : ℕ → Option Who) → IsInLine v → IsClaimed v f → IsClaimed (after (Asks now SendPing) v) f
  pinged now v f h k = wider (after (Asks now SendPing) v) f (end_of_line v) (answer_grows SendPing (number_for false v) now (ticked now v) h)
      (by (number_for false v))
    where
      by : (r : Result ℕ ConnectionError) → Claimed A (after_of r now SendPing (ticked now v)) f (end_of_line v)
      by (Err e) = record { waiting = k.waiting; low = k.low; line = k.line; few = k.few }
      by (Ok id) = asks_plain A SendPing id now (ticked now v) f (end_of_line v) h (record { waiting = k.waiting; low = k.low; line = k.line; few = k.few })
          (λ c e w q. (let lt : end_of_line v < end_of_line v = k.few (end_of_line v) w q in absurd (let no : ⊥ = omega (arith, lt) in no)))
