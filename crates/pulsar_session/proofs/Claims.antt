-- A number has one claim at most.
use Rattle.std.proofs.Common.{◌≡◌, ◌∙◌, sym, ap, subst, refl, ℕ, ◌+◌, ◌≤◌, ◌==◌, ◌&&◌, Bool, true, false, not, cond, List, [], ◌∷◌, ◌++◌, filter, drop, Option, Some, None, Result, Ok, Err, inl, inr, arith}
use Rattle.std.proofs.lemmas.Bool.{cases_Bool}
use Rattle.std.proofs.lemmas.Bool.Decides.{nat_tests}
use Rattle.std.specs.List.{list_any}
use Rattle.pulsar_wire.specs.declared.error.ConnectionError.{ConnectionError}
use Rattle.pulsar_wire.specs.declared.error.ConnectionError.TheVariants as error
use Rattle.pulsar_wire.specs.declared.error.Reason.TheVariants as reason
use Rattle.pulsar_frame.specs.Message.{MessageValues}
use Rattle.pulsar_frame.specs.Key.{key}
use Rattle.pulsar_frame.specs.Frame.{Front, Short, Refused, Whole, front}
use Rattle.pulsar_messages.specs.Content.{AuthenticationValues}
use Rattle.pulsar_messages.specs.Messages.{connect_command}
use Rattle.pulsar_messages.specs.Words.{Words, SendPing, SendPong, AuthChallenge, LookupTopic, LookupPartitionedTopic, GetTopicsOfNamespace, GetSchema, CreateProducer, Send, CloseProducer, Subscribe, SendFlow, SendAck, SendRedeliver, Seek, GetLastMessageId, GetConsumerStats, Unsubscribe, CloseConsumer, CloseConsumerUnawaited, is_numbered, when_full}
use Rattle.pulsar_wire.specs.declared.awaited.Awaited.TheVariants.{Reply}
use Rattle.pulsar_wire.specs.declared.awaited.Claim.{Claim}
use Rattle.pulsar_wire.specs.Awaited.{is_same}
use Rattle.pulsar_requests.specs.Waits.{Pending, ended, places, waits_for}
use Rattle.pulsar_requests.proofs.Awaiting.{is_at-eqb}
use Rattle.pulsar_session.specs.declared.states.Stage.{Stage}
use Rattle.pulsar_session.specs.declared.states.Stage.TheVariants.{Dialing, Handshaking, Ready, Over}
use Rattle.pulsar_session.specs.Answers.{answers, is}
use Rattle.pulsar_session.specs.Link.{Act, Opens, Feeds, Takes, Asks, Drains, Closes, Request, Seen, Setup, Standing, after, after_of, answer_of, answered_to, asks_for, bare, can_wait, challenged, drawn, frame_for, greeted, greets_with, has_room, is_open, is_over, is_ready, message_of, moved_up, named_by, number_for, opens_in, place_in, pongs, put_frame, put_in, queue, reacts, reacts_unless, request, responds, seen, settled_by, taken_in, ticked, unready_in}
use Rattle.pulsar_messages.specs.Claims.{claim, is_spent}
use Rattle.pulsar_session.specs.Laws.{AnswerSpends, ClaimedOnce, EncodingSpends, Unclaimed, bears_number, claims, claims_standing, claims_waiting, is_claimed}
use Rattle.pulsar_session.proofs.Others.{bears_is, takes_ready}

abbrev one : Bool → ℕ
one b = cond b 1 0

waiting_append : (n : ℕ) (xs ys : List Pending) → claims_waiting n (xs ++ ys) ≡ claims_waiting n xs + claims_waiting n ys
waiting_append n [] ys = omega arith
waiting_append n (x ∷ xs) ys = let more = waiting_append n xs ys in omega (arith, more)

standing_append : (n : ℕ) (xs ys : List Standing) → claims_standing n (xs ++ ys) ≡ claims_standing n xs + claims_standing n ys
standing_append n [] ys = omega arith
standing_append n (x ∷ xs) ys = let more = standing_append n xs ys in omega (arith, more)

waiting_filter : (n : ℕ) (test : Pending → Bool) (ps : List Pending) → claims_waiting n (filter test ps) ≤ claims_waiting n ps
waiting_filter n test [] = omega arith
waiting_filter n test (p ∷ ps) = by (test p) refl (waiting_filter n test ps)
  where
    by : (b : Bool) → test p ≡ b → claims_waiting n (filter test ps) ≤ claims_waiting n ps → claims_waiting n (filter test (p ∷ ps)) ≤ claims_waiting n (p ∷ ps)
    by true e more = rw e (omega (arith, more))
    by false e more = rw e (omega (arith, more))

-- what waits where a frame with this claim is queued
waits_claims : (n : ℕ) (c : Option Claim) (v : Seen) → claims_waiting n (waits_for c v.waits) ≡ one (is_claimed n c)
waits_claims n None v = refl
waits_claims n (Some c) v = by (is_same (Reply n) c.awaits)
  where
    by : (b : Bool) → one b + 0 ≡ one b
    by true = refl
    by false = refl

queue_claims : (n : ℕ) (frame : List ℕ) (c : Option Claim) (v : Seen) → claims n (queue frame c v) ≡ claims n v + one (is_claimed n c)
queue_claims n frame c v =
    let more = waiting_append n v.waits.waiting (waits_for c v.waits) in
    let new = waits_claims n c v in
    omega (arith, more, new)

put_in_claims : (n : ℕ) (room w : Bool) (frame : List ℕ) (c : Option Claim) (v : Seen) → claims n (put_in room w frame c v) ≤ claims n v + one (is_claimed n c)
put_in_claims n true w frame c v = let e = queue_claims n frame c v in omega (arith, e)
put_in_claims n false true frame c v =
    let more = standing_append n v.line (record { frame = frame; claim = c } ∷ []) in omega (arith, more)
put_in_claims n false false frame c v = omega arith

put_frame_claims : (n : ℕ) (frame : Option (List ℕ)) (w : Bool) (c : Option Claim) (v : Seen) → claims n (put_frame frame w c v) ≤ claims n v + one (is_claimed n c)
put_frame_claims n None w c v = omega arith
put_frame_claims n (Some frame) w c v = put_in_claims n (has_room v) w frame c v

put_in_next : (room w : Bool) (frame : List ℕ) (c : Option Claim) (v : Seen) → (put_in room w frame c v).next_number ≡ v.next_number
put_in_next true w frame c v = refl
put_in_next false true frame c v = refl
put_in_next false false frame c v = refl

put_frame_next : (frame : Option (List ℕ)) (w : Bool) (c : Option Claim) (v : Seen) → (put_frame frame w c v).next_number ≡ v.next_number
put_frame_next None w c v = refl
put_frame_next (Some frame) w c v = put_in_next (has_room v) w frame c v

-- no more claims than before, and the same number comes next
record Fewer (n : ℕ) (v w : Seen) : Type 0 where
  less : claims n w ≤ claims n v
  next : w.next_number ≡ v.next_number

module _ (n : ℕ) where
  fewer_same : (v : Seen) → Fewer n v v
  fewer_same v = record { less = omega arith; next = refl }

  fewer_then : (u v w : Seen) → Fewer n u v → Fewer n v w → Fewer n u w
  fewer_then u v w a b = record { less = omega (arith, a.less, b.less); next = b.next ∙ a.next }

  asks_fewer : (r : Request) (v : Seen) → is_claimed n r.claim ≡ false → Fewer n v (asks_for r v)
  asks_fewer r v h =
      let le = put_frame_claims n (frame_for r.message) (can_wait r.when_full) r.claim v in
      let none : one (is_claimed n r.claim) ≡ 0 = ap one h in
      record { less = omega (arith, le, none); next = put_frame_next (frame_for r.message) (can_wait r.when_full) r.claim v }

  challenged_fewer : (c : Option AuthenticationValues) (v : Seen) → Fewer n v (challenged c v)
  challenged_fewer None v = fewer_same v
  challenged_fewer (Some auth) v = asks_fewer (responds auth) v refl

  named_waiting : (i : ℕ) (v : Seen) (b : Bool) → list_any (λ p. is_same (Reply i) p.awaits) v.waits.waiting ≡ b → (named_by (Some i) v).waits.waiting ≡ v.waits.waiting
  named_waiting i v true e = rw e refl
  named_waiting i v false e = rw e refl

  named_fewer : (i : Option ℕ) (v : Seen) → Fewer n v (named_by i v)
  named_fewer None v = fewer_same v
  named_fewer (Some i) v =
      let same = ap (claims_waiting n) (named_waiting i v (list_any (λ p. is_same (Reply i) p.awaits) v.waits.waiting) refl) in
      record { less = omega (arith, same); next = refl }

  cond_fewer : (b : Bool) (v x y : Seen) → Fewer n v x → Fewer n v y → Fewer n v (cond b x y)
  cond_fewer true v x y h g = h
  cond_fewer false v x y h g = g

  reacts_fewer : (m : MessageValues) (v : Seen) → Fewer n v (reacts m v)
  reacts_fewer m v = cond_fewer (is 18 m) v (asks_for pongs v) (cond (is 36 m) (challenged v.setup.auth v) (named_by (unready_in m.command.body) v))
      (asks_fewer pongs v refl)
      (cond_fewer (is 36 m) v (challenged v.setup.auth v) (named_by (unready_in m.command.body) v) (challenged_fewer v.setup.auth v) (named_fewer (unready_in m.command.body) v))

  unless_fewer : (ps : List ℕ) (m : MessageValues) (v : Seen) → Fewer n v (reacts_unless ps m v)
  unless_fewer [] m v = reacts_fewer m v
  unless_fewer (p ∷ ps) m v = fewer_same v

  moved_up_claims : (line : List Standing) (v : Seen) → claims_waiting n (moved_up line v).waits.waiting + claims_standing n (moved_up line v).line ≡ claims_waiting n v.waits.waiting + claims_standing n line
  moved_up_claims [] v = refl
  moved_up_claims (s ∷ line) v = by (has_room v) refl (moved_up_claims line u)
    where
      u : Seen
      u = queue s.frame s.claim v

      by : (b : Bool) → has_room v ≡ b → claims_waiting n (moved_up line u).waits.waiting + claims_standing n (moved_up line u).line ≡ claims_waiting n u.waits.waiting + claims_standing n line →
          claims_waiting n (moved_up (s ∷ line) v).waits.waiting + claims_standing n (moved_up (s ∷ line) v).line ≡ claims_waiting n v.waits.waiting + claims_standing n (s ∷ line)
      by true e more =
          let new : claims_waiting n (v.waits.waiting ++ waits_for s.claim v.waits) ≡ claims_waiting n v.waits.waiting + claims_waiting n (waits_for s.claim v.waits) = waiting_append n v.waits.waiting (waits_for s.claim v.waits) in
          let has = waits_claims n s.claim v in
          let sums : claims_waiting n u.waits.waiting + claims_standing n line ≡ claims_waiting n v.waits.waiting + claims_standing n (s ∷ line) = omega (arith, new, has) in
          ap (λ b. claims_waiting n (cond b (moved_up line u) (record v { line = s ∷ line })).waits.waiting + claims_standing n (cond b (moved_up line u) (record v { line = s ∷ line })).line) e ∙ more ∙ sums
      by false e more =
          ap (λ b. claims_waiting n (cond b (moved_up line u) (record v { line = s ∷ line })).waits.waiting + claims_standing n (cond b (moved_up line u) (record v { line = s ∷ line })).line) e

  moved_up_next : (line : List Standing) (v : Seen) → (moved_up line v).next_number ≡ v.next_number
  moved_up_next [] v = refl
  moved_up_next (s ∷ line) v = by (has_room v) refl (moved_up_next line (queue s.frame s.claim v))
    where
      by : (b : Bool) → has_room v ≡ b → (moved_up line (queue s.frame s.claim v)).next_number ≡ v.next_number → (moved_up (s ∷ line) v).next_number ≡ v.next_number
      by true e more = ap (λ b. (cond b (moved_up line (queue s.frame s.claim v)) (record v { line = s ∷ line })).next_number) e ∙ more
      by false e more = ap (λ b. (cond b (moved_up line (queue s.frame s.claim v)) (record v { line = s ∷ line })).next_number) e

  greeted_fewer : (b : Bool) (rest : List ℕ) (v : Seen) → Fewer n v (greeted b rest v)
  greeted_fewer true rest v = record { less = omega arith; next = refl }
  greeted_fewer false rest v = fewer_same v

  taken_fewer : (stage : Stage) (f : Front) (v : Seen) → Fewer n v (taken_in stage f v)
  taken_fewer Dialing f v = fewer_same v
  taken_fewer Over f v = fewer_same v
  taken_fewer Handshaking Short v = fewer_same v
  taken_fewer Handshaking (Refused r) v = fewer_same v
  taken_fewer Handshaking (Whole m rest) v = greeted_fewer (is 3 m) rest v
  taken_fewer Ready Short v = fewer_same v
  taken_fewer Ready (Refused r) v = fewer_same v
  taken_fewer Ready (Whole m rest) v =
      let u = record v { unread = rest } in
      let a = record u { waits = answered_to m u.waits } in
      let le = waiting_filter n (λ p. not (answers m p.awaits)) v.waits.waiting in
      fewer_then v a (taken_in Ready (Whole m rest) v) (record { less = omega (arith, le); next = refl }) (unless_fewer (places (settled_by m u)) m a)

  greets_fewer : (frame : Option (List ℕ)) (v : Seen) → Fewer n v (greets_with frame v)
  greets_fewer None v = fewer_same v
  greets_fewer (Some frame) v = let e = queue_claims n frame None v in record { less = omega (arith, e); next = refl }

  opens_fewer : (stage : Stage) (v : Seen) → Fewer n v (opens_in stage v)
  opens_fewer Dialing v = let x = greets_fewer (frame_for (bare (connect_command v.setup.auth v.setup.proxy))) (record v { stage = Handshaking }) in record { less = x.less; next = x.next }
  opens_fewer Handshaking v = fewer_same v
  opens_fewer Ready v = fewer_same v
  opens_fewer Over v = fewer_same v

  -- ASKING

  drawn_claims : (b : Bool) (v : Seen) → claims n (drawn b v) ≡ claims n v
  drawn_claims true v = refl
  drawn_claims false v = refl

  other_number : (id : ℕ) → (n == id) ≡ false → is_same (Reply n) (Reply id) ≡ false
  other_number id h = is_at-eqb n id ∙ h

  -- only what is numbered claims its number
  claims_own : (id : ℕ) (words : Words) → is_claimed n (claim id words) ≡ true → (n ≡ id) × (is_numbered words ≡ true)
  claims_own id words h = by words h
    where
      own : is_same (Reply n) (Reply id) ≡ true → n ≡ id
      own e = let at : (n == id) ≡ true = sym (is_at-eqb n id) ∙ e in grind (arith, nat_tests)

      by : (words : Words) → is_claimed n (claim id words) ≡ true → (n ≡ id) × (is_numbered words ≡ true)
      by SendPing e = absurd cc
      by SendPong e = absurd cc
      by (AuthChallenge auth) e = absurd cc
      by (LookupTopic topic authoritative) e = (own e, refl)
      by (LookupPartitionedTopic topic) e = (own e, refl)
      by (GetTopicsOfNamespace namespace mode) e = (own e, refl)
      by (GetSchema topic version) e = (own e, refl)
      by (CreateProducer topic producer name options) e = (own e, refl)
      by (Send producer name sequence message block) e = absurd cc
      by (CloseProducer producer) e = (own e, refl)
      by (Subscribe topic subscription sub_type consumer name options) e = (own e, refl)
      by (SendFlow consumer permits) e = absurd cc
      by (SendAck consumer ids cumulative) e = absurd cc
      by (SendRedeliver consumer ids) e = absurd cc
      by (Seek consumer place time) e = (own e, refl)
      by (GetLastMessageId consumer) e = (own e, refl)
      by (GetConsumerStats consumer) e = (own e, refl)
      by (Unsubscribe consumer) e = (own e, refl)
      by (CloseConsumer consumer) e = (own e, refl)
      by (CloseConsumerUnawaited consumer) e = absurd cc

record Claimed (n : ℕ) (v : Seen) : Type 0 where
  once : claims n v ≤ 1
  later : v.next_number ≤ n → claims n v ≡ 0

still_claimed : (n : ℕ) (v w : Seen) → Fewer n v w → Claimed n v → Claimed n w
still_claimed n v w f h = record {
  once = omega (arith, f.less, h.once);
  later = λ le. let none = h.later (omega (arith, le, f.next)) in omega (arith, f.less, none);
}

drawn_next : (b : Bool) (v : Seen) → b ≡ true → (drawn b v).next_number ≡ v.next_number + 1
drawn_next true v h = refl
drawn_next false v h = absurd cc

drawn_more : (b : Bool) (v : Seen) → v.next_number ≤ (drawn b v).next_number
drawn_more true v = omega arith
drawn_more false v = omega arith

asked_claimed : (n : ℕ) (r : Result ℕ ConnectionError) (now : ℕ) (words : Words) (v : Seen) → ((id : ℕ) → r ≡ Ok id → id ≡ v.next_number) → Claimed n v → Claimed n (after_of r now words v)
asked_claimed n (Err e) now words v is h = h
asked_claimed n (Ok id) now words v is h = by (is_claimed n (claim id words)) refl
  where
    d : Seen
    d = drawn (is_numbered words) v

    w : Seen
    w = asks_for (request id now words) d

    le : claims n w ≤ claims n d + one (is_claimed n (claim id words))
    le = put_frame_claims n (frame_for (message_of id now words)) (can_wait (when_full words)) (claim id words) d

    next : w.next_number ≡ d.next_number
    next = put_frame_next (frame_for (message_of id now words)) (can_wait (when_full words)) (claim id words) d

    by : (b : Bool) → is_claimed n (claim id words) ≡ b → Claimed n w
    by true e =
        let own = claims_own n id words e in
        let first = is id refl in
        let none = h.later (omega (arith, own.0, first)) in
        let same = drawn_claims n (is_numbered words) v in
        let new : one (is_claimed n (claim id words)) ≡ 1 = ap one e in
        let more = drawn_next (is_numbered words) v own.1 in
        record {
          once = omega (arith, le, same, none, new);
          later = λ lt. absurd (omega (arith, lt, next, more, own.0, first));
        }
    by false e =
        let same = drawn_claims n (is_numbered words) v in
        let new : one (is_claimed n (claim id words)) ≡ 0 = ap one e in
        let more = drawn_more (is_numbered words) v in
        record {
          once = omega (arith, le, same, new, h.once);
          later = λ lt. let none = h.later (omega (arith, lt, next, more)) in omega (arith, le, same, new, none);
        }

number_is : (numbered : Bool) (v : Seen) (id : ℕ) → number_for numbered v ≡ Ok id → id ≡ v.next_number
number_is numbered v id h = by (is_ready v.stage) (numbered && is_spent v.next_number) h
  where
    by : (a b : Bool) → cond a (cond b (Err error.Exhausted) (Ok v.next_number)) (Err error.Disconnected) ≡ Ok id → id ≡ v.next_number
    by true true g = absurd cc
    by true false g = cc
    by false b g = absurd cc

cond_claimed : (n : ℕ) (b : Bool) (x y : Seen) → Claimed n x → Claimed n y → Claimed n (cond b x y)
cond_claimed n true x y h g = h
cond_claimed n false x y h g = g

act_claimed : (n : ℕ) (act : Act) (v : Seen) → Claimed n v → Claimed n (after act v)
act_claimed n (Opens now) v h = still_claimed n (ticked now v) (after (Opens now) v) (opens_fewer n v.stage (ticked now v)) (record { once = h.once; later = h.later })
act_claimed n (Feeds piece) v h = cond_claimed n (is_open v.stage) (record v { unread = v.unread ++ piece }) v (record { once = h.once; later = h.later }) h
act_claimed n (Takes now) v h = still_claimed n (ticked now v) (after (Takes now) v) (taken_fewer n v.stage (front v.unread) (ticked now v)) (record { once = h.once; later = h.later })
act_claimed n (Asks now words) v h = asked_claimed n (number_for (is_numbered words) v) now words (ticked now v) (λ id e. number_is (is_numbered words) v id e) (record { once = h.once; later = h.later })
act_claimed n (Drains most now) v h =
    let b = record (ticked now v) { unwritten = drop most v.unwritten } in
    let same = moved_up_claims n v.line b in
    let next = moved_up_next n v.line b in
    cond_claimed n (is_open v.stage) (moved_up v.line b) (ticked now v)
    (record { once = omega (arith, same, h.once); later = λ le. let none = h.later (omega (arith, le, next)) in omega (arith, same, none) }) (record { once = h.once; later = h.later })
act_claimed n (Closes cause) v h = cond_claimed n (is_over v.stage) v (record v { stage = Over; error = Some cause; unwritten = []; line = []; waits = ended v.waits; unread = [] }) h (record { once = omega arith; later = λ le. refl })

all_claimed : (n : ℕ) (s : Setup) (h : List Act) → Claimed n (seen s h)
all_claimed n s [] = record { once = omega arith; later = λ le. refl }
all_claimed n s (act ∷ h) = act_claimed n act (seen s h) (all_claimed n s h)

pub claimed_once : ClaimedOnce
claimed_once s h n = let x = all_claimed n s h in (x.once, x.later)

-- NUMBERS ARE SPENT

none_waiting : (n : ℕ) (ps : List Pending) → claims_waiting n ps ≡ 0 → list_any (λ p. is_same (Reply n) p.awaits) ps ≡ false
none_waiting n [] h = refl
none_waiting n (p ∷ ps) h = elim (cases_Bool (is_same (Reply n) p.awaits)) [
  | inl y ↦ absurd (let no = rw y at h in omega (arith, no))
  | inr y ↦ rw y (none_waiting n ps (let less = rw y at h in omega (arith, less)))
]

none_standing : (n : ℕ) (xs : List Standing) → claims_standing n xs ≡ 0 → list_any (λ s. is_claimed n s.claim) xs ≡ false
none_standing n [] h = refl
none_standing n (x ∷ xs) h = elim (cases_Bool (is_claimed n x.claim)) [
  | inl y ↦ absurd (let no = rw y at h in omega (arith, no))
  | inr y ↦ rw y (none_standing n xs (let less = rw y at h in omega (arith, less)))
]

some_claim : (n : ℕ) (m : MessageValues) (ps : List Pending) → bears_number n (key m) ≡ true → is 19 m ≡ false → (filter (λ p. answers m p.awaits) ps ≡ [] → ⊥) → 1 ≤ claims_waiting n ps
some_claim n m [] b p some = absurd (some refl)
some_claim n m (q ∷ qs) b p some = elim (cases_Bool (is_same (Reply n) q.awaits)) [
  | inl y ↦ rw y (omega arith)
  | inr y ↦ (let not_this : answers m q.awaits ≡ false = bears_is n m q.awaits (key m) refl b p ∙ y in
      let more = some_claim n m qs b p (λ e. some (rw not_this e)) in rw y (omega (arith, more)))
]

none_left : (n : ℕ) (m : MessageValues) (ps : List Pending) → bears_number n (key m) ≡ true → is 19 m ≡ false → list_any (λ p. is_same (Reply n) p.awaits) (filter (λ p. not (answers m p.awaits)) ps) ≡ false
none_left n m [] b p = refl
none_left n m (q ∷ qs) b p = elim (cases_Bool (is_same (Reply n) q.awaits)) [
  | inl y ↦ (let this : answers m q.awaits ≡ true = bears_is n m q.awaits (key m) refl b p ∙ y in rw this (none_left n m qs b p))
  | inr y ↦ (let this : answers m q.awaits ≡ false = bears_is n m q.awaits (key m) refl b p ∙ y in rw (this, y) (none_left n m qs b p))
]

settles_quietly : (ps : List Pending) (m : MessageValues) (v : Seen) → (ps ≡ [] → ⊥) → reacts_unless (places ps) m v ≡ v
settles_quietly [] m v some = absurd (some refl)
settles_quietly (p ∷ ps) m v some = refl

pub answer_spends : AnswerSpends
answer_spends s h now n m rest ready e b p some =
    let v = seen s h in
    let x = all_claimed n s h in
    let u = record (ticked now v) { unread = rest } in
    let a = record u { waits = answered_to m u.waits } in
    let one_waits = some_claim n m v.waits.waiting b p some in
    let none_stands : claims_standing n v.line ≡ 0 = omega (arith, x.once, one_waits) in
    let is : seen s (Takes now ∷ h) ≡ a = takes_ready now v m rest ready e ∙ settles_quietly (settled_by m u) m a some in
    subst (Unclaimed n) (sym is) record { waiting = none_left n m v.waits.waiting b p; standing = none_standing n v.line none_stands }

-- a frame that could not be encoded

not_encoded : (room w : Bool) (frame : Option (List ℕ)) (c : Option Claim) (v : Seen) → place_in room w frame v ≡ Err (error.Encoding reason.Frame) → put_frame frame w c v ≡ v
not_encoded room w None c v h = refl
not_encoded true w (Some frame) c v h = absurd cc
not_encoded false true (Some frame) c v h = absurd cc
not_encoded false false (Some frame) c v h = absurd cc

no_number : (numbered : Bool) (v : Seen) (e : ConnectionError) → number_for numbered v ≡ Err e → e ≡ error.Encoding reason.Frame → ⊥
no_number numbered v e h same = by (is_ready v.stage) (numbered && is_spent v.next_number) (h ∙ ap Err same)
  where
    by : (a b : Bool) → cond a (cond b (Err error.Exhausted) (Ok v.next_number)) (Err error.Disconnected) ≡ Err (error.Encoding reason.Frame) → ⊥
    by true true g = cc
    by true false g = cc
    by false b g = cc

encoded_of : (r : Result ℕ ConnectionError) (now : ℕ) (words : Words) (v : Seen) → ((e : ConnectionError) → r ≡ Err e → e ≡ error.Encoding reason.Frame → ⊥) →
    answer_of r now words v ≡ Err (error.Encoding reason.Frame) → after_of r now words v ≡ drawn (is_numbered words) v
encoded_of (Err e) now words v never h = absurd (never e refl cc)
encoded_of (Ok id) now words v never h =
    let d = drawn (is_numbered words) v in not_encoded (has_room d) (can_wait (when_full words)) (frame_for (message_of id now words)) (claim id words) d h

drawn_waiting : (b : Bool) (v : Seen) → (drawn b v).waits.waiting ≡ v.waits.waiting
drawn_waiting true v = refl
drawn_waiting false v = refl

drawn_line : (b : Bool) (v : Seen) → (drawn b v).line ≡ v.line
drawn_line true v = refl
drawn_line false v = refl

pub encoding_spends : EncodingSpends
encoding_spends s h now words e =
    let v = seen s h in
    let is = encoded_of (number_for (is_numbered words) v) now words (ticked now v) (λ x. no_number (is_numbered words) v x) e in
    let n = v.next_number in
    let none = (all_claimed n s h).later (omega arith) in (
      is,
      λ numbered. subst (Unclaimed n) (sym is) record {
        waiting = ap (list_any (λ p. is_same (Reply n) p.awaits)) (drawn_waiting (is_numbered words) (ticked now v)) ∙ none_waiting n v.waits.waiting (omega (arith, none));
        standing = ap (list_any (λ x. is_claimed n x.claim)) (drawn_line (is_numbered words) (ticked now v)) ∙ none_standing n v.line (omega (arith, none));
      },
    )
