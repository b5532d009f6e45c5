-- Frames in order, numbers, pings, pieces, refusals and the line.
use Rattle.std.proofs.Common.{◌≡◌, ◌∙◌, sym, ap, subst, refl, ℕ, ◌+◌, ◌<◌, ◌==◌, nat_lt, Bool, true, false, not, cond, List, [], ◌∷◌, ◌++◌, length, filter, drop, Option, Some, None, inl, inr, Result, Ok, Err, arith, append_assoc, length-append}
use Rattle.std.proofs.lemmas.Bool.{cases_Bool}
use Rattle.std.proofs.lemmas.Bool.Decides.{nat_tests}
use Rattle.std.specs.List.{list_any}
use Rattle.pulsar_wire.specs.declared.error.ConnectionError.{ConnectionError}
use Rattle.pulsar_wire.specs.declared.error.ConnectionError.TheVariants as error
use Rattle.pulsar_wire.specs.declared.key.RequestKey.{RequestKey}
use Rattle.pulsar_wire.specs.declared.key.RequestKey.TheVariants as keys
use Rattle.pulsar_wire.specs.Command.{BodyValues}
use Rattle.pulsar_frame.specs.Message.{MessageValues}
use Rattle.pulsar_frame.specs.Key.{key}
use Rattle.pulsar_frame.specs.Frame.{Front, Short, Refused, Whole, front}
use Rattle.pulsar_wire.specs.declared.awaited.Awaited.{Awaited}
use Rattle.pulsar_wire.specs.declared.awaited.Awaited.TheVariants.{Pong, Reply, Receipt}
use Rattle.pulsar_wire.specs.declared.awaited.Claim.{Claim}
use Rattle.pulsar_session.specs.declared.states.Stage.{Stage}
use Rattle.pulsar_session.specs.declared.states.Stage.TheVariants.{Dialing, Handshaking, Ready, Over}
use Rattle.pulsar_wire.specs.Awaited.{is_same}
use Rattle.pulsar_session.specs.Answers.{answers, answers_by, is, is_number}
use Rattle.pulsar_session.specs.Link.{Act, Asks, Closes, Drains, Feeds, Opens, Request, Seen, Standing, Takes, after, after_of, answer_of, answered_to, asks_for, bare, came, came_by, came_in, can_wait, challenged, drawn, feeds, frame_for, greeted, greets_with, has_room, is_open, is_over, message_of, moved_up, named_by, number_for, opens_in, place_in, place_of, pongs, put_frame, put_in, queue, reacts, reacts_unless, received, request, responds, seen, settled_by, taken_in, ticked, unready_in}
use Rattle.pulsar_messages.specs.Claims.{claim}
use Rattle.pulsar_messages.specs.Messages.{connect_command}
use Rattle.pulsar_requests.specs.Waits.{Pending, ended, places}
use Rattle.pulsar_messages.specs.Content.{AuthenticationValues}
use Rattle.pulsar_messages.specs.Words.{Words, SendPing, SendPong, AuthChallenge, LookupTopic, LookupPartitionedTopic, GetTopicsOfNamespace, GetSchema, CreateProducer, Send, CloseProducer, Subscribe, SendFlow, SendAck, SendRedeliver, Seek, GetLastMessageId, GetConsumerStats, Unsubscribe, CloseConsumer, CloseConsumerUnawaited, is_numbered, when_full}
use Rattle.pulsar_requests.proofs.Awaiting.{is_at-eqb}
use Rattle.pulsar_session.proofs.Awaiting.{pong_key}
use Rattle.pulsar_session.specs.Laws.{CutInTwo, IsInLine, NoneStandsBesideRoom, PongSettlesPings, SlowDownChangesNothing, UnclaimedSettlesNothing, bears_number}

-- PIECES

fed_open : (x : List ℕ) (v : Seen) → is_open v.stage ≡ true → feeds x v ≡ record v { unread = v.unread ++ x }
fed_open x v e = ap (λ b. cond b (record v { unread = v.unread ++ x }) v) e

fed_shut : (x : List ℕ) (v : Seen) → is_open v.stage ≡ false → feeds x v ≡ v
fed_shut x v e = ap (λ b. cond b (record v { unread = v.unread ++ x }) v) e

pub cut_in_two : CutInTwo
cut_in_two a b v = by (is_open v.stage) refl
  where
    by : (o : Bool) → is_open v.stage ≡ o → feeds (a ++ b) v ≡ feeds b (feeds a v)
    by true e =
        fed_open (a ++ b) v e ∙ ap (λ x. record v { unread = x }) (sym (append_assoc v.unread a b))
        ∙ sym (ap (feeds b) (fed_open a v e) ∙ fed_open b (record v { unread = v.unread ++ a }) e)
    by false e = fed_shut (a ++ b) v e ∙ sym (ap (feeds b) (fed_shut a v e) ∙ fed_shut b v e)

-- REQUESTS THAT NOBODY MADE

-- what a message answers that bears the number of a request: that request alone
pub bears_is : (n : ℕ) (m : MessageValues) (a : Awaited) (k : Option RequestKey) → key m ≡ k → bears_number n k ≡ true → is 19 m ≡ false → answers m a ≡ is_same (Reply n) a
bears_is n m Pong k e b p = p
bears_is n m (Reply i) None e b p = absurd cc
bears_is n m (Reply i) (Some (keys.RequestId j)) e b p = let same : j ≡ n = grind (arith, nat_tests, b) in rw e (rw same (sym (is_at-eqb n i)))
bears_is n m (Reply i) (Some (keys.ProducerSend q t)) e b p = absurd cc
bears_is n m (Reply i) (Some (keys.Consumer c)) e b p = absurd cc
bears_is n m (Reply i) (Some (keys.CloseConsumer c j)) e b p = let same : j ≡ n = grind (arith, nat_tests, b) in rw e (rw same (sym (is_at-eqb n i)))
bears_is n m (Reply i) (Some keys.AuthChallenge) e b p = absurd cc
bears_is n m (Receipt q s) None e b p = absurd cc
bears_is n m (Receipt q s) (Some (keys.RequestId j)) e b p = rw e refl
bears_is n m (Receipt q s) (Some (keys.ProducerSend x t)) e b p = absurd cc
bears_is n m (Receipt q s) (Some (keys.Consumer c)) e b p = absurd cc
bears_is n m (Receipt q s) (Some (keys.CloseConsumer c j)) e b p = rw e refl
bears_is n m (Receipt q s) (Some keys.AuthChallenge) e b p = absurd cc

pub unclaimed_settles_nothing : UnclaimedSettlesNothing
unclaimed_settles_nothing n v m u k p = none v.waits.waiting u.waiting
  where
    none : (ps : List Pending) → list_any (λ p. is_same (Reply n) p.awaits) ps ≡ false → filter (λ p. answers m p.awaits) ps ≡ []
    none [] h = refl
    none (q ∷ qs) h = elim (cases_Bool (is_same (Reply n) q.awaits)) [
      | inl e ↦ absurd (let no = rw e at h in cc)
      | inr e ↦ rw (bears_is n m q.awaits (key m) refl k p ∙ e) (none qs (rw e at h))
    ]

-- SLOW DOWN

put_in_slow : (room w : Bool) (frame : List ℕ) (claim : Option Claim) (v : Seen) → place_in room w (Some frame) v ≡ Err error.SlowDown → put_in room w frame claim v ≡ v
put_in_slow true w frame claim v h = absurd cc
put_in_slow false true frame claim v h = absurd cc
put_in_slow false false frame claim v h = refl

put_frame_slow : (frame : Option (List ℕ)) (w : Bool) (claim : Option Claim) (v : Seen) → place_of frame w v ≡ Err error.SlowDown → put_frame frame w claim v ≡ v
put_frame_slow None w claim v h = refl
put_frame_slow (Some frame) w claim v h = put_in_slow (has_room v) w frame claim v h

-- what waits is never told to slow down
place_in_waits : (room : Bool) (frame : Option (List ℕ)) (v : Seen) → place_in room true frame v ≡ Err error.SlowDown → ⊥
place_in_waits true None v h = cc
place_in_waits true (Some frame) v h = cc
place_in_waits false None v h = cc
place_in_waits false (Some frame) v h = cc

-- and what is numbered waits
numbered_waits : (words : Words) → is_numbered words ≡ true → can_wait (when_full words) ≡ true
numbered_waits SendPing h = refl
numbered_waits SendPong h = absurd cc
numbered_waits (AuthChallenge auth) h = refl
numbered_waits (LookupTopic topic authoritative) h = refl
numbered_waits (LookupPartitionedTopic topic) h = refl
numbered_waits (GetTopicsOfNamespace namespace mode) h = refl
numbered_waits (GetSchema topic version) h = refl
numbered_waits (CreateProducer topic producer name options) h = refl
numbered_waits (Send producer name sequence message block) h = absurd cc
numbered_waits (CloseProducer producer) h = refl
numbered_waits (Subscribe topic subscription sub_type consumer name options) h = refl
numbered_waits (SendFlow consumer permits) h = refl
numbered_waits (SendAck consumer ids cumulative) h = refl
numbered_waits (SendRedeliver consumer ids) h = refl
numbered_waits (Seek consumer id time) h = refl
numbered_waits (GetLastMessageId consumer) h = refl
numbered_waits (GetConsumerStats consumer) h = refl
numbered_waits (Unsubscribe consumer) h = refl
numbered_waits (CloseConsumer consumer) h = refl
numbered_waits (CloseConsumerUnawaited consumer) h = refl

undrawn : (numbered waits : Bool) (frame : Option (List ℕ)) (v : Seen) → (numbered ≡ true → waits ≡ true) → place_of frame waits (drawn numbered v) ≡ Err error.SlowDown → drawn numbered v ≡ v
undrawn false waits frame v g h = refl
undrawn true waits frame v g h = absurd (place_in_waits (has_room (drawn true v)) frame (drawn true v) (subst (λ w. place_of frame w (drawn true v) ≡ Err error.SlowDown) (g refl) h))

slow : (n : Result ℕ ConnectionError) (now : ℕ) (words : Words) (v : Seen) → answer_of n now words v ≡ Err error.SlowDown → after_of n now words v ≡ v
slow (Err e) now words v h = refl
slow (Ok id) now words v h =
    put_frame_slow (frame_for (message_of id now words)) (can_wait (when_full words)) (claim id words) (drawn (is_numbered words) v) h
    ∙ undrawn (is_numbered words) (can_wait (when_full words)) (frame_for (message_of id now words)) v (numbered_waits words) h

pub slow_down_changes_nothing : SlowDownChangesNothing
slow_down_changes_nothing now words v h = slow (number_for (is_numbered words) v) now words (ticked now v) h

-- PINGS

pong_other : (n : ℕ) (body : Option BodyValues) → is_number 19 body ≡ true → (19 == n) ≡ false → is_number n body ≡ false
pong_other n None p apart = absurd cc
pong_other n (Some b) p apart = let same : b.number ≡ 19 = grind (arith, nat_tests) in rw same apart

pong_named : (body : Option BodyValues) → is_number 19 body ≡ true → unready_in body ≡ None
pong_named None p = absurd cc
pong_named (Some b) p = let same : b.number ≡ 19 = grind (arith, nat_tests) in rw same refl

pong_reacts : (ps : List ℕ) (m : MessageValues) (v : Seen) → is 19 m ≡ true → reacts_unless ps m v ≡ v
pong_reacts [] m v p = rw (pong_other 18 m.command.body p refl, pong_other 36 m.command.body p refl, pong_named m.command.body p) refl
pong_reacts (x ∷ ps) m v p = refl

pong_left : (m : MessageValues) (ps : List Pending) → is 19 m ≡ true → list_any (λ p. is_same Pong p.awaits) (filter (λ p. not (answers m p.awaits)) ps) ≡ false
pong_left m [] p = refl
pong_left m (q ∷ qs) p = by q.awaits refl (pong_left m qs p)
  where
    other : (b : Bool) → answers m q.awaits ≡ b → is_same Pong q.awaits ≡ false → list_any (λ p. is_same Pong p.awaits) (filter (λ p. not (answers m p.awaits)) qs) ≡ false →
        list_any (λ p. is_same Pong p.awaits) (filter (λ p. not (answers m p.awaits)) (q ∷ qs)) ≡ false
    other true e f more = rw e more
    other false e f more = rw (e, f) more

    by : (a : Awaited) → q.awaits ≡ a → list_any (λ p. is_same Pong p.awaits) (filter (λ p. not (answers m p.awaits)) qs) ≡ false →
        list_any (λ p. is_same Pong p.awaits) (filter (λ p. not (answers m p.awaits)) (q ∷ qs)) ≡ false
    by Pong e more = let gone : answers m q.awaits ≡ true = rw e p in rw gone more
    by (Reply n) e more = other (answers m q.awaits) refl (ap (is_same Pong) e) more
    by (Receipt x s) e more = other (answers m q.awaits) refl (ap (is_same Pong) e) more

pub takes_ready : (now : ℕ) (v : Seen) (m : MessageValues) (rest : List ℕ) → v.stage ≡ Ready → front v.unread ≡ Whole m rest → after (Takes now) v ≡ received m (record (ticked now v) { unread = rest })
takes_ready now v m rest ready e = ap (λ s. taken_in s (front v.unread) (ticked now v)) ready ∙ ap (λ f. taken_in Ready f (ticked now v)) e

came_ready : (v : Seen) (m : MessageValues) (rest : List ℕ) → v.stage ≡ Ready → front v.unread ≡ Whole m rest → came v ≡ came_by (places (settled_by m v)) m
came_ready v m rest ready e = ap (λ s. came_in s (front v.unread) v) ready ∙ ap (λ f. came_in Ready f v) e

keyless : (m : MessageValues) → is 19 m ≡ true → key m ≡ None
keyless m p = pong_key m m.command.body refl p

pings_are : (m : MessageValues) (ps : List Pending) → is 19 m ≡ true → filter (λ p. answers m p.awaits) ps ≡ filter (λ p. is_same Pong p.awaits) ps
pings_are m [] p = refl
pings_are m (q ∷ qs) p = by q.awaits refl (pings_are m qs p)
  where
    both : (b : Bool) → answers m q.awaits ≡ b → is_same Pong q.awaits ≡ b → filter (λ p. answers m p.awaits) qs ≡ filter (λ p. is_same Pong p.awaits) qs →
        filter (λ p. answers m p.awaits) (q ∷ qs) ≡ filter (λ p. is_same Pong p.awaits) (q ∷ qs)
    both true e f more = rw (e, f) (ap (λ t. q ∷ t) more)
    both false e f more = rw (e, f) more

    by : (a : Awaited) → q.awaits ≡ a → filter (λ p. answers m p.awaits) qs ≡ filter (λ p. is_same Pong p.awaits) qs →
        filter (λ p. answers m p.awaits) (q ∷ qs) ≡ filter (λ p. is_same Pong p.awaits) (q ∷ qs)
    by Pong e more = both true (ap (answers m) e ∙ p) (ap (is_same Pong) e) more
    by (Reply n) e more = both false (ap (answers m) e ∙ ap (λ k. answers_by (is 19 m) k (Reply n)) (keyless m p)) (ap (is_same Pong) e) more
    by (Receipt x s) e more = both false (ap (answers m) e ∙ ap (λ k. answers_by (is 19 m) k (Receipt x s)) (keyless m p)) (ap (is_same Pong) e) more

pub pong_settles_pings : PongSettlesPings
pong_settles_pings now v m rest ready e p =
    let u = record (ticked now v) { unread = rest } in
    let b = record u { waits = answered_to m u.waits } in (
      came_ready v m rest ready e ∙ ap (λ ps. came_by (places ps) m) (pings_are m v.waits.waiting p),
      ap (λ x. list_any (λ q. is_same Pong q.awaits) x.waits.waiting) (takes_ready now v m rest ready e ∙ pong_reacts (places (settled_by m u)) m b p) ∙ pong_left m v.waits.waiting p,
    )

-- THE LINE

shorter : (xs : List (List ℕ)) (f : List ℕ) (n : ℕ) → nat_lt (length (xs ++ f ∷ [])) n ≡ true → nat_lt (length xs) n ≡ true
shorter xs f n h =
    let len : length (xs ++ f ∷ []) ≡ length xs + 1 = length-append xs (f ∷ []) in
    let lt : length (xs ++ f ∷ []) < n = grind (arith, nat_tests) in
    let less : length xs < n = omega (arith, len, lt) in grind (arith, nat_tests)

queue_line : (frame : List ℕ) (c : Option Claim) (v : Seen) → IsInLine v → IsInLine (queue frame c v)
queue_line frame c v h = λ room. h (shorter v.unwritten frame v.setup.outbound room)

put_in_line : (room : Bool) (w : Bool) (frame : List ℕ) (c : Option Claim) (v : Seen) → has_room v ≡ room → IsInLine v → IsInLine (put_in room w frame c v)
put_in_line true w frame c v e h = queue_line frame c v h
put_in_line false true frame c v e h = λ room. absurd (let no = sym e ∙ room in cc)
put_in_line false false frame c v e h = h

put_frame_line : (frame : Option (List ℕ)) (w : Bool) (c : Option Claim) (v : Seen) → IsInLine v → IsInLine (put_frame frame w c v)
put_frame_line None w c v h = h
put_frame_line (Some frame) w c v h = put_in_line (has_room v) w frame c v refl h

asks_for_line : (r : Request) (v : Seen) → IsInLine v → IsInLine (asks_for r v)
asks_for_line r v h = put_frame_line (frame_for r.message) (can_wait r.when_full) r.claim v h

challenged_line : (c : Option AuthenticationValues) (v : Seen) → IsInLine v → IsInLine (challenged c v)
challenged_line None v h = h
challenged_line (Some c) v h = asks_for_line (responds c) v h

named_line : (n : Option ℕ) (v : Seen) → IsInLine v → IsInLine (named_by n v)
named_line None v h = h
named_line (Some n) v h = h

cond_line : (b : Bool) (x y : Seen) → IsInLine x → IsInLine y → IsInLine (cond b x y)
cond_line true x y h g = h
cond_line false x y h g = g

reacts_line : (m : MessageValues) (v : Seen) → IsInLine v → IsInLine (reacts m v)
reacts_line m v h = cond_line (is 18 m) (asks_for pongs v) (cond (is 36 m) (challenged v.setup.auth v) (named_by (unready_in m.command.body) v))
    (asks_for_line pongs v h)
    (cond_line (is 36 m) (challenged v.setup.auth v) (named_by (unready_in m.command.body) v) (challenged_line v.setup.auth v h) (named_line (unready_in m.command.body) v h))

unless_line : (ps : List ℕ) (m : MessageValues) (v : Seen) → IsInLine v → IsInLine (reacts_unless ps m v)
unless_line [] m v h = reacts_line m v h
unless_line (p ∷ ps) m v h = h

-- whatever the line was: where it moved up, it is empty or there is no room
moved_up_line : (line : List Standing) (v : Seen) → IsInLine (moved_up line v)
moved_up_line [] v = λ room. refl
moved_up_line (s ∷ line) v = by (has_room v) refl (moved_up_line line (queue s.frame s.claim v))
  where
    by : (b : Bool) → has_room v ≡ b → IsInLine (moved_up line (queue s.frame s.claim v)) → IsInLine (moved_up (s ∷ line) v)
    by true e more = subst (λ x. IsInLine (cond x (moved_up line (queue s.frame s.claim v)) (record v { line = s ∷ line }))) (sym e) more
    by false e more = subst (λ x. IsInLine (cond x (moved_up line (queue s.frame s.claim v)) (record v { line = s ∷ line }))) (sym e) (λ room. absurd (let no = sym e ∙ room in cc))

greeted_line : (b : Bool) (rest : List ℕ) (v : Seen) → IsInLine v → IsInLine (greeted b rest v)
greeted_line true rest v h = h
greeted_line false rest v h = h

taken_line : (stage : Stage) (f : Front) (v : Seen) → IsInLine v → IsInLine (taken_in stage f v)
taken_line Dialing f v h = h
taken_line Over f v h = h
taken_line Handshaking Short v h = h
taken_line Handshaking (Refused r) v h = h
taken_line Handshaking (Whole m rest) v h = greeted_line (is 3 m) rest v h
taken_line Ready Short v h = h
taken_line Ready (Refused r) v h = h
taken_line Ready (Whole m rest) v h = let u = record v { unread = rest } in unless_line (places (settled_by m u)) m (record u { waits = answered_to m u.waits }) h

greets_line : (frame : Option (List ℕ)) (v : Seen) → IsInLine v → IsInLine (greets_with frame v)
greets_line None v h = h
greets_line (Some frame) v h = queue_line frame None v h

opens_line : (stage : Stage) (v : Seen) → IsInLine v → IsInLine (opens_in stage v)
opens_line Dialing v h = greets_line (frame_for (bare (connect_command v.setup.auth v.setup.proxy))) (record v { stage = Handshaking }) h
opens_line Handshaking v h = h
opens_line Ready v h = h
opens_line Over v h = h

drawn_line : (b : Bool) (v : Seen) → IsInLine v → IsInLine (drawn b v)
drawn_line true v h = h
drawn_line false v h = h

after_of_line : (n : Result ℕ ConnectionError) (now : ℕ) (words : Words) (v : Seen) → IsInLine v → IsInLine (after_of n now words v)
after_of_line (Err e) now words v h = h
after_of_line (Ok id) now words v h = asks_for_line (request id now words) (drawn (is_numbered words) v) (drawn_line (is_numbered words) v h)

act_line : (act : Act) (v : Seen) → IsInLine v → IsInLine (after act v)
act_line (Opens now) v h = opens_line v.stage (ticked now v) h
act_line (Feeds piece) v h = cond_line (is_open v.stage) (record v { unread = v.unread ++ piece }) v h h
act_line (Takes now) v h = taken_line v.stage (front v.unread) (ticked now v) h
act_line (Asks now words) v h = after_of_line (number_for (is_numbered words) v) now words (ticked now v) h
act_line (Drains most now) v h = cond_line (is_open v.stage) (moved_up v.line (record (ticked now v) { unwritten = drop most v.unwritten })) (ticked now v) (moved_up_line v.line (record (ticked now v) { unwritten = drop most v.unwritten })) h
act_line (Closes cause) v h = cond_line (is_over v.stage) v (record v { stage = Over; error = Some cause; unwritten = []; line = []; waits = ended v.waits; unread = [] }) h (λ room. refl)

pub none_stands_beside_room : NoneStandsBesideRoom
none_stands_beside_room s [] = λ room. refl
none_stands_beside_room s (act ∷ h) = act_line act (seen s h) (none_stands_beside_room s h)
