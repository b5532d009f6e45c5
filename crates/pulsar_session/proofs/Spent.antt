-- A number that was drawn and is claimed no longer is never claimed again.
use Rattle.std.proofs.Common.{◌≡◌, ◌∙◌, sym, ap, subst, refl, ℕ, ◌<◌, ◌==◌, ◌||◌, ◌&&◌, Bool, true, false, not, cond, List, [], ◌∷◌, ◌++◌, filter, drop, Option, Some, None, Result, Ok, Err, arith}
use Rattle.std.proofs.lemmas.List.Folds.{list_any-append}
use Rattle.std.proofs.lemmas.Bool.Decides.{nat_tests}
use Rattle.std.proofs.lemmas.Grind.{common_steps}
use Rattle.std.specs.List.{list_any}
use Rattle.pulsar_wire.specs.declared.error.ConnectionError.{ConnectionError}
use Rattle.pulsar_wire.specs.declared.error.ConnectionError.TheVariants as error
use Rattle.pulsar_frame.specs.Message.{MessageValues}
use Rattle.pulsar_frame.specs.Frame.{Front, Short, Refused, Whole, front}
use Rattle.pulsar_wire.specs.declared.awaited.Awaited.TheVariants.{Reply}
use Rattle.pulsar_wire.specs.declared.awaited.Claim.{Claim}
use Rattle.pulsar_session.specs.declared.states.Stage.{Stage}
use Rattle.pulsar_session.specs.declared.states.Stage.TheVariants.{Dialing, Handshaking, Ready, Over}
use Rattle.pulsar_wire.specs.Awaited.{is_same}
use Rattle.pulsar_session.specs.Answers.{answers, is}
use Rattle.pulsar_messages.specs.Messages.{connect_command}
use Rattle.pulsar_session.specs.Link.{Act, Asks, Closes, Drains, Feeds, Opens, Request, Seen, Setup, Standing, Takes, after, after_of, answered_to, asks_for, bare, can_wait, challenged, drawn, frame_for, greeted, greets_with, has_room, is_open, is_over, is_ready, moved_up, named_by, number_for, opens_in, pongs, put_frame, put_in, queue, reacts, reacts_unless, request, responds, seen, settled_by, taken_in, ticked, unready_in}
use Rattle.pulsar_messages.specs.Claims.{claim, is_spent}
use Rattle.pulsar_requests.specs.Waits.{Pending, ended, places, waits_for}
use Rattle.pulsar_messages.specs.Content.{AuthenticationValues}
use Rattle.pulsar_messages.specs.Words.{Words, SendPing, SendPong, AuthChallenge, LookupTopic, LookupPartitionedTopic, GetTopicsOfNamespace, GetSchema, CreateProducer, Send, CloseProducer, Subscribe, SendFlow, SendAck, SendRedeliver, Seek, GetLastMessageId, GetConsumerStats, Unsubscribe, CloseConsumer, CloseConsumerUnawaited, is_numbered}
use Rattle.pulsar_session.specs.Laws.{SpentStaysSpent, is_claimed}

record Spent (n : ℕ) (v : Seen) : Type 0 where
  waiting : list_any (λ p. is_same (Reply n) p.awaits) v.waits.waiting ≡ false
  standing : list_any (λ s. is_claimed n s.claim) v.line ≡ false
  below : n < v.next_number

neither : (a b c : Bool) → c ≡ (a || b) → a ≡ false → b ≡ false → c ≡ false
neither a b c e h g = e ∙ rw (h, g) refl

first_not : (a b : Bool) → (a || b) ≡ false → a ≡ false
first_not false b h = refl
first_not true b h = absurd cc

second_not : (a b : Bool) → (a || b) ≡ false → b ≡ false
second_not false b h = h
second_not true b h = absurd cc

any_filter : (test keep : Pending → Bool) (ps : List Pending) → list_any test ps ≡ false → list_any test (filter keep ps) ≡ false
any_filter test keep [] h = refl
any_filter test keep (p ∷ ps) h = by (keep p) refl (any_filter test keep ps (second_not (test p) (list_any test ps) h))
  where
    by : (b : Bool) → keep p ≡ b → list_any test (filter keep ps) ≡ false → list_any test (filter keep (p ∷ ps)) ≡ false
    by true e more = rw e (rw (first_not (test p) (list_any test ps) h) more)
    by false e more = rw e more

module _ (n : ℕ) where
  waits_not : (c : Option Claim) (v : Seen) → is_claimed n c ≡ false → list_any (λ p. is_same (Reply n) p.awaits) (waits_for c v.waits) ≡ false
  waits_not None v h = refl
  waits_not (Some c) v h = rw h refl

  queue_waiting : (c : Option Claim) (v : Seen) → is_claimed n c ≡ false → list_any (λ p. is_same (Reply n) p.awaits) v.waits.waiting ≡ false →
      list_any (λ p. is_same (Reply n) p.awaits) (v.waits.waiting ++ waits_for c v.waits) ≡ false
  queue_waiting c v h w = neither (list_any (λ p. is_same (Reply n) p.awaits) v.waits.waiting) (list_any (λ p. is_same (Reply n) p.awaits) (waits_for c v.waits)) (list_any (λ p. is_same (Reply n) p.awaits) (v.waits.waiting ++ waits_for c v.waits))
      (list_any-append (λ p. is_same (Reply n) p.awaits) v.waits.waiting (waits_for c v.waits)) w (waits_not c v h)

  queue_spent : (frame : List ℕ) (c : Option Claim) (v : Seen) → is_claimed n c ≡ false → Spent n v → Spent n (queue frame c v)
  queue_spent frame c v h s = record {
    waiting = queue_waiting c v h s.waiting;
    standing = s.standing;
    below = s.below;
  }

  put_in_spent : (room : Bool) (w : Bool) (frame : List ℕ) (c : Option Claim) (v : Seen) → is_claimed n c ≡ false → Spent n v → Spent n (put_in room w frame c v)
  put_in_spent true w frame c v h s = queue_spent frame c v h s
  put_in_spent false true frame c v h s =
      let one : List Standing = record { frame = frame; claim = c } ∷ [] in
      let new : list_any (λ x. is_claimed n x.claim) one ≡ false = rw h refl in
      record {
        waiting = s.waiting;
        standing = neither (list_any (λ x. is_claimed n x.claim) v.line) (list_any (λ x. is_claimed n x.claim) one) (list_any (λ x. is_claimed n x.claim) (v.line ++ one))
            (list_any-append (λ x. is_claimed n x.claim) v.line one) s.standing new;
        below = s.below;
      }
  put_in_spent false false frame c v h s = s

  put_frame_spent : (frame : Option (List ℕ)) (w : Bool) (c : Option Claim) (v : Seen) → is_claimed n c ≡ false → Spent n v → Spent n (put_frame frame w c v)
  put_frame_spent None w c v h s = s
  put_frame_spent (Some frame) w c v h s = put_in_spent (has_room v) w frame c v h s

  asks_for_spent : (r : Request) (v : Seen) → is_claimed n r.claim ≡ false → Spent n v → Spent n (asks_for r v)
  asks_for_spent r v h s = put_frame_spent (frame_for r.message) (can_wait r.when_full) r.claim v h s

  challenged_spent : (c : Option AuthenticationValues) (v : Seen) → Spent n v → Spent n (challenged c v)
  challenged_spent None v s = s
  challenged_spent (Some c) v s = asks_for_spent (responds c) v refl s

  cond_spent : (b : Bool) (x y : Seen) → Spent n x → Spent n y → Spent n (cond b x y)
  cond_spent true x y h g = h
  cond_spent false x y h g = g

  named_waiting : (i : ℕ) (v : Seen) (b : Bool) → list_any (λ p. is_same (Reply i) p.awaits) v.waits.waiting ≡ b → (named_by (Some i) v).waits.waiting ≡ v.waits.waiting
  named_waiting i v true e = rw e refl
  named_waiting i v false e = rw e refl

  named_spent : (i : Option ℕ) (v : Seen) → Spent n v → Spent n (named_by i v)
  named_spent None v s = s
  named_spent (Some i) v s = record {
    waiting = ap (list_any (λ p. is_same (Reply n) p.awaits)) (named_waiting i v (list_any (λ p. is_same (Reply i) p.awaits) v.waits.waiting) refl) ∙ s.waiting;
    standing = s.standing;
    below = s.below;
  }

  reacts_spent : (m : MessageValues) (v : Seen) → Spent n v → Spent n (reacts m v)
  reacts_spent m v s = cond_spent (is 18 m) (asks_for pongs v) (cond (is 36 m) (challenged v.setup.auth v) (named_by (unready_in m.command.body) v))
      (asks_for_spent pongs v refl s)
      (cond_spent (is 36 m) (challenged v.setup.auth v) (named_by (unready_in m.command.body) v) (challenged_spent v.setup.auth v s) (named_spent (unready_in m.command.body) v s))

  unless_spent : (ps : List ℕ) (m : MessageValues) (v : Seen) → Spent n v → Spent n (reacts_unless ps m v)
  unless_spent [] m v s = reacts_spent m v s
  unless_spent (p ∷ ps) m v s = s

  moved_up_spent : (line : List Standing) (v : Seen) → list_any (λ x. is_claimed n x.claim) line ≡ false → list_any (λ p. is_same (Reply n) p.awaits) v.waits.waiting ≡ false →
      n < v.next_number → Spent n (moved_up line v)
  moved_up_spent [] v h w lt = record { waiting = w; standing = refl; below = lt }
  moved_up_spent (s ∷ line) v h w lt = by (has_room v) refl
      (moved_up_spent line (queue s.frame s.claim v) (second_not (is_claimed n s.claim) (list_any (λ x. is_claimed n x.claim) line) h)
      (queue_waiting s.claim v (first_not (is_claimed n s.claim) (list_any (λ x. is_claimed n x.claim) line) h) w) lt)
    where
      by : (b : Bool) → has_room v ≡ b → Spent n (moved_up line (queue s.frame s.claim v)) → Spent n (moved_up (s ∷ line) v)
      by true e more = subst (λ x. Spent n (cond x (moved_up line (queue s.frame s.claim v)) (record v { line = s ∷ line }))) (sym e) more
      by false e more = subst (λ x. Spent n (cond x (moved_up line (queue s.frame s.claim v)) (record v { line = s ∷ line }))) (sym e)
          record { waiting = w; standing = h; below = lt }

  greeted_spent : (b : Bool) (rest : List ℕ) (v : Seen) → Spent n v → Spent n (greeted b rest v)
  greeted_spent true rest v s = record { waiting = s.waiting; standing = s.standing; below = s.below }
  greeted_spent false rest v s = s

  taken_spent : (stage : Stage) (f : Front) (v : Seen) → Spent n v → Spent n (taken_in stage f v)
  taken_spent Dialing f v s = s
  taken_spent Over f v s = s
  taken_spent Handshaking Short v s = s
  taken_spent Handshaking (Refused r) v s = s
  taken_spent Handshaking (Whole m rest) v s = greeted_spent (is 3 m) rest v s
  taken_spent Ready Short v s = s
  taken_spent Ready (Refused r) v s = s
  taken_spent Ready (Whole m rest) v s =
      let u = record v { unread = rest } in
      unless_spent (places (settled_by m u)) m (record u { waits = answered_to m u.waits }) (record {
        waiting = any_filter (λ p. is_same (Reply n) p.awaits) (λ p. not (answers m p.awaits)) v.waits.waiting s.waiting;
        standing = s.standing;
        below = s.below;
      })

  greets_spent : (frame : Option (List ℕ)) (v : Seen) → Spent n v → Spent n (greets_with frame v)
  greets_spent None v s = s
  greets_spent (Some frame) v s = queue_spent frame None v refl s

  opens_spent : (stage : Stage) (v : Seen) → Spent n v → Spent n (opens_in stage v)
  opens_spent Dialing v s = greets_spent (frame_for (bare (connect_command v.setup.auth v.setup.proxy))) (record v { stage = Handshaking }) (record { waiting = s.waiting; standing = s.standing; below = s.below })
  opens_spent Handshaking v s = s
  opens_spent Ready v s = s
  opens_spent Over v s = s

  drawn_spent : (b : Bool) (v : Seen) → Spent n v → Spent n (drawn b v)
  drawn_spent true v s = record { waiting = s.waiting; standing = s.standing; below = omega (arith, s.below) }
  drawn_spent false v s = s

  other_number : (id : ℕ) → n < id → is_same (Reply n) (Reply id) ≡ false
  other_number id lt = let apart : (n == id) ≡ false = grind (arith, nat_tests) in grind (arith, nat_tests, common_steps)

  claim_other : (id : ℕ) (words : Words) → n < id → is_claimed n (claim id words) ≡ false
  claim_other id SendPing lt = refl
  claim_other id SendPong lt = refl
  claim_other id (AuthChallenge auth) lt = refl
  claim_other id (LookupTopic topic authoritative) lt = other_number id lt
  claim_other id (LookupPartitionedTopic topic) lt = other_number id lt
  claim_other id (GetTopicsOfNamespace namespace mode) lt = other_number id lt
  claim_other id (GetSchema topic version) lt = other_number id lt
  claim_other id (CreateProducer topic producer name options) lt = other_number id lt
  claim_other id (Send producer name sequence message block) lt = refl
  claim_other id (CloseProducer producer) lt = other_number id lt
  claim_other id (Subscribe topic subscription sub_type consumer name options) lt = other_number id lt
  claim_other id (SendFlow consumer permits) lt = refl
  claim_other id (SendAck consumer ids cumulative) lt = refl
  claim_other id (SendRedeliver consumer ids) lt = refl
  claim_other id (Seek consumer place time) lt = other_number id lt
  claim_other id (GetLastMessageId consumer) lt = other_number id lt
  claim_other id (GetConsumerStats consumer) lt = other_number id lt
  claim_other id (Unsubscribe consumer) lt = other_number id lt
  claim_other id (CloseConsumer consumer) lt = other_number id lt
  claim_other id (CloseConsumerUnawaited consumer) lt = refl

  number_is : (numbered : Bool) (v : Seen) (id : ℕ) → number_for numbered v ≡ Ok id → id ≡ v.next_number
  number_is numbered v id h = by (is_ready v.stage) (numbered && is_spent v.next_number) h
    where
      by : (a b : Bool) → cond a (cond b (Err error.Exhausted) (Ok v.next_number)) (Err error.Disconnected) ≡ Ok id → id ≡ v.next_number
      by true true g = absurd cc
      by true false g = cc
      by false b g = absurd cc

  after_of_spent : (r : Result ℕ ConnectionError) (now : ℕ) (words : Words) (v : Seen) → ((id : ℕ) → r ≡ Ok id → n < id) → Spent n v → Spent n (after_of r now words v)
  after_of_spent (Err e) now words v h s = s
  after_of_spent (Ok id) now words v h s = asks_for_spent (request id now words) (drawn (is_numbered words) v) (claim_other id words (h id refl)) (drawn_spent (is_numbered words) v s)

  act_spent : (act : Act) (v : Seen) → Spent n v → Spent n (after act v)
  act_spent (Opens now) v s = opens_spent v.stage (ticked now v) (record { waiting = s.waiting; standing = s.standing; below = s.below })
  act_spent (Feeds piece) v s = cond_spent (is_open v.stage) (record v { unread = v.unread ++ piece }) v (record { waiting = s.waiting; standing = s.standing; below = s.below }) s
  act_spent (Takes now) v s = taken_spent v.stage (front v.unread) (ticked now v) (record { waiting = s.waiting; standing = s.standing; below = s.below })
  act_spent (Asks now words) v s = after_of_spent (number_for (is_numbered words) v) now words (ticked now v)
      (λ id e. let same = number_is (is_numbered words) v id e in omega (arith, same, s.below)) (record { waiting = s.waiting; standing = s.standing; below = s.below })
  act_spent (Drains most now) v s = cond_spent (is_open v.stage) (moved_up v.line (record (ticked now v) { unwritten = drop most v.unwritten })) (ticked now v)
      (moved_up_spent v.line (record (ticked now v) { unwritten = drop most v.unwritten }) s.standing s.waiting s.below) (record { waiting = s.waiting; standing = s.standing; below = s.below })
  act_spent (Closes cause) v s = cond_spent (is_over v.stage) v (record v { stage = Over; error = Some cause; unwritten = []; line = []; waits = ended v.waits; unread = [] }) s (record { waiting = refl; standing = refl; below = s.below })

  all_spent : (s : Setup) (later h : List Act) → Spent n (seen s h) → Spent n (seen s (later ++ h))
  all_spent s [] h x = x
  all_spent s (act ∷ later) h x = act_spent act (seen s (later ++ h)) (all_spent s later h x)

pub spent_stays_spent : SpentStaysSpent
spent_stays_spent s later h n lt u =
    let x = all_spent n s later h (record { waiting = u.waiting; standing = u.standing; below = lt }) in
    record { waiting = x.waiting; standing = x.standing }
