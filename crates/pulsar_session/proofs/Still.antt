-- What an act leaves as it was: the cause of the end, the bytes that came, and who is excused.
use Rattle.std.proofs.Common.{◌≡◌, ◌∙◌, sym, ap, subst, refl, ℕ, ◌||◌, Bool, true, false, cond, List, [], ◌∷◌, Option, Some, None, Result, Ok, Err}
use Rattle.std.specs.List.{list_any}
use Rattle.std.specs.Ordering.{match_ordering, nat_cmp}
use Rattle.std.specs.declared.cmp.Ordering.{Ordering}
use Rattle.std.specs.declared.cmp.Ordering.TheVariants.{Less, Equal, Greater}
use Rattle.std.specs.BTreeMap.{is_at}
use Rattle.std.specs.BTreeSet.{insert_key}
use Rattle.pulsar_wire.specs.declared.error.ConnectionError.{ConnectionError}
use Rattle.pulsar_frame.specs.Message.{MessageValues}
use Rattle.pulsar_messages.specs.Content.{AuthenticationValues}
use Rattle.pulsar_messages.specs.Messages.{connect_command}
use Rattle.pulsar_messages.specs.Words.{Words, is_numbered}
use Rattle.pulsar_wire.specs.declared.awaited.Awaited.TheVariants.{Reply}
use Rattle.pulsar_wire.specs.declared.awaited.Claim.{Claim}
use Rattle.pulsar_wire.specs.Awaited.{is_same}
use Rattle.pulsar_requests.specs.Waits.{is_listed}
use Rattle.pulsar_session.specs.declared.states.Stage.{Stage}
use Rattle.pulsar_session.specs.declared.states.Stage.TheVariants.{Dialing, Handshaking, Ready, Over}
use Rattle.pulsar_session.specs.Answers.{is}
use Rattle.pulsar_session.specs.Link.{Request, Seen, Standing, after_of, asks_for, bare, can_wait, challenged, drawn, frame_for, greets_with, has_room, is_over, moved_up, named_by, opens_in, pongs, put_frame, put_in, queue, reacts, reacts_unless, request, responds, unready_in}

pub record Still (v w : Seen) : Type 0 where
  pub error : w.error ≡ v.error
  pub over : is_over w.stage ≡ is_over v.stage
  pub unread : w.unread ≡ v.unread
  pub listed : (n : ℕ) → is_listed v.waits.excused (Reply n) ≡ true → is_listed w.waits.excused (Reply n) ≡ true

pub same : (v : Seen) → Still v v
same v = record { error = refl; over = refl; unread = refl; listed = λ n h. h }

pub then : (u v w : Seen) → Still u v → Still v w → Still u w
then u v w a b = record { error = b.error ∙ a.error; over = b.over ∙ a.over; unread = b.unread ∙ a.unread; listed = λ n h. b.listed n (a.listed n h) }

queued : (frame : List ℕ) (c : Option Claim) (v : Seen) → Still v (queue frame c v)
queued frame c v = record { error = refl; over = refl; unread = refl; listed = λ n h. h }

put : (room w : Bool) (frame : List ℕ) (c : Option Claim) (v : Seen) → Still v (put_in room w frame c v)
put true w frame c v = queued frame c v
put false true frame c v = record { error = refl; over = refl; unread = refl; listed = λ n h. h }
put false false frame c v = same v

put_any : (frame : Option (List ℕ)) (w : Bool) (c : Option Claim) (v : Seen) → Still v (put_frame frame w c v)
put_any None w c v = same v
put_any (Some frame) w c v = put (has_room v) w frame c v

pub asking : (r : Request) (v : Seen) → Still v (asks_for r v)
asking r v = put_any (frame_for r.message) (can_wait r.when_full) r.claim v

challenging : (c : Option AuthenticationValues) (v : Seen) → Still v (challenged c v)
challenging None v = same v
challenging (Some auth) v = asking (responds auth) v

-- WHO IS EXCUSED

or_true : (b c : Bool) → c ≡ true → (b || c) ≡ true
or_true true c h = refl
or_true false c h = h

-- one more number takes none away
pub listed_more : (test : ℕ → Bool) (k : ℕ) (ks : List ℕ) → list_any test ks ≡ true → list_any test (insert_key nat_cmp ks k) ≡ true
listed_more test k [] h = absurd cc
listed_more test k (x ∷ xs) h = by (nat_cmp k x) (test x) refl h (listed_more test k xs)
  where
    by : (o : Ordering) (b : Bool) → test x ≡ b → (b || list_any test xs) ≡ true → (list_any test xs ≡ true → list_any test (insert_key nat_cmp xs k) ≡ true) →
        list_any test (match_ordering o (k ∷ x ∷ xs) (x ∷ xs) (x ∷ insert_key nat_cmp xs k)) ≡ true
    by Less b e g more = or_true (test k) (test x || list_any test xs) (ap (λ t. t || list_any test xs) e ∙ g)
    by Equal b e g more = ap (λ t. t || list_any test xs) e ∙ g
    by Greater true e g more = ap (λ t. t || list_any test (insert_key nat_cmp xs k)) e
    by Greater false e g more = or_true (test x) (list_any test (insert_key nat_cmp xs k)) (more g)

naming : (n : Option ℕ) (v : Seen) → Still v (named_by n v)
naming None v = same v
naming (Some i) v = record {
  error = refl;
  over = refl;
  unread = refl;
  listed = λ n h. by n (list_any (λ p. is_same (Reply i) p.awaits) v.waits.waiting) refl h;
}
  where
    by : (n : ℕ) (b : Bool) → list_any (λ p. is_same (Reply i) p.awaits) v.waits.waiting ≡ b → is_listed v.waits.excused (Reply n) ≡ true → is_listed (named_by (Some i) v).waits.excused (Reply n) ≡ true
    by n true e h = rw e (listed_more (is_at (nat_cmp n)) i v.waits.excused h)
    by n false e h = rw e h

either : (b : Bool) (v x y : Seen) → Still v x → Still v y → Still v (cond b x y)
either true v x y h g = h
either false v x y h g = g

reacting : (m : MessageValues) (v : Seen) → Still v (reacts m v)
reacting m v = either (is 18 m) v (asks_for pongs v) (cond (is 36 m) (challenged v.setup.auth v) (named_by (unready_in m.command.body) v))
    (asking pongs v)
    (either (is 36 m) v (challenged v.setup.auth v) (named_by (unready_in m.command.body) v) (challenging v.setup.auth v) (naming (unready_in m.command.body) v))

pub unless : (ps : List ℕ) (m : MessageValues) (v : Seen) → Still v (reacts_unless ps m v)
unless [] m v = reacting m v
unless (p ∷ ps) m v = same v

pub moving : (line : List Standing) (v : Seen) → Still v (moved_up line v)
moving [] v = record { error = refl; over = refl; unread = refl; listed = λ n h. h }
moving (s ∷ line) v = by (has_room v) refl (moving line (queue s.frame s.claim v))
  where
    by : (b : Bool) → has_room v ≡ b → Still (queue s.frame s.claim v) (moved_up line (queue s.frame s.claim v)) → Still v (moved_up (s ∷ line) v)
    by true e more = subst (λ x. Still v (cond x (moved_up line (queue s.frame s.claim v)) (record v { line = s ∷ line }))) (sym e)
        (then v (queue s.frame s.claim v) (moved_up line (queue s.frame s.claim v)) (queued s.frame s.claim v) more)
    by false e more = subst (λ x. Still v (cond x (moved_up line (queue s.frame s.claim v)) (record v { line = s ∷ line }))) (sym e)
        record { error = refl; over = refl; unread = refl; listed = λ n h. h }

greeting : (frame : Option (List ℕ)) (v : Seen) → Still v (greets_with frame v)
greeting None v = same v
greeting (Some frame) v = queued frame None v

pub opening : (stage : Stage) (v : Seen) → v.stage ≡ stage → Still v (opens_in stage v)
opening Dialing v e =
    let u = record v { stage = Handshaking } in
    let h = greeting (frame_for (bare (connect_command v.setup.auth v.setup.proxy))) u in
    record { error = h.error; over = h.over ∙ sym (ap is_over e); unread = h.unread; listed = h.listed }
opening Handshaking v e = same v
opening Ready v e = same v
opening Over v e = same v

drawing : (b : Bool) (v : Seen) → Still v (drawn b v)
drawing true v = record { error = refl; over = refl; unread = refl; listed = λ n h. h }
drawing false v = same v

pub asked_of : (n : Result ℕ ConnectionError) (now : ℕ) (words : Words) (v : Seen) → Still v (after_of n now words v)
asked_of (Err e) now words v = same v
asked_of (Ok id) now words v = then v (drawn (is_numbered words) v) (asks_for (request id now words) (drawn (is_numbered words) v)) (drawing (is_numbered words) v) (asking (request id now words) (drawn (is_numbered words) v))
