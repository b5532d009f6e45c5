-- The frame that is queued for a request spells it, and it is read again.
use Rattle.std.proofs.Common.{◌≡◌, ◌∙◌, sym, ap, subst, ℕ, ◌+◌, ◌-◌, ◌≤◌, arith, List, [], ◌∷◌, ◌++◌, refl, length, Bool, true, false, ◌&&◌, nat_lt, cond, Option, Some, None, Result, Ok, Err}
use Rattle.std.proofs.lemmas.Bool.Decides.{nat_tests}
use Rattle.std.specs.Prelude.{slice_get}
use Rattle.pulsar_laws.proofs.RunWords.{calls_of, view}
use Rattle.pulsar_laws.proofs.LinkWords.{ConnectionError, is_numbered, Words}
use Rattle.pulsar_wire.specs.declared.error.ConnectionError.TheVariants as error
use Rattle.pulsar_wire.specs.declared.error.Reason.TheVariants as reason
use Rattle.pulsar_frame.proofs.Written.{read_again}
use Rattle.pulsar_frame.specs.Frame.{FitsFrame, Whole, frame_bytes, front, settled_message}
use Rattle.pulsar_frame.specs.Message.{MessageValues}
use Rattle.pulsar_frame.specs.Payload.{PayloadInRange}
use Rattle.pulsar_wire.specs.Fits.{CommandInRange}
use Rattle.pulsar_messages.specs.Content.{ProducerMessageValues}
use Rattle.pulsar_messages.specs.Messages.{metadata_of}
use Rattle.pulsar_messages.specs.Words as words
use Rattle.pulsar_messages.specs.Words.{when_full}
use Rattle.pulsar_wire.specs.declared.awaited.Claim.{Claim}
use Rattle.pulsar_session.specs.declared.states.Asked.TheVariants as placed
use Rattle.pulsar_session.specs.declared.states.Stage.{Stage}
use Rattle.pulsar_session.specs.declared.states.Stage.TheVariants.{Dialing, Handshaking, Ready, Over}
use Rattle.pulsar_session.specs.Laws.{frames_queued, frames_written}
use Rattle.pulsar_session.specs.Link.{Seen, after_of, answer_of, can_wait, drawn, frame_at, frame_for, has_room, is_over, is_ready, message_of, number_for, place_in, put_frame, queue, request, ticked}
use Rattle.pulsar_messages.specs.Claims.{claim, is_spent}
use Rattle.pulsar_session.specs.Link as session
use Rattle.pulsar_session.proofs.Settled.{places_count, written_in_order}
use Rattle.pulsar_laws.specs.ProducerLaws.{QueuedAsAsked}
use Rattle.pulsar_laws.proofs.links.Alone.{links_alone_lem}

slice_end : (xs : List (List ℕ)) (x : List ℕ) → slice_get (xs ++ x ∷ []) (length xs) ≡ Some x
slice_end [] x = refl
slice_end (y ∷ xs) x = let e : slice_get (xs ++ x ∷ []) (length xs) ≡ Some x = slice_end xs x in e

length_more : (xs : List (List ℕ)) (x : List ℕ) → length (xs ++ x ∷ []) ≡ length xs + 1
length_more [] x = refl
length_more (y ∷ xs) x = let e : length (xs ++ x ∷ []) ≡ length xs + 1 = length_more xs x in omega (arith, e)

length_both : (xs ys : List (List ℕ)) → length (xs ++ ys) ≡ length xs + length ys
length_both [] ys = omega arith
length_both (x ∷ xs) ys = let e : length (xs ++ ys) ≡ length xs + length ys = length_both xs ys in omega (arith, e)

-- what was queued and not written was queued
few_left : (s : session.Setup) (h : List session.Act) → is_over (session.seen s h).stage ≡ false →
    length (session.seen s h).unwritten ≤ (session.seen s h).waits.queued
few_left s h over =
    let count : length (frames_queued s h) ≡ (session.seen s h).waits.queued = places_count s h over in
    let all : length (frames_written s h ++ (session.seen s h).unwritten) ≡ length (frames_queued s h) = ap length (written_in_order s h over) in
    let both : length (frames_written s h ++ (session.seen s h).unwritten) ≡ length (frames_written s h) + length (session.seen s h).unwritten =
    length_both (frames_written s h) (session.seen s h).unwritten in
    omega (arith, count, all, both)

-- a frame that is queued stands at the next place
queued_at : (frame : List ℕ) (c : Option Claim) (v : Seen) → length v.unwritten ≤ v.waits.queued → frame_at v.waits.queued (queue frame c v) ≡ Some frame
queued_at frame c v le =
    let n : ℕ = v.waits.queued in
    let len : length (v.unwritten ++ frame ∷ []) ≡ length v.unwritten + 1 = length_more v.unwritten frame in
    let first : n + 1 - length (v.unwritten ++ frame ∷ []) ≡ n - length v.unwritten = omega (arith, len, le) in
    let low : nat_lt n (n - length v.unwritten) ≡ false = grind (arith, nat_tests) in
    let at : n - (n - length v.unwritten) ≡ length v.unwritten = omega (arith, le) in
    ap (λ x. cond (nat_lt n x) None (slice_get (v.unwritten ++ frame ∷ []) (n - x))) first
    ∙ ap (λ b. cond b None (slice_get (v.unwritten ++ frame ∷ []) (n - (n - length v.unwritten)))) low
    ∙ ap (slice_get (v.unwritten ++ frame ∷ [])) at
    ∙ slice_end v.unwritten frame

-- what was answered so was queued there
record IsQueued (id now : ℕ) (words : Words) (v w : Seen) (place : ℕ) : Type 0 where
  frame : List ℕ
  spells : frame_for (message_of id now words) ≡ Some frame
  stands : frame_at place w ≡ Some frame

put_queued : (id now : ℕ) (words : Words) (v : Seen) (place : ℕ) → length v.unwritten ≤ v.waits.queued →
    session.asked_for (request id now words) v ≡ Ok (placed.Queued place) → IsQueued id now words v (session.asks_for (request id now words) v) place
put_queued id now words v place le h = by (frame_for (message_of id now words)) refl (has_room v) refl (can_wait (when_full words)) refl
  where
    by : (f : Option (List ℕ)) → frame_for (message_of id now words) ≡ f → (room : Bool) → has_room v ≡ room → (w : Bool) → can_wait (when_full words) ≡ w →
        IsQueued id now words v (session.asks_for (request id now words) v) place
    by (Some frame) e true r w c =
        let g : Ok (placed.Queued v.waits.queued) ≡ Ok (placed.Queued place) = sym (λ i. place_in (r i) (can_wait (when_full words)) (e i) v) ∙ h in
        let same : v.waits.queued ≡ place = cc in
        record {
          frame = frame;
          spells = e;
          stands =
              ap (λ x. frame_at place (put_frame x (can_wait (when_full words)) (claim id words) v)) e
              ∙ ap (λ b. frame_at place (session.put_in b (can_wait (when_full words)) frame (claim id words) v)) r
              ∙ ap (λ p. frame_at p (queue frame (claim id words) v)) (sym same)
              ∙ queued_at frame (claim id words) v le;
        }
    by None e true r w c = let g : Err (error.Encoding reason.Frame) ≡ Ok (placed.Queued place) = sym
        (λ i. place_in (r i) (can_wait (when_full words)) (e i) v) ∙ h in absurd cc
    by (Some frame) e false r true c =
        let g : Ok (placed.Waiting (v.waits.queued + length v.line)) ≡ Ok (placed.Queued place) = sym (λ i. place_in (r i) (c i) (e i) v) ∙ h in absurd cc
    by None e false r true c = let g : Err (error.Encoding reason.Frame) ≡ Ok (placed.Queued place) = sym (λ i. place_in (r i) (c i) (e i) v) ∙ h in absurd cc
    by f e false r false c = let g : Err error.SlowDown ≡ Ok (placed.Queued place) = sym (λ i. place_in (r i) (c i) (e i) v) ∙ h in absurd cc

drawn_unwritten : (b : Bool) (v : Seen) → (length (drawn b v).unwritten ≡ length v.unwritten) × ((drawn b v).waits.queued ≡ v.waits.queued)
drawn_unwritten true v = (refl, refl)
drawn_unwritten false v = (refl, refl)

abbrev Answer : Type 0
Answer = Result ℕ ConnectionError

answer_queued : (r : Answer) (now : ℕ) (words : Words) (v : Seen) (place : ℕ) → length v.unwritten ≤ v.waits.queued →
    answer_of r now words v ≡ Ok (placed.Queued place) →
    (id : ℕ) × IsQueued id now words v (after_of r now words v) place
answer_queued (Err e) now words v place le h = absurd cc
answer_queued (Ok id) now words v place le h =
    let d = drawn_unwritten (is_numbered words) v in
    let k = put_queued id now words (drawn (is_numbered words) v) place (let a = d.0 in let b = d.1 in omega (arith, a, b, le)) h in
    (id, record { frame = k.frame; spells = k.spells; stands = k.stands })

-- one that is asked for something is ready
not_over : (numbered : Bool) (now : ℕ) (words : Words) (v u : Seen) (place : ℕ) → answer_of (number_for numbered v) now words u ≡ Ok (placed.Queued place) →
    is_over v.stage ≡ false
not_over numbered now words v u place h = by v.stage refl
  where
    by : (s : Stage) → v.stage ≡ s → is_over v.stage ≡ false
    by Over e =
        let g : Err error.Disconnected ≡ Ok (placed.Queued place) =
        sym (ap (λ s. answer_of (cond (is_ready s) (cond (numbered && is_spent v.next_number) (Err error.Exhausted) (Ok v.next_number))
        (Err error.Disconnected)) now words u) e) ∙ h in
        absurd cc
    by Dialing e = ap is_over e
    by Handshaking e = ap is_over e
    by Ready e = ap is_over e

pub queued_as_asked_lem : QueuedAsAsked
queued_as_asked_lem o log l place seat request live h =
    let now : ℕ = (view o log).now in
    let v : Seen = seat.seen in
    let k = links_alone_lem o log l seat live in
    let over : is_over v.stage ≡ false = not_over (is_numbered request) now request v (ticked now v) place h in
    let le : length v.unwritten ≤ v.waits.queued =
    subst (λ w. length w.unwritten ≤ w.waits.queued) (sym k.2) (few_left k.0 (calls_of o l log) (subst (λ w. is_over w.stage ≡ false) k.2 over)) in
    let q = answer_queued (number_for (is_numbered request) v) now request (ticked now v) place le h in
    (q.0, q.1.frame, q.1.spells, q.1.stands)

-- a frame whose sizes fit, and whose command and payload are in range, is read again as its message
pub read_so : (id now n s : ℕ) (name : List ℕ) (m : ProducerMessageValues) (block : Bool) (behind : List ℕ) →
    FitsFrame (message_of id now (words.Send n name s m block)) → CommandInRange (message_of id now (words.Send n name s m block)).command →
    PayloadInRange (message_of id now (words.Send n name s m block)).payload →
    (read : MessageValues) × (front (frame_bytes (message_of id now (words.Send n name s m block)) ++ behind) ≡ Whole read behind)
    × (read.payload ≡ Some (record { metadata = metadata_of now name s m; bytes = m.payload }))
read_so id now n s name m block behind fits command payload = (
  settled_message (message_of id now (words.Send n name s m block)),
  read_again
      (message_of id now (words.Send n name s m block)) fits command payload behind,
  refl,
)
