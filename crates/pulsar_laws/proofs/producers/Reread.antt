-- The frame that a topic producer asks for is read again: its sizes fit, and its numbers are in range.
use Rattle.std.proofs.Common.{◌≡◌, inl, inr, ◌∙◌, sym, ap, subst, ℕ, ℤ, ◌+◌, ◌^◌, ◌<◌, List, [], ◌∷◌, length, refl, arith, Bool, true, false, cond, nat_lt, Option, Some, None, pos, Result, Ok, Err}
use Rattle.std.proofs.lemmas.Bool.{cases_Bool, ltb-true}
use Rattle.std.proofs.lemmas.Bool.Decides.{nat_tests}
use Rattle.std.specs.Int.{w32}
use Rattle.std.specs.List.{AllByRecursion}
use Rattle.std.specs.Option.{is_some, option_to_list}
use Rattle.std.specs.Prelude.{FitsSigned}
use Rattle.pulsar_laws.proofs.RunWords.{view}
use Rattle.pulsar_laws.proofs.LinkWords.{answer_at, ConnectionError, is_numbered, Seat, Words}
use Rattle.pulsar_wire.specs.Command.{with_kind}
use Rattle.pulsar_wire.specs.Fits.{CommandInRange, InRange}
use Rattle.pulsar_wire.specs.Row.{◌&◌}
use Rattle.pulsar_wire.specs.Rows as rows
use Rattle.pulsar_frame.specs.Frame.{FitsFrame, counted_bytes}
use Rattle.pulsar_wire.specs.declared.error.Reason.{Reason}
use Rattle.pulsar_frame.specs.Batch.{EntryValues}
use Rattle.pulsar_frame.specs.Message.{MessageValues}
use Rattle.pulsar_frame.specs.Read.{described_bytes}
use Rattle.pulsar_frame.proofs.Payloads.{short_metadata}
use Rattle.pulsar_frame.proofs.Written.{length-counted_bytes}
use Rattle.pulsar_messages.specs.Content.{ProducerMessageValues}
use Rattle.pulsar_messages.specs.Message.{with_version}
use Rattle.pulsar_outgoing.specs.Batch.{batch_counted, batch_with, first_refusal, size_in_i32, unless_refused}
use Rattle.pulsar_messages.specs.Messages.{body, metadata_of}
use Rattle.pulsar_messages.specs.Claims.{is_spent}
use Rattle.pulsar_messages.specs.Words as words
use Rattle.pulsar_messages.specs.Words.{when_full}
use Rattle.pulsar_session.specs.declared.states.Asked.{Asked as Placed}
use Rattle.pulsar_session.specs.Link.{Seen, answer_of, can_wait, drawn, fits, frame_for, has_room, message_of, number_for, place_in, ticked}
use Rattle.pulsar_outgoing.specs.Storage.{Item, Flush, SingleMessage, is_nothing, is_ready, pushed}
use Rattle.pulsar_outgoing.specs.declared.multi_topic.Taker.{Taker}
use Rattle.pulsar_producer.specs.Topic as topic
use Rattle.pulsar_producer.specs.Topic.{Act as Deed, Takes, Passes, Draws, Remakes, Closes, Stores, Flushes, Cuts, TakesBatch, Halts, Setup, cuts, is_settled, left_of, stores, takes_in}
use Rattle.pulsar_laws.proofs.Cases.{cond_so, cond_when}
use Rattle.pulsar_laws.proofs.links.Queued.{read_so}
use Rattle.pulsar_laws.proofs.producers.Drawing.{Drawn, drawn_run, here}
use Rattle.pulsar_laws.proofs.producers.Free.{low_run}
use Rattle.pulsar_laws.proofs.producers.Named.{names_are_texts}
use Rattle.pulsar_laws.proofs.producers.Spelled.{covered}
use Rattle.pulsar_laws.proofs.producers.Texts.{IsText, no_text}
use Rattle.pulsar_laws.proofs.producers.Topics.{topics_alone_lem}
use Rattle.pulsar_laws.specs.ProducerLaws.{FramesAreReadAgain, SaysInRange, acts_on}

-- ITS SIZE FITS, since it was not refused

some_placed : (p : Placed) (frame : Option (List ℕ)) (room waits : Bool) (v : Seen) → place_in room waits frame v ≡ Ok p → is_some frame ≡ true
some_placed p (Some frame) room waits v h = refl
some_placed p None true waits v h = absurd cc
some_placed p None false true v h = absurd cc
some_placed p None false false v h = absurd cc

some_fits : (b : Bool) (frame : List ℕ) → is_some (cond b (Some frame) None) ≡ true → b ≡ true
some_fits true frame h = refl
some_fits false frame h = absurd cc

asked_fits : (p : Placed) (r : Result ℕ ConnectionError) (now : ℕ) (request : Words) (v : Seen) → answer_of r now request v ≡ Ok p →
    (id : ℕ) × (fits (message_of id now request) ≡ true)
asked_fits p (Err e) now request v h = absurd cc
asked_fits p (Ok id) now request v h =
    let w : Seen = drawn (is_numbered request) v in
    (id, some_fits (fits (message_of id now request)) _ (some_placed p (frame_for (message_of id now request)) (has_room w) (can_wait (when_full request)) w h))

answered_fits : (p : Placed) (now : ℕ) (request : Words) (row : Option Seat) → answer_at now request row ≡ Ok p →
    (id : ℕ) × (fits (message_of id now request) ≡ true)
answered_fits p now request None h = absurd cc
answered_fits p now request (Some seat) h =
    asked_fits p (number_for (is_numbered request) seat.seen) now request (ticked now seat.seen) h

fits_frame : (m : MessageValues) → fits m ≡ true → FitsFrame m
unfolding FitsFrame
fits_frame m h = ltb-true (length (counted_bytes m)) (2 ^ 32) h

-- ITS NUMBERS ARE IN RANGE

abbrev IsLow : topic.Seen → Type 0
IsLow v = v.next < 2 ^ 64

more_low : (n : ℕ) → n < 2 ^ 64 → is_spent n ≡ false → n + 1 < 2 ^ 64
more_low n h e = grind (arith, nat_tests)

draws_low : (v : topic.Seen) → IsLow v → IsLow (topic.draws v)
draws_low v h = elim (cases_Bool (is_spent v.next)) [
  | inl e ↦ subst (λ b. IsLow (cond b v (record v { next = v.next + 1 }))) (sym e) h
  | inr e ↦ subst (λ b. IsLow (cond b v (record v { next = v.next + 1 }))) (sym e) (more_low v.next h e)
]

stores_low : (x : Item) (v : topic.Seen) → IsLow v → IsLow (stores x v)
stores_low x v h = let w : topic.Seen = record v { storage = pushed x v.storage } in cond_so IsLow (is_ready w.storage) (cuts w) w h h

left_low : (bs : List (List Item)) (v : topic.Seen) → IsLow v → IsLow (left_of bs v)
left_low [] v h = h
left_low (b ∷ bs) v h = h

one_low : (d : Deed) (v : topic.Seen) → IsLow v → IsLow (topic.after d v)
one_low (Takes t) v h = takes v.holder
  where
    takes : (x : Option Taker) → IsLow (takes_in x t v)
    takes None = h
    takes (Some u) = h
one_low Draws v h = draws_low v h
one_low (Stores t e) v h = stores_low (SingleMessage t e) v h
one_low (Flushes t) v h = cond_so IsLow (is_settled v) v (stores (Flush t) v) h (stores_low (Flush t) v h)
one_low Cuts v h = cond_so IsLow (is_nothing v.storage.items) v (cuts v) h h
one_low TakesBatch v h = left_low v.cut v h
one_low _ v h = h

seen_low : (s : Setup) (ds : List Deed) → s.first_number < 2 ^ 64 → IsLow (topic.seen s ds)
seen_low s [] h = h
seen_low s (d ∷ ds) h = one_low d (topic.seen s ds) (seen_low s ds h)

send_in_range : (n s : ℕ) (count : Option ℤ) → n < 2 ^ 64 → s < 2 ^ 64 → AllByRecursion (FitsSigned w32) (option_to_list count) →
    CommandInRange (with_kind (body 6 rows.send (n & s & count & tt)))
unfolding CommandInRange
send_in_range n s count p q r = (refl, ((p, tt), ((q, tt), (r, tt))))

short_said : (m : MessageValues) → FitsFrame m → length (described_bytes m.payload) < 2 ^ 64
unfolding FitsFrame
short_said m h =
    let l : length (described_bytes m.payload) < 2 ^ 32 = short_metadata m.payload (omega (arith, h, length-counted_bytes m)) in omega (arith, l)

-- THE LAW

-- the count of a batch was checked, and it says nothing else
module _ (es : List EntryValues) (whole : ProducerMessageValues) where
  abbrev Counts : ProducerMessageValues → Type 0
  Counts m = (c : ℤ) × FitsSigned w32 c × (m ≡ batch_with c es)

  batch_said : (r : Option Reason) (c : ℤ) → FitsSigned w32 c → unless_refused r (batch_with c es) ≡ Ok whole → Counts whole
  batch_said None c f h = (c, f, let e : batch_with c es ≡ whole = cc in sym e)
  batch_said (Some r) c f h = absurd cc

  batch_counts : (n : ℕ) → batch_counted (size_in_i32 n) es ≡ Ok whole → Counts whole
  batch_counts n = cond_when (λ c. batch_counted c es ≡ Ok whole → Counts whole) (nat_lt n (2 ^ 31)) (Some (pos n)) None
      (λ e. batch_said (first_refusal es) (pos n) (record { sfits = ltb-true n (2 ^ 31) e })) (λ e h. absurd cc)

says_so : (es : List EntryValues) (version : Option (List ℕ)) (c : ℤ) → FitsSigned w32 c →
    InRange rows.message_metadata (metadata_of 0 [] 0 (with_version version (batch_with c es)))
says_so es version c f = (
  (no_text, tt),
  (
    (omega arith, tt),
    (
      (omega arith, tt),
      (tt, (tt, (tt, (tt, (tt, (tt, ((f, tt), (tt, (tt, (tt, (tt, (said version, (tt, (tt, tt)))))))))))))),
    ),
  ),
)
  where
    said : (v : Option (List ℕ)) → AllByRecursion (λ (bytes : List ℕ). Unit {0}) (option_to_list v)
    said None = tt
    said (Some bytes) = (tt, tt)

says_in_range : (m : ProducerMessageValues) → SaysInRange m → InRange rows.message_metadata (metadata_of 0 [] 0 m)
says_in_range m (inl typed) = typed
says_in_range m (inr (es, whole, version, h, e)) =
    let (c, f, is) = batch_counts es whole (length es) h in
    subst (λ x. InRange rows.message_metadata (metadata_of 0 [] 0 x)) (ap (with_version version) (sym is) ∙ sym e) (says_so es version c f)

pub frames_are_read_again_lem : FramesAreReadAgain
frames_are_read_again_lem o log id l n s name m block place row behind low early run is next called answer typed =
    let now : ℕ = (view o log).now in
    let text : IsText name = subst IsText called (names_are_texts o log n row run is) in
    let request : Words = words.Send n name s m block in
    let f = answered_fits place now request ((view o log).links.live l) answer in
    let whole : MessageValues = message_of id now request in
    let size : FitsFrame whole = fits_frame (message_of f.0 now request) f.1 in
    let drawn_so = here (Drawn o) log (drawn_run o log run) in
    let below : n < (view o log).producers.next = drawn_so.below n _ (drawn_so.topics n row is).0 in
    let most : (view o log).producers.next < 2 ^ 64 = (low_run o log low).1 in
    let alone = topics_alone_lem o log n row run is in
    let all : row.seen.next < 2 ^ 64 =
    subst IsLow (sym alone.3) (seen_low (record { built = alone.0; first_number = o.chosen.first_number; limits = alone.1 }) (acts_on o n log) low) in
    let producer : n < 2 ^ 64 = omega (arith, below, most) in
    let sequence : s < 2 ^ 64 = omega (arith, all, next) in
    let said : InRange rows.message_metadata (metadata_of 0 [] 0 m) = says_in_range m typed.0 in
    let range : InRange rows.message_metadata (metadata_of now name s m) = ((text, tt), ((sequence, tt), ((early, tt), said.1.1.1))) in
    read_so id now n s name m block behind size (send_in_range n s m.num_messages_in_batch producer sequence said.1.1.1.1.1.1.1.1.1.0) (
      range,
      covered (record { metadata = metadata_of now name s m; bytes = m.payload }) range ((tt, tt), ((tt, tt), ((tt, tt), typed.1.1.1.1)))
          (short_said whole size) typed.2,
    )
