-- What is counted of a stream that is taken apart.
use Rattle.std.proofs.Common.{◌≡◌, ℕ, zero, suc, ◌+◌, ◌/◌, ◌%◌, List, [], ◌∷◌, ◌++◌, length, take, drop, refl, sym, ap, ◌∙◌, append_assoc, length-append, arith}
use Rattle.std.specs.List.{sum_by}
use Rattle.std.proofs.lemmas.List.{append-nil, take-append-drop}
use Rattle.std.proofs.lemmas.Grind.{flat_map-append}
use Rattle.std.proofs.lemmas.List.FromFn.{map-range_with_len_more}
use Rattle.std.proofs.lemmas.List.Sums.{sum_by-append}
use Rattle.pulsar_frame.specs.Message.{MessageValues}
use Rattle.pulsar_frame.specs.Frame.{cut, left, front, Short, Whole, frame_bytes, IsReadAgain, settled_message}
use Rattle.pulsar_frame.proofs.Streams.{cut-whole, cut-short, cut-append, left-append, left-whole, cut-nil, left-nil}
use Rattle.pulsar_speed.specs.declared.sample.Sample.{Sample}
use Rattle.pulsar_speed.specs.declared.sample.Sample.TheVariants.{Receipt, Message, Payload}
use Rattle.pulsar_speed.specs.declared.tally.Tally.{Tally}
use Rattle.pulsar_speed.proofs.Same.{same_tally}
use Rattle.pulsar_speed.specs.Tallies.{number_in, frames_tally, Counts}
use Rattle.pulsar_speed.specs.Samples.{AreFrames, first_of, frames_of, times, blocks_of, sample_message}

-- ---- blocks

first_of-none : (s : Sample) → first_of s zero ≡ []
unfolding first_of
first_of-none s = refl

pub no_frames : (s : Sample) (bytes : List ℕ) → bytes ≡ [] → AreFrames (first_of s 0) bytes
no_frames s bytes e = rw (first_of-none s) (e, ap cut e ∙ cut-nil, ap left e ∙ left-nil)

first_of-more : (s : Sample) (k : ℕ) → first_of s (k + 1) ≡ first_of s k ++ sample_message s (2 + k) ∷ []
unfolding first_of
first_of-more s k = map-range_with_len_more (sample_message s) 2 k (2 + k) refl

-- what is read of a message of a kind is the message
pub settled_sample : (s : Sample) (n : ℕ) → settled_message (sample_message s n) ≡ sample_message s n
unfolding sample_message
settled_sample Receipt n = refl
settled_sample Message n = refl
settled_sample Payload n = refl

frames_of-more : (ms : List MessageValues) (m : MessageValues) → frames_of (ms ++ m ∷ []) ≡ frames_of ms ++ frame_bytes m
frames_of-more ms m = flat_map-append frame_bytes ms (m ∷ []) ∙ ap (λ (b : List ℕ). frames_of ms ++ b) (append-nil (frame_bytes m))

-- a frame more, behind whole frames
one_more : (ms : List MessageValues) (bytes : List ℕ) (m : MessageValues) → AreFrames ms bytes → IsReadAgain m → settled_message m ≡ m → AreFrames (ms ++ m ∷ []) (bytes ++ frame_bytes m)
one_more ms bytes m are again same =
    let whole : front (frame_bytes m) ≡ Whole (settled_message m) [] = rw (append-nil (frame_bytes m)) at (again []) in
    let messages : cut (frame_bytes m) ≡ m ∷ [] = cut-whole (frame_bytes m) (settled_message m) [] whole ∙ ap (λ (l : List MessageValues). settled_message m ∷ l) cut-nil ∙ ap (λ (x : MessageValues). x ∷ []) same in
    let nothing : left (frame_bytes m) ≡ [] = left-whole (frame_bytes m) (settled_message m) [] whole ∙ left-nil in (
      ap (λ (b : List ℕ). b ++ frame_bytes m) are.0 ∙ sym (frames_of-more ms m),
      rw (cut-append bytes (frame_bytes m), are.2, messages) (ap (λ (l : List MessageValues). l ++ m ∷ []) are.1),
      rw (left-append bytes (frame_bytes m), are.2) nothing,
    )

-- the next message of a kind is written
pub next_sample : (s : Sample) (k : ℕ) (bytes after : List ℕ) (m : MessageValues) → AreFrames (first_of s k) bytes → m ≡ sample_message s (2 + k) → IsReadAgain m → after ≡ bytes ++ frame_bytes m → AreFrames (first_of s (k + 1)) after
next_sample s k bytes after m are is again e =
    let same : settled_message m ≡ m = ap (λ (x : MessageValues). settled_message x) is ∙ settled_sample s (2 + k) ∙ sym is in
    let more : first_of s (k + 1) ≡ first_of s k ++ m ∷ [] = first_of-more s k ∙ ap (λ (x : MessageValues). first_of s k ++ x ∷ []) (sym is) in
    rw (more, e) (one_more (first_of s k) bytes m are again same)

-- frames that are read where nothing is held
pub nothing_left : (ms : List MessageValues) (held bytes : List ℕ) → held ≡ [] → AreFrames ms bytes → left (held ++ bytes) ≡ []
nothing_left ms held bytes none are = ap (λ (t : List ℕ). left (t ++ bytes)) none ∙ are.2

frames_tally-append : (a b : List MessageValues) → frames_tally (a ++ b) ≡ record { count = length a + length b; bytes = length (frames_of a) + length (frames_of b); sum = sum_by number_in a + sum_by number_in b }
frames_tally-append a b = rw (length-append a b, flat_map-append frame_bytes a b, length-append (frames_of a) (frames_of b), sum_by-append number_in a b) refl

-- they are counted behind those that were before
pub block_counted : (before ms : List MessageValues) (held bytes : List ℕ) (old new : Tally) → held ≡ [] → AreFrames ms bytes → old ≡ frames_tally before → Counts old new (cut (held ++ bytes)) → new.bytes ≡ old.bytes + length bytes → new ≡ frames_tally (before ++ ms)
block_counted before ms held bytes old new none are was counts grown =
    let messages : cut (held ++ bytes) ≡ ms = ap (λ (t : List ℕ). cut (t ++ bytes)) none ∙ are.1 in
    let now : Counts old new ms = rw messages at counts in
    let size : length bytes ≡ length (frames_of ms) = ap length are.0 in
    let count = ap (λ (t : Tally). t.count) was in
    let long = ap (λ (t : Tally). t.bytes) was in
    let numbers = ap (λ (t : Tally). t.sum) was in
    rw (frames_tally-append before ms) (same_tally new _ (omega (arith, now.0, count)) (omega (arith, grown, size, long)) (omega (arith, now.1, numbers)))

pub times-more : (k : ℕ) (ms : List MessageValues) → times (k + 1) ms ≡ times k ms ++ ms
times-more k ms = let e : k + 1 ≡ suc k = omega arith in ap (λ (n : ℕ). times n ms) e

pub blocks_of-is : (s : Sample) (k : ℕ) → blocks_of s k ≡ times (k / 4096) (first_of s 4096) ++ first_of s (k % 4096)
unfolding blocks_of
blocks_of-is s k = refl

pub nothing_held : (held : List ℕ) → held ≡ [] → left held ≡ held
nothing_held held none = ap left none ∙ left-nil ∙ sym none

-- ---- what is left

pub is_nothing : (t : List ℕ) → length t ≡ 0 → t ≡ []
is_nothing [] e = refl
is_nothing (x ∷ t) e = absurd (omega arith)

cut_length : (a b : List MessageValues) → a ≡ a ++ b → length b ≡ 0
cut_length a b e = let l = ap (λ (ms : List MessageValues). length ms) e in omega (arith, length-append a b)

no_length : (b : List MessageValues) → length b ≡ 0 → b ≡ []
no_length [] e = refl
no_length (x ∷ b) e = absurd (omega arith)

cut-settled : (s : List ℕ) → cut (left s) ≡ []
cut-settled s =
    let twice : cut s ≡ cut s ++ cut (left s) = ap cut (sym (append-nil s)) ∙ cut-append s [] ∙ ap (λ (t : List ℕ). cut s ++ cut t) (append-nil (left s)) in
    no_length (cut (left s)) (cut_length (cut s) (cut (left s)) twice)

pub left-settled : (s : List ℕ) → left (left s) ≡ left s
left-settled s = sym (ap left (sym (append-nil s)) ∙ left-append s [] ∙ ap left (append-nil (left s)))

-- nothing is counted of what is less than a frame, or of what is left
nothing_counted : (ms : List MessageValues) → ms ≡ [] → (length ms ≡ 0) × (sum_by number_in ms ≡ 0)
nothing_counted ms e = (ap (λ (l : List MessageValues). length l) e, ap (λ (l : List MessageValues). sum_by number_in l) e)

pub short_has_none : (s : List ℕ) → front s ≡ Short → (length (cut s) ≡ 0) × (sum_by number_in (cut s) ≡ 0)
short_has_none s e = nothing_counted (cut s) (cut-short s e)

pub settled_has_none : (s t : List ℕ) → left s ≡ s → t ≡ [] → (length (cut (s ++ t)) ≡ 0) × (sum_by number_in (cut (s ++ t)) ≡ 0)
settled_has_none s t e none = nothing_counted (cut (s ++ t)) (ap (λ (x : List ℕ). cut (s ++ x)) none ∙ ap cut (append-nil s ∙ sym e) ∙ cut-settled s)

-- ---- what is taken

-- what a frame in front has of what is counted
pub record Took (s rest : List ℕ) (m : MessageValues) : Type 0 where
  pub frames : length (cut s) ≡ suc (length (cut rest))
  pub numbers : sum_by number_in (cut s) ≡ number_in m + sum_by number_in (cut rest)
  pub after : left s ≡ left rest

sum_by-first : (m : MessageValues) (ms : List MessageValues) → sum_by number_in (m ∷ ms) ≡ number_in m + sum_by number_in ms
sum_by-first m ms = sum_by-append number_in (m ∷ []) ms ∙ omega arith

pub took : (s rest : List ℕ) (m : MessageValues) → front s ≡ Whole m rest → Took s rest m
took s rest m e = record {
  frames = ap (λ (ms : List MessageValues). length ms) (cut-whole s m rest e);
  numbers = ap (λ (ms : List MessageValues). sum_by number_in ms) (cut-whole s m rest e) ∙ sum_by-first m (cut rest);
  after = left-whole s m rest e;
}

-- what a piece has of what is counted
pub record Fed (held rest piece after : List ℕ) : Type 0 where
  pub frames : length (cut (held ++ rest)) ≡ length (cut (held ++ piece)) + length (cut (left (held ++ piece) ++ after))
  pub numbers : sum_by number_in (cut (held ++ rest)) ≡ sum_by number_in (cut (held ++ piece)) + sum_by number_in (cut (left (held ++ piece) ++ after))
  pub left_over : left (left (held ++ piece) ++ after) ≡ left (held ++ rest)

pub parted : (n : ℕ) (rest piece after : List ℕ) → piece ≡ take n rest → after ≡ drop n rest → rest ≡ piece ++ after
parted n rest piece after a b = rw (a, b) (sym (take-append-drop n rest))

joined : (held rest piece after : List ℕ) → rest ≡ piece ++ after → held ++ rest ≡ (held ++ piece) ++ after
joined held rest piece after e = ap (λ (t : List ℕ). held ++ t) e ∙ sym (append_assoc held piece after)

pub fed : (held rest piece after : List ℕ) → rest ≡ piece ++ after → Fed held rest piece after
fed held rest piece after e =
    let messages : cut (held ++ rest) ≡ cut (held ++ piece) ++ cut (left (held ++ piece) ++ after) = ap cut (joined held rest piece after e) ∙ cut-append (held ++ piece) after in
    record {
      frames = ap (λ (ms : List MessageValues). length ms) messages ∙ length-append (cut (held ++ piece)) (cut (left (held ++ piece) ++ after));
      numbers = ap (λ (ms : List MessageValues). sum_by number_in ms) messages ∙ sum_by-append number_in (cut (held ++ piece)) (cut (left (held ++ piece) ++ after));
      left_over = sym (ap left (joined held rest piece after e) ∙ left-append (held ++ piece) after);
    }
