-- What is counted of one message so many times.
use Rattle.std.proofs.Common.{◌≡◌, ℕ, ◌+◌, ◌*◌, suc, List, length, replicate, Some, None, ap, ◌∙◌, arith}
use Rattle.std.specs.List.{flat_map}
use Rattle.std.proofs.lemmas.List.{length-replicate}
use Rattle.std.proofs.lemmas.List.Concat.{length-flat_map}
use Rattle.std.proofs.lemmas.List.Folds.{sum_by-replicate}
use Rattle.std.proofs.Math.Nat.{suc-mul}
use Rattle.pulsar_wire.specs.Command.{CommandValues, command_reading, command_spelling, settled}
use Rattle.pulsar_frame.specs.Frame.{frame_bytes}
use Rattle.pulsar_frame.specs.Message.{MessageValues}
use Rattle.pulsar_frame.specs.Key.{key}
use Rattle.pulsar_speed.specs.declared.sample.Sample.{Sample}
use Rattle.pulsar_speed.specs.Samples.{sample_message}
use Rattle.pulsar_speed.proofs.Blocks.{settled_sample}
use Rattle.pulsar_speed.proofs.Same.{same_tally}
use Rattle.pulsar_speed.specs.Tallies.{last_number, number_in, frames_tally, commands_tally}
use Rattle.pulsar_speed.specs.declared.tally.Tally.{Tally}

-- once more
pub next_time : (k n : ℕ) → (k + 1) * n ≡ k * n + n
next_time k n = let e : k + 1 ≡ suc k = omega arith in rw e (suc-mul k n)

-- so many times the same is a multiple
length_each : (f : MessageValues → List ℕ) (k : ℕ) (m : MessageValues) → length (flat_map f (replicate k m)) ≡ k * length (f m)
length_each f k m = length-flat_map f (replicate k m) ∙ sum_by-replicate (λ (x : MessageValues). length (f x)) k m

pub frames_repeated : (k : ℕ) (m : MessageValues) (t : Tally) → t.count ≡ k → t.bytes ≡ k * length (frame_bytes m) → t.sum ≡ k * number_in m → t ≡ frames_tally (replicate k m)
frames_repeated k m t count bytes sum =
    rw (length-replicate k m, length_each frame_bytes k m, sum_by-replicate number_in k m) (same_tally t _ count bytes sum)

pub commands_repeated : (k : ℕ) (m : MessageValues) (t : Tally) → t.count ≡ k → t.bytes ≡ k * length (command_spelling m.command) → t.sum ≡ k * number_in m → t ≡ commands_tally (replicate k m)
commands_repeated k m t count bytes sum =
    rw (length-replicate k m, length_each (λ (x : MessageValues). command_spelling x.command) k m, sum_by-replicate number_in k m) (same_tally t _ count bytes sum)

-- ---- the command that is read

-- a number is that of the command
pub same_number : (m n : MessageValues) → m.command ≡ n.command → number_in m ≡ number_in n
unfolding number_in key
same_number m n e = ap (λ (c : CommandValues). last_number (key (record { command = c; payload = None }))) e

-- what is read of a sample's command is the command
pub read_again : (s : Sample) (n : ℕ) (c d : CommandValues) → c ≡ (sample_message s n).command → command_reading (command_spelling c) ≡ Some (settled c) → command_reading (command_spelling (sample_message s n).command) ≡ Some d → d ≡ (sample_message s n).command
read_again s n c d is again read =
    let written : command_reading (command_spelling (sample_message s n).command) ≡ Some (settled (sample_message s n).command) = rw is at again in
    let same : settled (sample_message s n).command ≡ (sample_message s n).command = ap (λ (m : MessageValues). m.command) (settled_sample s n) in
    cc
