-- A frame that was written is read again.
use Rattle.std.proofs.Common.{◌≡◌, Ok, ℕ, ◌+◌, ◌^◌, ◌<◌, List, ◌++◌, length, Some, refl, length-append, arith}
use Rattle.pulsar_wire.specs.Command.{CommandValues, command_reading, command_spelling, settled, Spells}
use Rattle.pulsar_wire.specs.Fits.{CommandInRange}
use Rattle.pulsar_wire.proofs.CommandTrip.{command_trip}
use Rattle.pulsar_frame.specs.Message.{MessageValues}
use Rattle.pulsar_frame.specs.Payload.{PayloadInRange, bytes_behind}
use Rattle.pulsar_frame.specs.Read.{IsReadBehind, described_bytes}
use Rattle.pulsar_frame.specs.Sized.{with_size}
use Rattle.pulsar_frame.specs.Frame.{Whole, content, counted_bytes, front, frame_bytes, FitsFrame, IsReadAgain}
use Rattle.pulsar_frame.proofs.Payloads.{behind-again, in_range-again, short_metadata}
use Rattle.pulsar_frame.proofs.Splits.{length-with_size, sized_at-with_size}

pub length-counted_bytes : (m : MessageValues) → length (counted_bytes m) ≡ 4 + length (command_spelling m.command) + length (bytes_behind m.payload)
unfolding counted_bytes
length-counted_bytes m =
    omega (arith, length-append (with_size (command_spelling m.command)) (bytes_behind m.payload), length-with_size (command_spelling m.command))

pub length-frame_bytes : (m : MessageValues) → length (frame_bytes m) ≡ 8 + length (command_spelling m.command) + length (bytes_behind m.payload)
unfolding frame_bytes
length-frame_bytes m = omega (arith, length-with_size (counted_bytes m), length-counted_bytes m)

short_command : (m : MessageValues) → FitsFrame m → length (command_spelling m.command) < 2 ^ 32
unfolding FitsFrame
short_command m fits = omega (arith, length-counted_bytes m)

short_behind : (m : MessageValues) → FitsFrame m → length (described_bytes m.payload) < 2 ^ 32
unfolding FitsFrame
short_behind m fits = short_metadata m.payload (omega (arith, length-counted_bytes m))

content-again : (m : MessageValues) (c : CommandValues) → FitsFrame m → command_reading (command_spelling m.command) ≡ Some c → IsReadBehind m.payload → content (counted_bytes m) ≡ Ok (record { command = c; payload = m.payload })
unfolding content counted_bytes
content-again m c fits again behind =
    rw (sized_at-with_size (command_spelling m.command) (bytes_behind m.payload) (short_command m fits), again, behind-again m.payload (short_behind m fits) behind) refl

-- a frame is read again, whatever follows, with the command that the bytes of its command spell
front-frame_bytes : (m : MessageValues) (c : CommandValues) (t : List ℕ) → FitsFrame m → command_reading (command_spelling m.command) ≡ Some c → IsReadBehind m.payload
    → front (frame_bytes m ++ t) ≡ Whole (record { command = c; payload = m.payload }) t
unfolding front frame_bytes FitsFrame
front-frame_bytes m c t fits again behind =
    rw (sized_at-with_size (counted_bytes m) t fits, content-again m c fits again behind) refl

-- a frame that was written is read again, whatever follows
pub read_again : (m : MessageValues) → FitsFrame m → CommandInRange m.command → PayloadInRange m.payload → IsReadAgain m
read_again m fits range payload t =
    let short = short_command m fits in
    front-frame_bytes m (settled m.command) t fits (command_trip m.command (range, omega arith)) (in_range-again m.payload (short_behind m fits) payload)

-- a message that was written is read again
pub written_again : (m : MessageValues) → FitsFrame m → Spells (command_spelling m.command) (settled m.command) → IsReadBehind m.payload → IsReadAgain m
written_again m fits again behind t = front-frame_bytes m (settled m.command) t fits again behind
