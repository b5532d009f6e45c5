-- For the code's own contracts: what is read on the way to a message.
use Rattle.std.specs.Prelude.{◌≡◌, ℕ, ◌^◌, ◌<◌, ◌≤◌, List, [], length, drop, Option, Some, None, Result, Ok, Err}
use Rattle.pulsar_wire.specs.declared.encoding.read_error.ReadError.{ReadError}
use Rattle.pulsar_wire.specs.declared.encoding.read_error.ReadError.TheVariants as read
use Rattle.pulsar_wire.specs.declared.error.ConnectionError.{ConnectionError}
use Rattle.pulsar_wire.specs.declared.error.ConnectionError.TheVariants.{Decoding, NoMemory}
use Rattle.pulsar_wire.specs.declared.error.Reason.{Reason}
use Rattle.pulsar_frame.specs.Sized.{IsSpelledBack, sized_at}
use Rattle.pulsar_wire.specs.Row.{spelling}
use Rattle.pulsar_wire.specs.Rows.{message_metadata}
use Rattle.pulsar_frame.specs.Checksum.{crc32c}
use Rattle.pulsar_frame.specs.Payload.{PayloadValues, covered_bytes}
use Rattle.pulsar_frame.specs.Tail.{Tail}
use Rattle.pulsar_frame.specs.declared.payload.Tail.{Tail as Split}

-- What is read of a frame, seen by view, or why it is refused. Memory may run out.
abbrev pub Holds : {X Y : Type 0} → (X → Y) → Result X ConnectionError → Result Y Reason → Type 0
Holds view (Ok x) reading = reading ≡ Ok (view x)
Holds view (Err (Decoding r)) reading = reading ≡ Err r
Holds view (Err NoMemory) reading = Unit {0}
Holds view (Err _) reading = ⊥

-- what a caller is told of bytes that are refused for this reason, unless memory ran out
abbrev pub refusal : Reason → ReadError → ConnectionError
refusal r read.Malformed = Decoding r
refusal r read.NoMemory = NoMemory

-- what the total in front of bytes counts, with the length of the frame
abbrev pub SplitsFrame : Option (List ℕ × ℕ) → List ℕ → Type 0
SplitsFrame (Some x) bytes = (sized_at bytes ≡ Some (x.0, drop x.1 bytes)) × (x.1 ≤ length bytes)
SplitsFrame None bytes = sized_at bytes ≡ None

-- what stands behind a command, as the code has cut it
abbrev pub tail_seen : Split → Tail
tail_seen t =
    record {
      magic = t.magic;
      checksum = t.checksum;
      covered = t.covered.now;
      metadata = t.metadata.now;
      payload = t.payload.now;
    }

-- the metadata of a payload, where there is one
abbrev pub described_bytes : Option PayloadValues → List ℕ
described_bytes None = []
described_bytes (Some p) = spelling message_metadata p.metadata

abbrev pub described_len : Option PayloadValues → ℕ
described_len p = length (described_bytes p)

-- what was written of a payload is read again: its metadata, and its checksum
abbrev pub IsReadBehind : Option PayloadValues → Type 0
IsReadBehind None = Unit {0}
IsReadBehind (Some p) = IsSpelledBack message_metadata p.metadata × (crc32c (covered_bytes p) < 2 ^ 32)
