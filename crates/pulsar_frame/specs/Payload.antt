-- A payload, and what is said of it, as they stand behind a command.  (Pulsar binary protocol, Payload commands)
use Rattle.std.specs.Prelude.{ℕ, ◌==◌, List, [], ◌∷◌, ◌++◌, Option, Some, None, Result, Ok}
use Rattle.std.specs.Int.{w16, w32, to_be_bytes}
use Rattle.pulsar_wire.specs.Row.{Values, reading, spelling}
use Rattle.pulsar_wire.specs.Rows.{message_metadata}
use Rattle.pulsar_wire.specs.Fits.{InRange}
use Rattle.pulsar_wire.specs.Views.{message_metadata_values}
use Rattle.pulsar_wire.specs.declared.error.Reason.{Reason}
use Rattle.pulsar_wire.specs.declared.error.Reason.TheVariants as reason
use Rattle.pulsar_frame.specs.Checksum.{AreBytes, crc32c}
use Rattle.pulsar_frame.specs.Refusal.{◌>>=◌, or_refused, refused_unless}
use Rattle.pulsar_frame.specs.Sized.{with_size}
use Rattle.pulsar_frame.specs.Tail.{tail_at}
use Rattle.pulsar_frame.specs.declared.payload.Payload.{Payload}
use Rattle.pulsar_frame.specs.declared.payload.PayloadParts.{PayloadParts}

-- a payload, and what a frame says of it
pub record PayloadValues : Type 0 where
  pub metadata : Values message_metadata
  pub bytes : List ℕ

abbrev pub payload_values : Payload → PayloadValues
payload_values p = record { metadata = message_metadata_values p.metadata; bytes = p.bytes.items }

-- the payload that these are the parts of
abbrev pub parts_values : PayloadParts → PayloadValues
parts_values p = record { metadata = message_metadata_values p.metadata.now; bytes = p.bytes.now }

-- what a payload begins with
abbrev pub magic_number : ℕ
magic_number = 0x0e01

-- ---- reading

-- The payload of these bytes. They are refused by the first of these that holds: they are fewer than they say, they
-- have another magic number, the metadata isn't a MessageMetadata, the checksum differs.
unfoldable pub payload_at : List ℕ → Result PayloadValues Reason
payload_at bytes = do
  tail ← or_refused reason.Payload (tail_at bytes)
  marked ← refused_unless reason.Magic (tail.magic == magic_number)
  metadata ← or_refused reason.Metadata (reading message_metadata tail.metadata)
  whole ← refused_unless reason.Checksum (tail.checksum == crc32c tail.covered)
  Ok (record { metadata = metadata; bytes = tail.payload })

-- a payload stands behind a command where anything does
abbrev pub payload_behind : List ℕ → Result (Option PayloadValues) Reason
payload_behind [] = Ok None
payload_behind (b ∷ bytes) = payload_at (b ∷ bytes) >>= λ p. Ok (Some p)

-- ---- writing

-- what the checksum is of: the metadata behind its size, and the payload
unfoldable pub covered_bytes : PayloadValues → List ℕ
covered_bytes p = with_size (spelling message_metadata p.metadata) ++ p.bytes

-- a payload behind its magic number, its checksum and its metadata
unfoldable pub payload_bytes : PayloadValues → List ℕ
payload_bytes p = to_be_bytes w16 magic_number ++ to_be_bytes w32 (crc32c (covered_bytes p)) ++ covered_bytes p

-- what is written behind a command
abbrev pub bytes_behind : Option PayloadValues → List ℕ
bytes_behind None = []
bytes_behind (Some p) = payload_bytes p

-- a payload that the types of its fields hold, and whose bytes are bytes
abbrev pub PayloadInRange : Option PayloadValues → Type 0
PayloadInRange None = Unit {0}
PayloadInRange (Some p) = InRange message_metadata p.metadata × AreBytes (covered_bytes p)
