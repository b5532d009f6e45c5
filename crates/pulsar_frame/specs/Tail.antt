-- What stands behind a command, where anything does.  (Pulsar binary protocol, Payload commands)
use Rattle.std.specs.Prelude.{ℕ, List, Option, Some}
use Rattle.std.specs.Int.{w16, w32, from_be_bytes}
use Rattle.pulsar_wire.specs.Field.{◌>>=◌, bytes_at}
use Rattle.pulsar_frame.specs.Sized.{sized_at}

pub record Tail : Type 0 where
  pub magic : ℕ
  pub checksum : ℕ
  -- what the checksum is of: all that follows it
  pub covered : List ℕ
  pub metadata : List ℕ
  pub payload : List ℕ

-- The magic number in two bytes, the checksum in four, the metadata behind its size, and the payload. Numbers have
-- their highest byte first.
unfoldable pub tail_at : List ℕ → Option Tail
tail_at bytes = do
  magic ← bytes_at 2 bytes
  checksum ← bytes_at 4 magic.1
  metadata ← sized_at checksum.1
  Some (record {
    magic = from_be_bytes w16 magic.0;
    checksum = from_be_bytes w32 checksum.0;
    covered = checksum.1;
    metadata = metadata.0;
    payload = metadata.1;
  })
