-- Bytes behind their size.  (Pulsar binary protocol, Framing)
use Rattle.std.specs.Prelude.{◌≡◌, ℕ, List, ◌++◌, length, Option, Some}
use Rattle.std.specs.Int.{w32, to_be_bytes, from_be_bytes}
use Rattle.pulsar_wire.specs.Field.{◌>>=◌, bytes_at}
use Rattle.pulsar_wire.specs.Row.{Row, Values, reading, spelling}

-- The bytes that the size in front counts, and the bytes after them. The size has four bytes, the highest comes first.
unfoldable pub sized_at : List ℕ → Option (List ℕ × List ℕ)
sized_at bytes = do
  size ← bytes_at 4 bytes
  bytes_at (from_be_bytes w32 size.0) size.1

-- bytes behind their size
unfoldable pub with_size : List ℕ → List ℕ
with_size bytes = to_be_bytes w32 (length bytes) ++ bytes

-- the bytes of a message's values are read as these values
abbrev pub IsSpelledBack : (row : Row) → Values row → Type 0
IsSpelledBack row vs = reading row (spelling row vs) ≡ Some vs
