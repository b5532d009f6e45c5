-- What the values that were read stand for, and what the answers of the functions that read say of the bytes.
-- (Protocol Buffers, Encoding: message structure)
use Rattle.std.specs.Prelude.{◌≡◌, ℕ, Option, Some, None, Result, Ok, Err}
use Rattle.pulsar_wire.specs.declared.encoding.field.Value.{Value as Read}
use Rattle.pulsar_wire.specs.declared.encoding.field.Value.TheVariants as read
use Rattle.pulsar_wire.specs.declared.encoding.read_error.ReadError.{ReadError}
use Rattle.pulsar_wire.specs.declared.encoding.read_error.ReadError.TheVariants.{Malformed, NoMemory}
use Rattle.pulsar_wire.specs.Field.{Value, Varint, Eight, Delimited, Four, Field}

-- the value that the code read
abbrev pub shown : Read → Value
shown (read.Varint n) = Varint n
shown (read.Eight bytes) = Eight bytes.now
shown (read.Delimited bytes) = Delimited bytes.now
shown (read.Four bytes) = Four bytes.now

-- a field of this number and value
abbrev pub field : ℕ → Read → Field
field n v = record { number = n; value = shown v }

-- A reading is refused: there is none. Memory may run out.
abbrev pub Refuses : {Y : Type 0} → ReadError → Option Y → Type 0
Refuses Malformed reading = reading ≡ None
Refuses NoMemory reading = Unit {0}

-- What a function leaves, y, is what a reading gives.
abbrev pub Leaves : {X Y : Type 0} → Result X ReadError → Y → Option Y → Type 0
Leaves (Ok x) y reading = reading ≡ Some y
Leaves (Err e) y reading = Refuses e reading

-- What a function returns, seen by view, is what a reading gives.
abbrev pub Gives : {X Y : Type 0} → (X → Y) → Result X ReadError → Option Y → Type 0
Gives view (Ok x) reading = reading ≡ Some (view x)
Gives view (Err e) reading = Refuses e reading
