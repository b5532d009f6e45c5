-- What an answer of `decode` says of the bytes, and the error that a caller is told.
-- (Protocol Buffers, Encoding: message structure)
use Rattle.std.specs.Prelude.{◌≡◌, Option, None, Result, Ok, Err, Some}
use Rattle.pulsar_wire.specs.declared.encoding.read_error.ReadError.{ReadError}
use Rattle.pulsar_wire.specs.declared.encoding.read_error.ReadError.TheVariants as read
use Rattle.pulsar_wire.specs.declared.error.ConnectionError.{ConnectionError}
use Rattle.pulsar_wire.specs.declared.error.ConnectionError.TheVariants.{Decoding, NoMemory}
use Rattle.pulsar_wire.specs.declared.error.Error.{Error}
use Rattle.pulsar_wire.specs.declared.error.Error.TheVariants.{Connection}
use Rattle.pulsar_wire.specs.declared.error.Reason.TheVariants.{Message}

-- the error that a caller is told
abbrev pub connection_error : ReadError → ConnectionError
connection_error read.Malformed = Decoding Message
connection_error read.NoMemory = NoMemory

-- an error of a connection, as a call of the client answers it
abbrev pub in_connection : ConnectionError → Error
in_connection e = Connection e

-- Decoding says that the bytes mean nothing. Memory may run out. There is no other error.
abbrev pub IsRefusal : {Y : Type 0} → ConnectionError → Option Y → Type 0
IsRefusal (Decoding Message) meaning = meaning ≡ None
IsRefusal NoMemory meaning = Unit {0}
IsRefusal _ meaning = ⊥

-- A value is answered exactly where the bytes mean it, and Decoding exactly where they mean nothing.
abbrev pub Decodes : {X Y : Type 0} → (X → Y) → Result X ConnectionError → Option Y → Type 0
Decodes seen (Ok x) meaning = meaning ≡ Some (seen x)
Decodes seen (Err e) meaning = IsRefusal e meaning
