-- Words that are the hex of an encoded message: the id of a message, and a schema.
use Rattle.std.specs.Prelude.{ℕ, if◌then◌else◌, List, [], Option, Some, codes}
use Rattle.std.specs.Str.{bytes_eq}
use Rattle.pulsar_wire.specs.Field.{◌>>=◌}
use Rattle.pulsar_wire.specs.Row.{Values, reading}
use Rattle.pulsar_wire.specs.Rows as rows
use Rattle.pulsar_grammar.specs.Words.{hex}

-- an id: the hex of its bytes, and `%` for no bytes, of which it is the one of zeros
abbrev pub id_bytes : List ℕ → Option (List ℕ)
id_bytes word = if bytes_eq word (codes "%") then Some [] else hex word

abbrev pub id : List ℕ → Option (Values rows.message_id)
id word = id_bytes word >>= reading rows.message_id

-- a schema: the hex of its bytes
abbrev pub schema_of : List ℕ → Option (Values rows.schema)
schema_of word = hex word >>= reading rows.schema
