-- What holds of all messages and commands.
use Rattle.std.specs.Prelude.{◌≡◌, ℕ, IsTrue, List, [], ◌∷◌, ◌++◌, Some}
use Rattle.pulsar_wire.specs.Field.{Field, fields}
use Rattle.pulsar_wire.specs.Row.{Row, Values, reading, spelling}
use Rattle.pulsar_wire.specs.Command.{CommandValues, body_row, command_reading, command_spelling, settled, Spells}
use Rattle.pulsar_wire.specs.Fits.{IsRow, lacks, Fits, FitsCommand, IsUnknown}

-- What is written is read again: in a row whose numbers are different, values that fit are the meaning of their spelling.
abbrev pub MessagesReadAgain : Type 0
MessagesReadAgain = (row : Row) (vs : Values row) → IsRow row → Fits row vs → reading row (spelling row vs) ≡ Some vs

-- A command that is written is read again, with the kind of its body where it has one.
abbrev pub CommandsReadAgain : Type 0
CommandsReadAgain = (c : CommandValues) → FitsCommand c → Spells (command_spelling c) (settled c)

-- A command whose kind is that of its body is read again as it is.
abbrev pub SettledCommandsReadAgain : Type 0
SettledCommandsReadAgain = (c : CommandValues) → FitsCommand c → settled c ≡ c → Spells (command_spelling c) c

-- No two commands are written alike, but for a kind that is not that of its body.
abbrev pub OneSpelling : Type 0
OneSpelling = (c d : CommandValues) → FitsCommand c → FitsCommand d → command_spelling c ≡ command_spelling d → settled c ≡ settled d

-- No known body has two fields of one number.
abbrev pub KnownBodiesAreRows : Type 0
KnownBodiesAreRows = (n : ℕ) (row : Row) → body_row n ≡ Some row → IsRow row

-- A field that a row does not have changes nothing, wherever it stands.
abbrev pub UnknownFieldsAreSkipped : Type 0
UnknownFieldsAreSkipped =
    (row : Row) (front bytes back : List ℕ) (before : List Field) (f : Field)
    → fields front ≡ Some before → fields bytes ≡ Some (f ∷ []) → IsTrue (lacks f.number row)
    → reading row (front ++ (bytes ++ back)) ≡ reading row (front ++ back)

-- A field of a command that is neither its kind nor a known body changes nothing, wherever it stands.
abbrev pub UnknownBodiesAreSkipped : Type 0
UnknownBodiesAreSkipped =
    (front bytes back : List ℕ) (before : List Field) (f : Field)
    → fields front ≡ Some before → fields bytes ≡ Some (f ∷ []) → IsUnknown f.number
    → command_reading (front ++ (bytes ++ back)) ≡ command_reading (front ++ back)
