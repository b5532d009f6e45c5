-- A command: its kind, and at most one body.  (Pulsar binary protocol, Simple commands; PulsarApi.proto)
use Rattle.std.specs.Prelude.{◌≡◌, ℕ, ℤ, pos, List, [], ◌∷◌, ◌++◌, Option, Some, None, ◌==◌, if◌then◌else◌}
use Rattle.std.specs.Option.{is_some}
use Rattle.std.specs.List.{list_all}
use Rattle.pulsar_wire.specs.Field.{◌>>=◌, Field, fields}
use Rattle.pulsar_wire.specs.Row.{Int32, Required, Row, Values, plain_of, embedded, occurrences, reading, entry, message_entry, spelling}
use Rattle.pulsar_wire.specs.Rows.{Known, known_bodies}

-- the fields of the body with this number, among these bodies
abbrev pub row_in : ℕ → List Known → Option Row
row_in n [] = None
row_in n (k ∷ ks) = if n == k.number then Some k.row else row_in n ks

-- the fields of the body with this number, if it is known
abbrev pub body_row : ℕ → Option Row
body_row n = row_in n known_bodies

-- the name of the body with this number, among these bodies
abbrev pub name_in : ℕ → List Known → List ℕ
name_in n [] = []
name_in n (k ∷ ks) = if n == k.number then k.name else name_in n ks

-- the name that the protocol gives to the body with this number
abbrev pub body_name : ℕ → List ℕ
body_name n = name_in n known_bodies

-- a body: the number of its field, its fields, and their values
pub record BodyValues : Type 0 where
  pub number : ℕ
  pub row : Row
  pub values : Values row

-- what a command says
pub record CommandValues : Type 0 where
  pub kind : ℤ
  pub body : Option BodyValues

-- ---- reading

-- the numbers of the known bodies that stand there
abbrev pub bodies : List Field → List ℕ
bodies [] = []
bodies (f ∷ fs) = if is_some (body_row f.number) then f.number ∷ bodies fs else bodies fs

-- the one number of all bodies, if there are any. Two different ones may not stand there.
abbrev pub only : List ℕ → Option (Option ℕ)
only [] = Some None
only (n ∷ ns) = if list_all (λ m. m == n) ns then Some (Some n) else None

-- the kind that field 1 says, and the number of the body
abbrev pub heading : List Field → Option (ℤ × Option ℕ)
heading fs = do
  kind ← plain_of Required Int32 (occurrences 1 fs)
  number ← only (bodies fs)
  Some (kind, number)

-- the values of the body with this number: its occurrences are joined, as those of an embedded message
abbrev pub body_value : ℕ → (row : Row) → List Field → Option (Values row)
body_value n row fs = embedded Required (λ bytes. reading row bytes) (occurrences n fs)

-- the body with this number
unfoldable pub some_body : ℕ → List Field → Option BodyValues
some_body n fs = do
  row ← body_row n
  x ← body_value n row fs
  Some (record { number = n; row = row; values = x })

-- the command of a body, which decides the kind
abbrev pub with_kind : BodyValues → CommandValues
with_kind b = record { kind = pos b.number; body = Some b }

-- the command that fields say, where this is their heading
abbrev pub with_body : List Field → ℤ → Option ℕ → Option CommandValues
with_body fs kind None = Some (record { kind = kind; body = None })
with_body fs kind (Some n) = some_body n fs >>= λ b. Some (with_kind b)

-- the command that bytes spell, if they spell one
unfoldable pub command_reading : List ℕ → Option CommandValues
command_reading bytes = do
  fs ← fields bytes
  h ← heading fs
  with_body fs h.0 h.1

-- these bytes spell this command
abbrev pub Spells : List ℕ → CommandValues → Type 0
Spells bytes c = command_reading bytes ≡ Some c

-- ---- writing

-- a body as it is written, without the command round it
abbrev pub body_bytes : BodyValues → List ℕ
body_bytes b = spelling b.row b.values

-- a body behind its kind
abbrev pub body_spelling : ℕ → List ℕ → List ℕ
body_spelling n bytes = entry 1 Int32 (pos n) ++ message_entry n bytes

-- the kind, which is that of the body where there is one, and the body
abbrev pub spelling_of : ℤ → Option BodyValues → List ℕ
spelling_of kind None = entry 1 Int32 kind
spelling_of kind (Some b) = body_spelling b.number (body_bytes b)

-- the one spelling of a command that is written
abbrev pub command_spelling : CommandValues → List ℕ
command_spelling c = spelling_of c.kind c.body

-- what the spelling of a kind and a body says: the body decides the kind
abbrev pub decided : ℤ → Option BodyValues → CommandValues
decided kind None = record { kind = kind; body = None }
decided kind (Some b) = with_kind b

-- the command that is read where this one was written
abbrev pub settled : CommandValues → CommandValues
settled c = decided c.kind c.body
