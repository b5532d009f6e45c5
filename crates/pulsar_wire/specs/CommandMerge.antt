-- Serves the code's contracts alone: how one more field changes the command that was read so far.
use Rattle.std.specs.Prelude.{ℕ, Option, Some, None, ◌==◌, if◌then◌else◌}
use Rattle.std.specs.Option.{is_some}
use Rattle.pulsar_wire.specs.Field.{◌>>=◌, Value, Field}
use Rattle.pulsar_wire.specs.Row.{Int32, Required, none_of}
use Rattle.pulsar_wire.specs.Merge.{put, put_plain, put_part}
use Rattle.pulsar_wire.specs.Command.{BodyValues, CommandValues, body_row}

-- the body of this number with no field, if it is known
unfoldable pub empty_body : ℕ → Option BodyValues
empty_body n = do
  row ← body_row n
  Some (record { number = n; row = row; values = none_of row })

-- a body with one more part
unfoldable pub grown : BodyValues → Value → Option BodyValues
grown b v = do
  x ← put_part Required (put b.row) (none_of b.row) b.values v
  Some (record { number = b.number; row = b.row; values = x })

-- the body that a part of this number joins: the one that was read so far, or one with no field. Two may not stand there.
abbrev pub body_for : ℕ → Option BodyValues → Option BodyValues
body_for n None = empty_body n
body_for n (Some b) = if n == b.number then Some b else None

-- the body that was read so far, with one more part of this number
unfoldable pub joined_body : ℕ → Option BodyValues → Value → Option (Option BodyValues)
joined_body n body v = do
  b ← body_for n body
  x ← grown b v
  Some (Some x)

-- the command that was read so far, with one more field
unfoldable pub command_step : CommandValues → Field → Option CommandValues
command_step c f = do
  kind ← if f.number == 1 then put_plain Required Int32 c.kind f.value else Some c.kind
  body ← if is_some (body_row f.number) then joined_body f.number c.body f.value else Some c.body
  Some (record { kind = kind; body = body })
