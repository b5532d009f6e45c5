-- Frames, and the stream that they make.  (Pulsar binary protocol, Framing)
use Rattle.std.specs.Prelude.{◌≡◌, ℕ, zero, suc, ◌^◌, ◌<◌, List, [], ◌∷◌, ◌++◌, length, Option, Some, None, Result, Ok, Err}
use Rattle.pulsar_wire.specs.Command.{command_reading, command_spelling, settled}
use Rattle.pulsar_wire.specs.declared.error.Reason.{Reason}
use Rattle.pulsar_wire.specs.declared.error.Reason.TheVariants.{Frame, Command}
use Rattle.pulsar_frame.specs.Message.{MessageValues}
use Rattle.pulsar_frame.specs.Payload.{bytes_behind, payload_behind}
use Rattle.pulsar_frame.specs.Refusal.{◌>>=◌, or_refused}
use Rattle.pulsar_frame.specs.Sized.{sized_at, with_size}

-- ---- reading

-- The message of a frame, from what stands behind the frame's total: the size of the command, the command, and a
-- payload where anything follows. It is refused by the first reason that holds, in this order.
unfoldable pub content : List ℕ → Result MessageValues Reason
content bytes = do
  parts ← or_refused Frame (sized_at bytes)
  command ← or_refused Command (command_reading parts.0)
  payload ← payload_behind parts.1
  Ok (record { command = command; payload = payload })

-- what stands in front of a stream: less than a frame, a frame that is refused, or a frame's message and what follows
pub data Front : Type 0 where
  Short : Front
  Refused : Reason → Front
  Whole : MessageValues → List ℕ → Front

abbrev pub before : Result MessageValues Reason → List ℕ → Front
before (Ok m) rest = Whole m rest
before (Err r) rest = Refused r

abbrev pub front_of : Option (List ℕ × List ℕ) → Front
front_of None = Short
front_of (Some frame) = before (content frame.0) frame.1

-- The total counts all bytes of the frame after itself.
unfoldable pub front : List ℕ → Front
front bytes = front_of (sized_at bytes)

-- the bytes are one frame, of this message
abbrev pub IsFrame : List ℕ → MessageValues → Type 0
IsFrame bytes m = front bytes ≡ Whole m []

-- ---- a stream

-- the messages whose frames stand one behind the other in front, and what follows them
abbrev pub StandInFront : List MessageValues → List ℕ → List ℕ → Type 0
StandInFront [] bytes rest = bytes ≡ rest
StandInFront (m ∷ ms) bytes rest =
    (frame after : List ℕ) × (bytes ≡ frame ++ after) × IsFrame frame m × StandInFront ms after rest

abbrev pub cut_before : (List ℕ → List MessageValues × List ℕ) → List ℕ → Front → List MessageValues × List ℕ
cut_before more bytes (Whole m rest) = let others = more rest in (m ∷ others.0, others.1)
cut_before more bytes _ = ([], bytes)

-- the messages whose frames stand one behind the other, but no more than `most`, and what follows them
unfoldable pub cut_within : ℕ → List ℕ → List MessageValues × List ℕ
cut_within zero bytes = ([], bytes)
cut_within (suc most) bytes = cut_before (cut_within most) bytes (front bytes)

-- The messages whose frames stand one behind the other at the front. A frame has a byte at least.
unfoldable pub cut : List ℕ → List MessageValues
cut bytes = (cut_within (length bytes) bytes).0

-- what follows them
unfoldable pub left : List ℕ → List ℕ
left bytes = (cut_within (length bytes) bytes).1

abbrev pub reason_of : Front → Option Reason
reason_of (Refused r) = Some r
reason_of _ = None

-- why what follows them is refused, if it is whole and no frame
unfoldable pub bad : List ℕ → Option Reason
bad bytes = reason_of (front (left bytes))

-- ---- writing

-- what the total of a message's frame counts: the command behind its size, and the payload
unfoldable pub counted_bytes : MessageValues → List ℕ
counted_bytes m = with_size (command_spelling m.command) ++ bytes_behind m.payload

-- the one frame of a message that is written
unfoldable pub frame_bytes : MessageValues → List ℕ
frame_bytes m = with_size (counted_bytes m)

-- The total fits its four bytes. The other sizes are smaller.
unfoldable pub FitsFrame : MessageValues → Type 0
FitsFrame m = length (counted_bytes m) < 2 ^ 32

-- the message that is read where this one was written
abbrev pub settled_message : MessageValues → MessageValues
settled_message m = record { command = settled m.command; payload = m.payload }

-- its frame is read again, whatever follows
abbrev pub IsReadAgain : MessageValues → Type 0
IsReadAgain m = (t : List ℕ) → front (frame_bytes m ++ t) ≡ Whole (settled_message m) t
