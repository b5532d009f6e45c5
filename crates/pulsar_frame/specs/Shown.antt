-- What calls on frames answer.
use Rattle.std.specs.Prelude.{◌≡◌, ℕ, List, ◌++◌, Option, Some, None, Result, Ok, Err}
use Rattle.std.specs.Global.{Vec}
use Rattle.std.specs.Option.{option_map}
use Rattle.pulsar_wire.specs.Views.{command_values}
use Rattle.pulsar_wire.specs.declared.error.ConnectionError.{ConnectionError}
use Rattle.pulsar_wire.specs.declared.error.ConnectionError.TheVariants.{Decoding, Encoding, NoMemory}
use Rattle.pulsar_wire.specs.declared.error.Reason.TheVariants.{Frame}
use Rattle.pulsar_wire.specs.declared.commands.base.BaseCommand.{BaseCommand}
use Rattle.pulsar_frame.specs.declared.message.Message.{Message}
use Rattle.pulsar_frame.specs.declared.payload.PayloadParts.{PayloadParts}
use Rattle.pulsar_frame.specs.Message.{MessageValues}
use Rattle.pulsar_frame.specs.Payload.{parts_values, payload_values}
use Rattle.pulsar_frame.specs.Frame.{Short, Refused, Whole, front, frame_bytes, FitsFrame}

abbrev pub message_values : Message → MessageValues
message_values m = record { command = command_values m.command; payload = option_map payload_values m.payload }

-- the message of this command and this payload, whose bytes are borrowed
abbrev pub message_of : BaseCommand → Option PayloadParts → MessageValues
message_of command payload = record { command = command_values command; payload = option_map parts_values payload }

-- A call takes a frame from the front of a stream: it has its message, and what follows stays. Elsewhere all stays:
-- nothing is answered where there is less than a frame, a frame that is refused has its reason, and memory may run out.
abbrev pub Takes : Result (Option Message) ConnectionError → List ℕ → List ℕ → Type 0
Takes (Ok (Some m)) old new = front old ≡ Whole (message_values m) new
Takes (Ok None) old new = (front old ≡ Short) × (new ≡ old)
Takes (Err (Decoding r)) old new = (front old ≡ Refused r) × (new ≡ old)
Takes (Err NoMemory) old new = new ≡ old
Takes (Err _) old new = ⊥

-- A call writes a message's frame behind what is there. Elsewhere all stays: the message has no frame, or memory ran
-- out.
abbrev pub Appends : Result (Unit {0}) ConnectionError → MessageValues → List ℕ → List ℕ → Type 0
Appends (Ok done) m old new = FitsFrame m × (new ≡ old ++ frame_bytes m)
Appends (Err (Encoding Frame)) m old new = (¬ FitsFrame m) × (new ≡ old)
Appends (Err NoMemory) m old new = new ≡ old
Appends (Err _) m old new = ⊥

-- A call answers a message's frame. The message has none, or memory ran out.
abbrev pub IsFrameOf : MessageValues → Result (Vec ℕ) ConnectionError → Type 0
IsFrameOf m (Ok frame) = FitsFrame m × (frame.items ≡ frame_bytes m)
IsFrameOf m (Err (Encoding Frame)) = ¬ FitsFrame m
IsFrameOf m (Err NoMemory) = Unit {0}
IsFrameOf m (Err _) = ⊥
