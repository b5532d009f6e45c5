-- What a message says.
use Rattle.std.specs.Prelude.{Option}
use Rattle.pulsar_wire.specs.Command.{CommandValues}
use Rattle.pulsar_frame.specs.Payload.{PayloadValues}

-- the content of a frame  (Pulsar binary protocol, Framing)
pub record MessageValues : Type 0 where
  pub command : CommandValues
  pub payload : Option PayloadValues
