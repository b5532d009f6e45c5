-- Which message answers which request.  (Pulsar binary protocol, Simple commands)
use Rattle.std.specs.Prelude.{ℕ, Bool, true, false, Option, Some, None, ◌==◌}
use Rattle.pulsar_wire.specs.Command.{BodyValues}
use Rattle.pulsar_wire.specs.declared.key.RequestKey.{RequestKey}
use Rattle.pulsar_wire.specs.declared.key.RequestKey.TheVariants.{RequestId, ProducerSend, Consumer, CloseConsumer, AuthChallenge}
use Rattle.pulsar_frame.specs.Message.{MessageValues}
use Rattle.pulsar_frame.specs.Key.{bears_key, key}
use Rattle.pulsar_wire.specs.declared.awaited.Awaited.{Awaited}
use Rattle.pulsar_wire.specs.declared.awaited.Awaited.TheVariants.{Pong, Reply, Receipt}

abbrev pub is_number : ℕ → Option BodyValues → Bool
is_number n None = false
is_number n (Some b) = b.number == n

-- the message's body has this number
abbrev pub is : ℕ → MessageValues → Bool
is n m = is_number n m.command.body

-- A pong answers every ping. Another request is answered by the message that bears its key.
abbrev pub answers_by : (pong : Bool) → Option RequestKey → Awaited → Bool
answers_by pong k Pong = pong
answers_by pong k (Reply n) = bears_key k (RequestId n)
answers_by pong k (Receipt p s) = bears_key k (ProducerSend p s)

abbrev pub answers : MessageValues → Awaited → Bool
answers m a = answers_by (is 19 m) (key m) a

-- what a message answers, from its key
abbrev pub awaited_by_key : Option RequestKey → Option Awaited
awaited_by_key None = None
awaited_by_key (Some (RequestId n)) = Some (Reply n)
awaited_by_key (Some (ProducerSend p s)) = Some (Receipt p s)
awaited_by_key (Some (Consumer c)) = None
awaited_by_key (Some (CloseConsumer c n)) = Some (Reply n)
awaited_by_key (Some AuthChallenge) = None

abbrev pub awaited_by : (pong : Bool) → Option RequestKey → Option Awaited
awaited_by true k = Some Pong
awaited_by false k = awaited_by_key k
