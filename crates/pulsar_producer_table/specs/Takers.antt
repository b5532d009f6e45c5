-- Who has a turn at a topic producer, or at a producer of many topics: a call, the batches of the topic producer itself, or a consumer for the
-- copy of one of its dead letters.
use Rattle.std.specs.Prelude.{ℕ}
use Rattle.pulsar_outgoing.specs.declared.multi_topic.Taker.{Taker}
use Rattle.pulsar_outgoing.specs.declared.multi_topic.Taker.TheVariants as taker
use Rattle.pulsar_calls.specs.declared.act.Who.{Who}
use Rattle.pulsar_calls.specs.declared.act.Who.TheVariants.{Call, Consumer}
use Rattle.pulsar_calls.specs.Who.{in_turn}

abbrev pub who_of : Taker → Who
who_of (taker.Call ticket) = Call ticket
who_of (taker.Copy consumer ticket key) = Consumer consumer ticket

-- at the topic producer of a number, whose batches take their turn behind all tickets
abbrev pub who_at : (number : ℕ) → Taker → Who
who_at n (taker.Call turn) = in_turn n turn
who_at n (taker.Copy consumer ticket key) = Consumer consumer ticket
