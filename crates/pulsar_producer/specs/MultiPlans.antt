-- Plans of those that use a producer of many topics: machines over the news of what they do.
use Rattle.std.specs.Prelude.{ℕ, List, Result, Ok, Err}
use Rattle.pulsar_messages.specs.Content.{ProducerMessageValues}
use Rattle.pulsar_wire.specs.Failures.{Fault, Disconnected, Failure}
use Rattle.pulsar_searches.specs.declared.turn.Ways.{Ways}
use Rattle.pulsar_outgoing.specs.Errors.{in_producer}
use Rattle.pulsar_producer.specs.Plans.{Builds, build_begins, build_told, fault_told}
use Rattle.pulsar_producer.specs.declared.building.BuildingProducer.{BuildingProducer}
use Rattle.pulsar_outgoing.specs.declared.orders.ProducerOrder.{ProducerOrder}
use Rattle.pulsar_outgoing.specs.declared.content.Built.{Built}
use Rattle.pulsar_producer.specs.declared.deed.Deed.TheVariants.{Rests}
use Rattle.pulsar_searches.specs.declared.transition.Transition.TheVariants.{Stays, Gives}
use Rattle.pulsar_producer.specs.declared.multi_topic.closing.MultiClosing.{MultiClosing}
use Rattle.pulsar_producer.specs.declared.multi_topic.closing.MultiClosing.TheVariants as close
use Rattle.pulsar_outgoing.specs.declared.multi_topic.Dispatch.{Dispatch}
use Rattle.pulsar_outgoing.specs.declared.multi_topic.MultiSaid.TheVariants.{HasTurn, Handed, Absent, Removed, Done}
use Rattle.pulsar_outgoing.specs.declared.multi_topic.MultiAsk.TheVariants.{TakeTurn, PassTurn, Hand, Join, Remove}
use Rattle.pulsar_producer.specs.declared.multi_topic.deed.MultiDeed.TheVariants.{Asks, Does}
use Rattle.pulsar_producer.specs.declared.multi_topic.deed.MultiNews.{MultiNews}
use Rattle.pulsar_producer.specs.declared.multi_topic.deed.MultiNews.TheVariants.{Said, Told}
use Rattle.pulsar_producer.specs.Transitions.{MultiTransition}
use Rattle.pulsar_producer.specs.declared.multi_topic.sending.MultiSending.{MultiSending}
use Rattle.pulsar_producer.specs.declared.multi_topic.sending.MultiSending.TheVariants as send

-- Why a plan fails at news. What it doesn't wait for counts as the loss of what it waits for.
abbrev pub multi_fault_told : MultiNews → Fault
multi_fault_told (Told n) = fault_told n
multi_fault_told (Said HasTurn) = Disconnected
multi_fault_told (Said (Handed d)) = Disconnected
multi_fault_told (Said (Absent m)) = Disconnected
multi_fault_told (Said (Removed ns)) = Disconnected
multi_fault_told (Said Done) = Disconnected

abbrev pub multi_failure : MultiNews → Failure
multi_failure n = in_producer (multi_fault_told n)

-- A SEND, until the producer of its topic has taken its message. Where there is no such producer it is built, and the turn is kept until that
-- has ended. Where that fails the send fails so; the next send to the topic builds again. Once the message is taken, or the send has failed, the
-- turn is over.

abbrev pub Dispatches : Type 0
Dispatches = MultiTransition MultiSending (Result Dispatch Failure)

abbrev pub send_begins : (topic : List ℕ) → ProducerMessageValues → Dispatches
send_begins t m = Stays (send.Waiting t m) (Asks TakeTurn)

-- the producer of the topic is to take the message
abbrev pub send_hands : (topic : List ℕ) → ProducerMessageValues → Dispatches
send_hands t m = Stays send.Handing (Asks (Hand (record { topic = t; message = m })))

-- the turn is over, and then it gives this
abbrev pub send_passes : Result Dispatch Failure → Dispatches
send_passes given = Stays (send.Passing given) (Asks PassTurn)

-- the producer was built
abbrev pub send_joins : ProducerOrder → ProducerMessageValues → List Built → Dispatches
send_joins o m parts =
    Stays (send.Joining o.topic m) (Asks (Join (record { topic = o.topic; settings = o.options; parts = parts })))

abbrev pub send_builds : ProducerOrder → ProducerMessageValues → Builds → Dispatches
send_builds o m (Stays b deed) = Stays (send.Building o m b) (Does deed)
send_builds o m (Gives (Ok parts)) = send_joins o m parts
send_builds o m (Gives (Err f)) = send_passes (Err f)

abbrev pub in_waiting : (topic : List ℕ) → ProducerMessageValues → MultiNews → Dispatches
in_waiting t m (Said HasTurn) = send_hands t m
in_waiting t m n = Gives (Err (multi_failure n))

abbrev pub in_handing : Ways → MultiNews → Dispatches
in_handing w (Said (Handed given)) = send_passes given
in_handing w (Said (Absent x)) = send_builds x.order x.message (build_begins w x.order)
in_handing w n = send_passes (Err (multi_failure n))

abbrev pub in_building : Ways → ProducerOrder → ProducerMessageValues → BuildingProducer → MultiNews → Dispatches
in_building w o m b (Told n) = send_builds o m (build_told w o b n)
in_building w o m b (Said x) = Stays (send.Building o m b) (Does Rests)

abbrev pub in_joining : (topic : List ℕ) → ProducerMessageValues → MultiNews → Dispatches
in_joining t m (Said Done) = send_hands t m
in_joining t m n = send_passes (Err (multi_failure n))

abbrev pub multi_send_told : Ways → MultiSending → MultiNews → Dispatches
multi_send_told w (send.Waiting t m) n = in_waiting t m n
multi_send_told w send.Handing n = in_handing w n
multi_send_told w (send.Building o m b) n = in_building w o m b n
multi_send_told w (send.Joining t m) n = in_joining t m n
multi_send_told w (send.Passing given) n = Gives given

-- A CLOSE, until the producer of its topic is removed. It comes behind the sends that came before it, so a later send builds again. It gives
-- the numbers of the topic producers that are to be closed: none where there was no producer.

abbrev pub Closes : Type 0
Closes = MultiTransition MultiClosing (Result (List ℕ) Failure)

abbrev pub close_begins : (topic : List ℕ) → Closes
close_begins t = Stays (close.Waiting t) (Asks TakeTurn)

abbrev pub close_passes : Result (List ℕ) Failure → Closes
close_passes given = Stays (close.Passing given) (Asks PassTurn)

abbrev pub in_close_waiting : (topic : List ℕ) → MultiNews → Closes
in_close_waiting t (Said HasTurn) = Stays close.Removing (Asks (Remove t))
in_close_waiting t n = Gives (Err (multi_failure n))

abbrev pub in_removing : MultiNews → Closes
in_removing (Said (Removed numbers)) = close_passes (Ok numbers)
in_removing n = close_passes (Err (multi_failure n))

abbrev pub close_told : MultiClosing → MultiNews → Closes
close_told (close.Waiting t) n = in_close_waiting t n
close_told close.Removing n = in_removing n
close_told (close.Passing given) n = Gives given
