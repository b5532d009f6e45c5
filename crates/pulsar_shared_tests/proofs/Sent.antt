-- What threads share of a client may go to another thread: each type that holds an error, by those that it is made of.
use denote.RattleType.{RattleType}
use denote.Param.Object.{Ghosts, table_of}
use denote.Param.Send.{IsSend, sendable}
use denote.Param.SendFields.{as_row_send, declared_send}
use denote.Param.Sent.{Sends}
use Rattle.std.proofs.Crossing as heap
use Rattle.std.proofs.MapsCrossing as maps
use Rattle.pulsar_messages.proofs.authentication.Authentication.TheSendSync as messages-Authentication
use Rattle.pulsar_client.specs.contracts.options.ClientOptions as client-ClientOptions
use Rattle.pulsar_client.specs.contracts.pulsar.Pulsar as client-Pulsar
use Rattle.pulsar_wire.proofs.error.Error.TheLaws.TheKnot as knot
use Rattle.pulsar_wire.proofs.error.ConnectionError.TheSendSync as wire-ConnectionError
use Rattle.pulsar_wire.proofs.error.ConsumerError.TheSendSync as wire-ConsumerError
use Rattle.pulsar_wire.proofs.error.ServiceDiscoveryError.TheSendSync as wire-ServiceDiscoveryError
use Rattle.pulsar_wire.proofs.error.AuthenticationError.TheSendSync as wire-AuthenticationError
use Rattle.pulsar_wire.specs.contracts.error.Error as wire-Error
use Rattle.pulsar_acts.proofs.settings.Settings.TheSendSync as acts-Settings
use Rattle.pulsar_acts.specs.contracts.tables.Tables as acts-Tables
use Rattle.pulsar_calls.proofs.act.Round.TheSendSync as calls-Round
use Rattle.pulsar_calls.proofs.boxed.Boxed.TheSendSync as calls-Boxed
use Rattle.pulsar_calls.proofs.act.Says.TheSendSync as calls-Says
use Rattle.pulsar_calls.proofs.act.Share.TheSendSync as calls-Share
use Rattle.pulsar_calls.proofs.act.Who.TheSendSync as calls-Who
use Rattle.pulsar_calls.specs.contracts.content.Failures as calls-Failures
use Rattle.pulsar_outgoing.proofs.content.Numbers.TheSendSync as outgoing-Numbers
use Rattle.pulsar_calls.specs.contracts.content.Said as calls-Said
use Rattle.pulsar_calls.proofs.effect.Answer.TheSendSync as calls-Answer
use Rattle.pulsar_calls.specs.contracts.effect.Effect as calls-Effect
use Rattle.pulsar_calls.proofs.effect.Handed.TheSendSync as calls-Handed
use Rattle.pulsar_calls.proofs.effect.Settlement.TheSendSync as calls-Settlement
use Rattle.pulsar_client.specs.contracts.answers.Answers as client-Answers
use Rattle.pulsar_consumer.proofs.building.BuildingConsumer.TheSendSync as consumer-Building
use Rattle.pulsar_incoming.proofs.orders.ConsumerOrder.TheSendSync as consumer-Order
use Rattle.pulsar_consumer.specs.contracts.consumer.Consumer as consumer-Consumer
use Rattle.pulsar_consumer.specs.contracts.engine.ConsumerEngine as consumer-ConsumerEngine
use Rattle.pulsar_consumer.specs.contracts.frame.Frame as consumer-Frame
use Rattle.pulsar_consumer.specs.contracts.frame_item.FrameItem as consumer-FrameItem
use Rattle.pulsar_consumer.proofs.kept.KeptIds.TheSendSync as consumer-KeptIds
use Rattle.pulsar_consumer.proofs.letter.Letter.TheSendSync as consumer-Letter
use Rattle.pulsar_consumer.proofs.live.Live.TheSendSync as consumer-Live
use Rattle.pulsar_incoming.proofs.polled.Ending.TheSendSync as consumer-Ending
use Rattle.pulsar_incoming.proofs.settings.Settings.TheSendSync as consumer-Settings
use Rattle.pulsar_consumer.specs.contracts.topic_consumer.TopicConsumer as consumer-TopicConsumer
use Rattle.pulsar_consumer_table.proofs.numbers.Numbers.TheSendSync as consumer_table-Numbers
use Rattle.pulsar_consumer_table.specs.contracts.row.ConsumerRow as consumer_table-ConsumerRow
use Rattle.pulsar_consumer_table.specs.contracts.table.Consumers as consumer_table-Consumers
use Rattle.pulsar_frame.proofs.payload.Payload.TheSendSync as frame-Payload
use Rattle.pulsar_exchange.proofs.content.Request.TheSendSync as link-Request
use Rattle.pulsar_frame.specs.contracts.items.Unread as link-Unread
use Rattle.pulsar_addresses.specs.contracts.content.Refusal as plans-Refusal
use Rattle.pulsar_addresses.proofs.content.Text.TheSendSync as plans-Text
use Rattle.pulsar_searches.proofs.look.Looking.TheSendSync as plans-Looking
use Rattle.pulsar_searches.proofs.making.Command.TheSendSync as plans-Command
use Rattle.pulsar_searches.proofs.making.Making.TheSendSync as plans-Making
use Rattle.pulsar_searches.proofs.names.Naming.TheSendSync as plans-Naming
use Rattle.pulsar_searches.proofs.plan.SearchPlan.TheSendSync as searches-SearchPlan
use Rattle.pulsar_searches.proofs.turn.Ways.TheSendSync as plans-Ways
use Rattle.pulsar_plans.proofs.plan.At.TheSendSync as procedures-At
use Rattle.pulsar_plans.specs.contracts.plan.Plan as procedures-Plan
use Rattle.pulsar_plans.proofs.plan.Wanted.TheSendSync as procedures-Wanted
use Rattle.pulsar_plans.proofs.service.Service.TheSendSync as procedures-Service
use Rattle.pulsar_plans.specs.contracts.table.Plans as procedures-Plans
use Rattle.pulsar_producer.specs.contracts.batching.Batching as producer-Batching
use Rattle.pulsar_producer.specs.contracts.building.BuildingProducer as producer-Building
use Rattle.pulsar_outgoing.proofs.orders.ProducerOrder.TheSendSync as producer-Order
use Rattle.pulsar_producer.proofs.building.Part.TheSendSync as producer-Part
use Rattle.pulsar_outgoing.proofs.content.Left.TheSendSync as producer-Left
use Rattle.pulsar_outgoing.proofs.content.Members.TheSendSync as producer-Members
use Rattle.pulsar_outgoing.proofs.content.Outgoing.TheSendSync as producer-Outgoing
use Rattle.pulsar_outgoing.proofs.content.Parts.TheSendSync as producer-Parts
use Rattle.pulsar_outgoing.proofs.orders.Errand.TheSendSync as producer-Errand
use Rattle.pulsar_producer.specs.contracts.sending.Sending as producer-Sending
use Rattle.pulsar_producer_table.proofs.table.Producers.TheSendSync as producer_table-Producers
use Rattle.pulsar_pumps.specs.contracts.submitter.Receipt as pumps-Receipt
use Rattle.pulsar_links.proofs.addresses.Addresses.TheSendSync as tables-Addresses
use Rattle.pulsar_links.proofs.alarms.Alarms.TheSendSync as tables-Alarms
use Rattle.pulsar_links.proofs.links.Links.TheSendSync as tables-Links
use Rattle.pulsar_wire.proofs.commands.ids.MessageIdData.TheSendSync as wire-MessageIdData

pub wire-Error-field_send : IsSend (wire-Error.the_field).row
wire-Error-field_send = search (knot.send-Error, knot.send-ProducerError, wire-ConnectionError.the_field_send, wire-ConsumerError.the_field_send, wire-ServiceDiscoveryError.the_field_send, wire-AuthenticationError.the_field_send, heap.Vec-send, heap.Box-send, heap.frees, heap.send, maps.String-send, sendable) depth 20 fits 20000

pub wire-Error-send : IsSend wire-Error.the_row
wire-Error-send = as_row_send wire-Error.the_field wire-Error-field_send

pub link-Unread-field_send : IsSend (link-Unread.the_field).row
link-Unread-field_send = search (wire-Error-send, wire-Error-field_send, wire-MessageIdData.the_send, wire-MessageIdData.the_field_send, frame-Payload.the_send, frame-Payload.the_field_send, heap.crosses, maps.crosses, sendable) depth 30 fits 20000

pub link-Unread-send : IsSend link-Unread.the_row
link-Unread-send = as_row_send link-Unread.the_field link-Unread-field_send

pub calls-Effect-field_send : IsSend (calls-Effect.the_field).row
calls-Effect-field_send = search (calls-Answer.the_send, calls-Answer.the_field_send, wire-Error-send, wire-Error-field_send, calls-Handed.the_send, calls-Handed.the_field_send, calls-Settlement.the_send, calls-Settlement.the_field_send, heap.crosses, maps.crosses, sendable) depth 30 fits 20000

pub calls-Effect-send : IsSend calls-Effect.the_row
calls-Effect-send = as_row_send calls-Effect.the_field calls-Effect-field_send

pub consumer-FrameItem-field_send : IsSend (consumer-FrameItem.the_field).row
consumer-FrameItem-field_send = search (link-Unread-send, link-Unread-field_send, heap.crosses, maps.crosses, sendable) depth 30 fits 20000

pub consumer-FrameItem-send : IsSend consumer-FrameItem.the_row
consumer-FrameItem-send = as_row_send consumer-FrameItem.the_field consumer-FrameItem-field_send

pub consumer-Frame-field_send : IsSend (consumer-Frame.the_field).row
consumer-Frame-field_send = search (consumer-FrameItem-send, consumer-FrameItem-field_send, consumer-Letter.the_send, heap.crosses, maps.crosses, sendable) depth 30 fits 20000

pub consumer-Frame-send : IsSend consumer-Frame.the_row
consumer-Frame-send = as_row_send consumer-Frame.the_field consumer-Frame-field_send

pub consumer-ConsumerEngine-field_send : IsSend (consumer-ConsumerEngine.the_field).row
consumer-ConsumerEngine-field_send = search (consumer-Frame-send, consumer-Frame-field_send, consumer-Live.the_send, consumer-FrameItem-send, consumer-FrameItem-field_send, consumer-Letter.the_send, consumer-KeptIds.the_send, wire-MessageIdData.the_send, wire-MessageIdData.the_field_send, heap.crosses, maps.crosses, sendable) depth 30 fits 20000

pub consumer-ConsumerEngine-send : IsSend consumer-ConsumerEngine.the_row
consumer-ConsumerEngine-send = as_row_send consumer-ConsumerEngine.the_field consumer-ConsumerEngine-field_send

pub consumer-TopicConsumer-field_send : IsSend (consumer-TopicConsumer.the_field).row
consumer-TopicConsumer-field_send = search (consumer-ConsumerEngine-send, consumer-ConsumerEngine-field_send, consumer-Ending.the_send, consumer-Ending.the_field_send, consumer-Settings.the_send, plans-Text.the_send, heap.crosses, maps.crosses, sendable) depth 30 fits 20000

pub consumer-TopicConsumer-send : IsSend consumer-TopicConsumer.the_row
consumer-TopicConsumer-send = as_row_send consumer-TopicConsumer.the_field consumer-TopicConsumer-field_send

pub consumer-Consumer-field_send : IsSend (consumer-Consumer.the_field).row
consumer-Consumer-field_send = search (consumer-TopicConsumer-send, consumer-TopicConsumer-field_send, heap.crosses, maps.crosses, sendable) depth 30 fits 20000

pub consumer-Consumer-send : IsSend consumer-Consumer.the_row
consumer-Consumer-send = as_row_send consumer-Consumer.the_field consumer-Consumer-field_send

pub consumer_table-ConsumerRow-field_send : IsSend (consumer_table-ConsumerRow.the_field).row
consumer_table-ConsumerRow-field_send = search (consumer-Consumer-send, consumer-Consumer-field_send, calls-Who.the_send, calls-Who.the_field_send, heap.crosses, maps.crosses, sendable) depth 30 fits 20000

pub consumer_table-ConsumerRow-send : IsSend consumer_table-ConsumerRow.the_row
consumer_table-ConsumerRow-send = as_row_send consumer_table-ConsumerRow.the_field consumer_table-ConsumerRow-field_send

pub consumer_table-Consumers-field_send : IsSend (consumer_table-Consumers.the_field).row
consumer_table-Consumers-field_send = search (consumer_table-ConsumerRow-send, consumer_table-ConsumerRow-field_send, consumer_table-Numbers.the_send, consumer_table-Numbers.the_field_send, heap.crosses, maps.crosses, sendable) depth 30 fits 20000

pub consumer_table-Consumers-send : IsSend consumer_table-Consumers.the_row
consumer_table-Consumers-send = as_row_send consumer_table-Consumers.the_field consumer_table-Consumers-field_send

pub plans-Refusal-field_send : IsSend (plans-Refusal.the_field).row
plans-Refusal-field_send = search (wire-Error-send, wire-Error-field_send, heap.crosses, maps.crosses, sendable) depth 30 fits 20000

pub plans-Refusal-send : IsSend plans-Refusal.the_row
plans-Refusal-send = as_row_send plans-Refusal.the_field plans-Refusal-field_send

pub producer-Sending-field_send : IsSend (producer-Sending.the_field).row
producer-Sending-field_send = search (plans-Command.the_send, plans-Command.the_field_send, plans-Looking.the_send, plans-Looking.the_field_send, plans-Making.the_send, plans-Making.the_field_send, producer-Outgoing.the_send, plans-Refusal-send, plans-Refusal-field_send, heap.crosses, maps.crosses, sendable) depth 30 fits 20000

pub producer-Sending-send : IsSend producer-Sending.the_row
producer-Sending-send = as_row_send producer-Sending.the_field producer-Sending-field_send

pub producer-Batching-field_send : IsSend (producer-Batching.the_field).row
producer-Batching-field_send = search (producer-Members.the_send, producer-Sending-send, producer-Sending-field_send, heap.crosses, maps.crosses, sendable) depth 30 fits 20000

pub producer-Batching-send : IsSend producer-Batching.the_row
producer-Batching-send = as_row_send producer-Batching.the_field producer-Batching-field_send

pub producer-Building-field_send : IsSend (producer-Building.the_field).row
producer-Building-field_send = search (plans-Command.the_send, plans-Command.the_field_send, producer-Left.the_send, plans-Making.the_send, plans-Making.the_field_send, plans-Naming.the_send, plans-Naming.the_field_send, producer-Part.the_send, producer-Part.the_field_send, producer-Parts.the_send, plans-Refusal-send, plans-Refusal-field_send, heap.crosses, maps.crosses, sendable) depth 30 fits 20000

pub producer-Building-send : IsSend producer-Building.the_row
producer-Building-send = as_row_send producer-Building.the_field producer-Building-field_send

pub calls-Failures-field_send : IsSend (calls-Failures.the_field).row
calls-Failures-field_send = search (plans-Refusal-send, plans-Refusal-field_send, heap.crosses, maps.crosses, sendable) depth 30 fits 20000

pub calls-Failures-send : IsSend calls-Failures.the_row
calls-Failures-send = as_row_send calls-Failures.the_field calls-Failures-field_send

pub procedures-Plan-field_send : IsSend (procedures-Plan.the_field).row
procedures-Plan-field_send = search (procedures-At.the_send, procedures-At.the_field_send, producer-Batching-send, producer-Batching-field_send, producer-Building-send, producer-Building-field_send, consumer-Order.the_send, consumer-Order.the_field_send, consumer-Building.the_send, consumer-Building.the_field_send, producer-Errand.the_send, producer-Errand.the_field_send, plans-Refusal-send, plans-Refusal-field_send, calls-Failures-send, calls-Failures-field_send, outgoing-Numbers.the_send, consumer-Order.the_send, consumer-Order.the_field_send, link-Request.the_send, calls-Round.the_send, calls-Round.the_field_send, calls-Says.the_send, calls-Says.the_field_send, searches-SearchPlan.the_send, calls-Boxed.the_send, producer-Sending-send, producer-Sending-field_send, procedures-Service.the_send, procedures-Service.the_field_send, calls-Share.the_send, calls-Share.the_field_send, procedures-Wanted.the_send, procedures-Wanted.the_field_send, plans-Ways.the_send, plans-Ways.the_field_send, producer-Order.the_send, producer-Order.the_field_send, consumer-Order.the_send, consumer-Order.the_field_send, heap.crosses, maps.crosses, sendable) depth 30 fits 20000

pub procedures-Plan-send : IsSend procedures-Plan.the_row
procedures-Plan-send = as_row_send procedures-Plan.the_field procedures-Plan-field_send

pub procedures-Plans-field_send : IsSend (procedures-Plans.the_field).row
procedures-Plans-field_send = search (procedures-Plan-send, procedures-Plan-field_send, heap.crosses, maps.crosses, sendable) depth 30 fits 20000

pub procedures-Plans-send : IsSend procedures-Plans.the_row
procedures-Plans-send = as_row_send procedures-Plans.the_field procedures-Plans-field_send

pub acts-Tables-field_send : IsSend (acts-Tables.the_field).row
acts-Tables-field_send = search (tables-Addresses.the_send, tables-Addresses.the_field_send, tables-Alarms.the_send, consumer_table-Consumers-send, consumer_table-Consumers-field_send, tables-Links.the_send, tables-Links.the_field_send, procedures-Plans-send, procedures-Plans-field_send, producer_table-Producers.the_send, producer_table-Producers.the_field_send, acts-Settings.the_send, acts-Settings.the_field_send, heap.crosses, maps.crosses, sendable) depth 30 fits 20000

pub acts-Tables-send : IsSend acts-Tables.the_row
acts-Tables-send = as_row_send acts-Tables.the_field acts-Tables-field_send

pub calls-Said-field_send : IsSend (calls-Said.the_field).row
calls-Said-field_send = search (calls-Answer.the_send, calls-Answer.the_field_send, wire-Error-send, wire-Error-field_send, heap.crosses, maps.crosses, sendable) depth 30 fits 20000

pub calls-Said-send : IsSend calls-Said.the_row
calls-Said-send = as_row_send calls-Said.the_field calls-Said-field_send

pub client-Answers-field_send : IsSend (client-Answers.the_field).row
client-Answers-field_send = search (calls-Said-send, calls-Said-field_send, heap.crosses, maps.crosses, sendable) depth 30 fits 20000

pub client-Answers-send : IsSend client-Answers.the_row
client-Answers-send = as_row_send client-Answers.the_field client-Answers-field_send

pub pumps-Receipt-field_send : IsSend (pumps-Receipt.the_field).row
pumps-Receipt-field_send = search (calls-Effect-send, calls-Effect-field_send, heap.crosses, maps.crosses, sendable) depth 30 fits 20000

pub pumps-Receipt-send : IsSend pumps-Receipt.the_row
pumps-Receipt-send = as_row_send pumps-Receipt.the_field pumps-Receipt-field_send

-- the policies of a client are boxes
module _ (D : RattleType) (g : Ghosts D.Denot) (entries : Sends (table_of D.Denot g)) (vtable : IsSend D) where
  client-ClientOptions-send : IsSend (client-ClientOptions.the_row D g)
  client-ClientOptions-send = let policy = heap.dyn_box_send D g entries vtable in
      declared_send (client-ClientOptions.the_type D g) (search (as_row_send, policy, messages-Authentication.the_send, heap.crosses, maps.crosses, sendable) depth 30 fits 20000)

  pub client-Pulsar-send : IsSend (client-Pulsar.the_row D g)
  client-Pulsar-send = declared_send (client-Pulsar.the_type D g) (search (as_row_send, client-ClientOptions-send, acts-Tables-field_send, client-Answers-field_send, heap.crosses, maps.crosses, sendable) depth 30 fits 20000)
