-- What the structs of the crate say: the values of a message, in the order of its row.  (PulsarApi.proto)
use Rattle.std.specs.Prelude.{map, string_bytes}
use Rattle.std.specs.Option.{option_map}
use Rattle.pulsar_wire.specs.Row.{Values, ◌&◌}
use Rattle.pulsar_wire.specs.Rows.{message_id, key_value, encryption_keys, message_metadata, single_message_metadata, schema, get_schema, get_schema_response, auth_data, auth_challenge, auth_response, connect, connected, ping, pong, success, error, partition_metadata, partition_metadata_response, lookup_topic, lookup_topic_response, producer, producer_success, send, send_receipt, send_error, close_producer, subscribe, unsubscribe, close_consumer, active_consumer_change, message, ack, flow, redeliver_unacknowledged_messages, reached_end_of_topic, seek, get_last_message_id, get_last_message_id_response, consumer_stats, consumer_stats_response, get_topics_of_namespace, get_topics_of_namespace_response}
use Rattle.pulsar_wire.specs.Command.{BodyValues, CommandValues}
use Rattle.pulsar_wire.specs.declared.commands.ids.MessageIdData.{MessageIdData}
use Rattle.pulsar_wire.specs.declared.commands.metadata.KeyValue.{KeyValue}
use Rattle.pulsar_wire.specs.declared.commands.metadata.EncryptionKeys.{EncryptionKeys}
use Rattle.pulsar_wire.specs.declared.commands.metadata.MessageMetadata.{MessageMetadata}
use Rattle.pulsar_wire.specs.declared.commands.metadata.SingleMessageMetadata.{SingleMessageMetadata}
use Rattle.pulsar_wire.specs.declared.commands.schema.Schema.{Schema}
use Rattle.pulsar_wire.specs.declared.commands.schema.CommandGetSchema.{CommandGetSchema}
use Rattle.pulsar_wire.specs.declared.commands.schema.CommandGetSchemaResponse.{CommandGetSchemaResponse}
use Rattle.pulsar_wire.specs.declared.commands.auth.AuthData.{AuthData}
use Rattle.pulsar_wire.specs.declared.commands.auth.CommandAuthChallenge.{CommandAuthChallenge}
use Rattle.pulsar_wire.specs.declared.commands.auth.CommandAuthResponse.{CommandAuthResponse}
use Rattle.pulsar_wire.specs.declared.commands.connection.CommandConnect.{CommandConnect}
use Rattle.pulsar_wire.specs.declared.commands.connection.CommandConnected.{CommandConnected}
use Rattle.pulsar_wire.specs.declared.commands.connection.CommandPing.{CommandPing}
use Rattle.pulsar_wire.specs.declared.commands.connection.CommandPong.{CommandPong}
use Rattle.pulsar_wire.specs.declared.commands.connection.CommandSuccess.{CommandSuccess}
use Rattle.pulsar_wire.specs.declared.commands.connection.CommandError.{CommandError}
use Rattle.pulsar_wire.specs.declared.commands.lookup.CommandPartitionedTopicMetadata.{CommandPartitionedTopicMetadata}
use Rattle.pulsar_wire.specs.declared.commands.lookup.CommandPartitionedTopicMetadataResponse.{CommandPartitionedTopicMetadataResponse}
use Rattle.pulsar_wire.specs.declared.commands.lookup.CommandLookupTopic.{CommandLookupTopic}
use Rattle.pulsar_wire.specs.declared.commands.lookup.CommandLookupTopicResponse.{CommandLookupTopicResponse}
use Rattle.pulsar_wire.specs.declared.commands.producer.CommandProducer.{CommandProducer}
use Rattle.pulsar_wire.specs.declared.commands.producer.CommandProducerSuccess.{CommandProducerSuccess}
use Rattle.pulsar_wire.specs.declared.commands.producer.CommandSend.{CommandSend}
use Rattle.pulsar_wire.specs.declared.commands.producer.CommandSendReceipt.{CommandSendReceipt}
use Rattle.pulsar_wire.specs.declared.commands.producer.CommandSendError.{CommandSendError}
use Rattle.pulsar_wire.specs.declared.commands.producer.CommandCloseProducer.{CommandCloseProducer}
use Rattle.pulsar_wire.specs.declared.commands.consumer.subscription.CommandSubscribe.{CommandSubscribe}
use Rattle.pulsar_wire.specs.declared.commands.consumer.subscription.CommandUnsubscribe.{CommandUnsubscribe}
use Rattle.pulsar_wire.specs.declared.commands.consumer.subscription.CommandCloseConsumer.{CommandCloseConsumer}
use Rattle.pulsar_wire.specs.declared.commands.consumer.subscription.CommandActiveConsumerChange.{CommandActiveConsumerChange}
use Rattle.pulsar_wire.specs.declared.commands.consumer.delivery.CommandMessage.{CommandMessage}
use Rattle.pulsar_wire.specs.declared.commands.consumer.delivery.CommandAck.{CommandAck}
use Rattle.pulsar_wire.specs.declared.commands.consumer.delivery.CommandFlow.{CommandFlow}
use Rattle.pulsar_wire.specs.declared.commands.consumer.delivery.CommandRedeliverUnacknowledgedMessages.{CommandRedeliverUnacknowledgedMessages}
use Rattle.pulsar_wire.specs.declared.commands.consumer.delivery.CommandReachedEndOfTopic.{CommandReachedEndOfTopic}
use Rattle.pulsar_wire.specs.declared.commands.consumer.position.CommandSeek.{CommandSeek}
use Rattle.pulsar_wire.specs.declared.commands.consumer.position.CommandGetLastMessageId.{CommandGetLastMessageId}
use Rattle.pulsar_wire.specs.declared.commands.consumer.position.CommandGetLastMessageIdResponse.{CommandGetLastMessageIdResponse}
use Rattle.pulsar_wire.specs.declared.commands.consumer.position.CommandConsumerStats.{CommandConsumerStats}
use Rattle.pulsar_wire.specs.declared.commands.consumer.position.CommandConsumerStatsResponse.{CommandConsumerStatsResponse}
use Rattle.pulsar_wire.specs.declared.commands.topics.CommandGetTopicsOfNamespace.{CommandGetTopicsOfNamespace}
use Rattle.pulsar_wire.specs.declared.commands.topics.CommandGetTopicsOfNamespaceResponse.{CommandGetTopicsOfNamespaceResponse}
use Rattle.pulsar_wire.specs.declared.commands.base.Body.{Body}
use Rattle.pulsar_wire.specs.declared.commands.base.Body.TheVariants.{Connect, Connected, Subscribe, Producer, Send, SendReceipt, SendError, Message, Ack, Flow, Unsubscribe, Success, Error, CloseProducer, CloseConsumer, ProducerSuccess, Ping, Pong, RedeliverUnacknowledgedMessages, PartitionedTopicMetadata, PartitionedTopicMetadataResponse, LookupTopic, LookupTopicResponse, ConsumerStats, ConsumerStatsResponse, ReachedEndOfTopic, Seek, GetLastMessageId, GetLastMessageIdResponse, ActiveConsumerChange, GetTopicsOfNamespace, GetTopicsOfNamespaceResponse, GetSchema, GetSchemaResponse, AuthChallenge, AuthResponse}
use Rattle.pulsar_wire.specs.declared.commands.base.BaseCommand.{BaseCommand}

-- the values of a MessageIdData
unfoldable pub message_id_values : MessageIdData → Values message_id
message_id_values m = m.ledger_id & m.entry_id & m.partition & m.batch_index & m.ack_set.items & m.batch_size & tt

-- the values of a KeyValue
unfoldable pub key_value_values : KeyValue → Values key_value
key_value_values m = string_bytes m.key & string_bytes m.value & tt

-- the values of an EncryptionKeys
unfoldable pub encryption_keys_values : EncryptionKeys → Values encryption_keys
encryption_keys_values m = string_bytes m.key & m.value.items & map key_value_values m.metadata.items & tt

-- the values of a MessageMetadata
unfoldable pub message_metadata_values : MessageMetadata → Values message_metadata
message_metadata_values m = string_bytes m.producer_name & m.sequence_id & m.publish_time & map key_value_values m.properties.items & option_map string_bytes m.replicated_from & option_map string_bytes m.partition_key & map string_bytes m.replicate_to.items & m.compression & m.uncompressed_size & m.num_messages_in_batch & m.event_time & map encryption_keys_values m.encryption_keys.items & option_map string_bytes m.encryption_algo & option_map (λ v. v.items) m.encryption_param & option_map (λ v. v.items) m.schema_version & option_map (λ v. v.items) m.ordering_key & m.deliver_at_time & tt

-- the values of a SingleMessageMetadata
unfoldable pub single_message_metadata_values : SingleMessageMetadata → Values single_message_metadata
single_message_metadata_values m = map key_value_values m.properties.items & option_map string_bytes m.partition_key & m.payload_size & m.event_time & option_map (λ v. v.items) m.ordering_key & tt

-- the values of a Schema
unfoldable pub schema_values : Schema → Values schema
schema_values m = string_bytes m.name & m.schema_data.items & m.kind & map key_value_values m.properties.items & tt

-- the values of a CommandGetSchema
unfoldable pub get_schema_values : CommandGetSchema → Values get_schema
get_schema_values m = m.request_id & string_bytes m.topic & option_map (λ v. v.items) m.schema_version & tt

-- the values of a CommandGetSchemaResponse
unfoldable pub get_schema_response_values : CommandGetSchemaResponse → Values get_schema_response
get_schema_response_values m = m.request_id & m.error_code & option_map string_bytes m.error_message & option_map schema_values m.schema & option_map (λ v. v.items) m.schema_version & tt

-- the values of an AuthData
unfoldable pub auth_data_values : AuthData → Values auth_data
auth_data_values m = option_map string_bytes m.auth_method_name & option_map (λ v. v.items) m.auth_data & tt

-- the values of a CommandAuthChallenge
unfoldable pub auth_challenge_values : CommandAuthChallenge → Values auth_challenge
auth_challenge_values m = option_map string_bytes m.server_version & option_map auth_data_values m.challenge & m.protocol_version & tt

-- the values of a CommandAuthResponse
unfoldable pub auth_response_values : CommandAuthResponse → Values auth_response
auth_response_values m = option_map string_bytes m.client_version & option_map auth_data_values m.response & m.protocol_version & tt

-- the values of a CommandConnect
unfoldable pub connect_values : CommandConnect → Values connect
connect_values m = string_bytes m.client_version & option_map (λ v. v.items) m.auth_data & m.protocol_version & option_map string_bytes m.auth_method_name & option_map string_bytes m.proxy_to_broker_url & tt

-- the values of a CommandConnected
unfoldable pub connected_values : CommandConnected → Values connected
connected_values m = string_bytes m.server_version & m.protocol_version & m.max_message_size & tt

-- the values of a CommandPing
unfoldable pub ping_values : CommandPing → Values ping
ping_values m = tt

-- the values of a CommandPong
unfoldable pub pong_values : CommandPong → Values pong
pong_values m = tt

-- the values of a CommandSuccess
unfoldable pub success_values : CommandSuccess → Values success
success_values m = m.request_id & option_map schema_values m.schema & tt

-- the values of a CommandError
unfoldable pub error_values : CommandError → Values error
error_values m = m.request_id & m.error & string_bytes m.message & tt

-- the values of a CommandPartitionedTopicMetadata
unfoldable pub partition_metadata_values : CommandPartitionedTopicMetadata → Values partition_metadata
partition_metadata_values m = string_bytes m.topic & m.request_id & tt

-- the values of a CommandPartitionedTopicMetadataResponse
unfoldable pub partition_metadata_response_values : CommandPartitionedTopicMetadataResponse → Values partition_metadata_response
partition_metadata_response_values m = m.partitions & m.request_id & m.response & m.error & option_map string_bytes m.message & tt

-- the values of a CommandLookupTopic
unfoldable pub lookup_topic_values : CommandLookupTopic → Values lookup_topic
lookup_topic_values m = string_bytes m.topic & m.request_id & m.authoritative & tt

-- the values of a CommandLookupTopicResponse
unfoldable pub lookup_topic_response_values : CommandLookupTopicResponse → Values lookup_topic_response
lookup_topic_response_values m = option_map string_bytes m.broker_service_url & option_map string_bytes m.broker_service_url_tls & m.response & m.request_id & m.authoritative & m.error & option_map string_bytes m.message & m.proxy_through_service_url & tt

-- the values of a CommandProducer
unfoldable pub producer_values : CommandProducer → Values producer
producer_values m = string_bytes m.topic & m.producer_id & m.request_id & option_map string_bytes m.producer_name & m.encrypted & map key_value_values m.metadata.items & option_map schema_values m.schema & m.producer_access_mode & tt

-- the values of a CommandProducerSuccess
unfoldable pub producer_success_values : CommandProducerSuccess → Values producer_success
producer_success_values m = m.request_id & string_bytes m.producer_name & m.last_sequence_id & option_map (λ v. v.items) m.schema_version & m.topic_epoch & m.producer_ready & tt

-- the values of a CommandSend
unfoldable pub send_values : CommandSend → Values send
send_values m = m.producer_id & m.sequence_id & m.num_messages & tt

-- the values of a CommandSendReceipt
unfoldable pub send_receipt_values : CommandSendReceipt → Values send_receipt
send_receipt_values m = m.producer_id & m.sequence_id & option_map message_id_values m.message_id & m.highest_sequence_id & tt

-- the values of a CommandSendError
unfoldable pub send_error_values : CommandSendError → Values send_error
send_error_values m = m.producer_id & m.sequence_id & m.error & string_bytes m.message & tt

-- the values of a CommandCloseProducer
unfoldable pub close_producer_values : CommandCloseProducer → Values close_producer
close_producer_values m = m.producer_id & m.request_id & tt

-- the values of a CommandSubscribe
unfoldable pub subscribe_values : CommandSubscribe → Values subscribe
subscribe_values m = string_bytes m.topic & string_bytes m.subscription & m.sub_type & m.consumer_id & m.request_id & option_map string_bytes m.consumer_name & m.priority_level & m.durable & option_map message_id_values m.start_message_id & map key_value_values m.metadata.items & m.read_compacted & option_map schema_values m.schema & m.initial_position & tt

-- the values of a CommandUnsubscribe
unfoldable pub unsubscribe_values : CommandUnsubscribe → Values unsubscribe
unsubscribe_values m = m.consumer_id & m.request_id & tt

-- the values of a CommandCloseConsumer
unfoldable pub close_consumer_values : CommandCloseConsumer → Values close_consumer
close_consumer_values m = m.consumer_id & m.request_id & tt

-- the values of a CommandActiveConsumerChange
unfoldable pub active_consumer_change_values : CommandActiveConsumerChange → Values active_consumer_change
active_consumer_change_values m = m.consumer_id & m.is_active & tt

-- the values of a CommandMessage
unfoldable pub message_values : CommandMessage → Values message
message_values m = m.consumer_id & message_id_values m.message_id & m.redelivery_count & m.ack_set.items & tt

-- the values of a CommandAck
unfoldable pub ack_values : CommandAck → Values ack
ack_values m = m.consumer_id & m.ack_type & map message_id_values m.message_id.items & tt

-- the values of a CommandFlow
unfoldable pub flow_values : CommandFlow → Values flow
flow_values m = m.consumer_id & m.message_permits & tt

-- the values of a CommandRedeliverUnacknowledgedMessages
unfoldable pub redeliver_unacknowledged_messages_values : CommandRedeliverUnacknowledgedMessages → Values redeliver_unacknowledged_messages
redeliver_unacknowledged_messages_values m = m.consumer_id & map message_id_values m.message_ids.items & tt

-- the values of a CommandReachedEndOfTopic
unfoldable pub reached_end_of_topic_values : CommandReachedEndOfTopic → Values reached_end_of_topic
reached_end_of_topic_values m = m.consumer_id & tt

-- the values of a CommandSeek
unfoldable pub seek_values : CommandSeek → Values seek
seek_values m = m.consumer_id & m.request_id & option_map message_id_values m.message_id & m.message_publish_time & tt

-- the values of a CommandGetLastMessageId
unfoldable pub get_last_message_id_values : CommandGetLastMessageId → Values get_last_message_id
get_last_message_id_values m = m.consumer_id & m.request_id & tt

-- the values of a CommandGetLastMessageIdResponse
unfoldable pub get_last_message_id_response_values : CommandGetLastMessageIdResponse → Values get_last_message_id_response
get_last_message_id_response_values m = message_id_values m.last_message_id & m.request_id & tt

-- the values of a CommandConsumerStats
unfoldable pub consumer_stats_values : CommandConsumerStats → Values consumer_stats
consumer_stats_values m = m.request_id & m.consumer_id & tt

-- the values of a CommandConsumerStatsResponse
unfoldable pub consumer_stats_response_values : CommandConsumerStatsResponse → Values consumer_stats_response
consumer_stats_response_values m = m.request_id & m.error_code & option_map string_bytes m.error_message & option_map string_bytes m.consumer_name & m.available_permits & m.unacked_messages & m.blocked_consumer_on_unacked_msgs & option_map string_bytes m.address & option_map string_bytes m.connected_since & option_map string_bytes m.kind & m.msg_backlog & tt

-- the values of a CommandGetTopicsOfNamespace
unfoldable pub get_topics_of_namespace_values : CommandGetTopicsOfNamespace → Values get_topics_of_namespace
get_topics_of_namespace_values m = m.request_id & string_bytes m.namespace & m.mode & tt

-- the values of a CommandGetTopicsOfNamespaceResponse
unfoldable pub get_topics_of_namespace_response_values : CommandGetTopicsOfNamespaceResponse → Values get_topics_of_namespace_response
get_topics_of_namespace_response_values m = m.request_id & map string_bytes m.topics.items & tt

-- the number, the row and the values of a body
abbrev pub body_values : Body → BodyValues
body_values (Connect m) = record { number = 2; row = connect; values = connect_values m }
body_values (Connected m) = record { number = 3; row = connected; values = connected_values m }
body_values (Subscribe m) = record { number = 4; row = subscribe; values = subscribe_values m }
body_values (Producer m) = record { number = 5; row = producer; values = producer_values m }
body_values (Send m) = record { number = 6; row = send; values = send_values m }
body_values (SendReceipt m) = record { number = 7; row = send_receipt; values = send_receipt_values m }
body_values (SendError m) = record { number = 8; row = send_error; values = send_error_values m }
body_values (Message m) = record { number = 9; row = message; values = message_values m }
body_values (Ack m) = record { number = 10; row = ack; values = ack_values m }
body_values (Flow m) = record { number = 11; row = flow; values = flow_values m }
body_values (Unsubscribe m) = record { number = 12; row = unsubscribe; values = unsubscribe_values m }
body_values (Success m) = record { number = 13; row = success; values = success_values m }
body_values (Error m) = record { number = 14; row = error; values = error_values m }
body_values (CloseProducer m) = record { number = 15; row = close_producer; values = close_producer_values m }
body_values (CloseConsumer m) = record { number = 16; row = close_consumer; values = close_consumer_values m }
body_values (ProducerSuccess m) = record { number = 17; row = producer_success; values = producer_success_values m }
body_values (Ping m) = record { number = 18; row = ping; values = ping_values m }
body_values (Pong m) = record { number = 19; row = pong; values = pong_values m }
body_values (RedeliverUnacknowledgedMessages m) = record { number = 20; row = redeliver_unacknowledged_messages; values = redeliver_unacknowledged_messages_values m }
body_values (PartitionedTopicMetadata m) = record { number = 21; row = partition_metadata; values = partition_metadata_values m }
body_values (PartitionedTopicMetadataResponse m) = record { number = 22; row = partition_metadata_response; values = partition_metadata_response_values m }
body_values (LookupTopic m) = record { number = 23; row = lookup_topic; values = lookup_topic_values m }
body_values (LookupTopicResponse m) = record { number = 24; row = lookup_topic_response; values = lookup_topic_response_values m }
body_values (ConsumerStats m) = record { number = 25; row = consumer_stats; values = consumer_stats_values m }
body_values (ConsumerStatsResponse m) = record { number = 26; row = consumer_stats_response; values = consumer_stats_response_values m }
body_values (ReachedEndOfTopic m) = record { number = 27; row = reached_end_of_topic; values = reached_end_of_topic_values m }
body_values (Seek m) = record { number = 28; row = seek; values = seek_values m }
body_values (GetLastMessageId m) = record { number = 29; row = get_last_message_id; values = get_last_message_id_values m }
body_values (GetLastMessageIdResponse m) = record { number = 30; row = get_last_message_id_response; values = get_last_message_id_response_values m }
body_values (ActiveConsumerChange m) = record { number = 31; row = active_consumer_change; values = active_consumer_change_values m }
body_values (GetTopicsOfNamespace m) = record { number = 32; row = get_topics_of_namespace; values = get_topics_of_namespace_values m }
body_values (GetTopicsOfNamespaceResponse m) = record { number = 33; row = get_topics_of_namespace_response; values = get_topics_of_namespace_response_values m }
body_values (GetSchema m) = record { number = 34; row = get_schema; values = get_schema_values m }
body_values (GetSchemaResponse m) = record { number = 35; row = get_schema_response; values = get_schema_response_values m }
body_values (AuthChallenge m) = record { number = 36; row = auth_challenge; values = auth_challenge_values m }
body_values (AuthResponse m) = record { number = 37; row = auth_response; values = auth_response_values m }

-- what a command says
abbrev pub command_values : BaseCommand → CommandValues
command_values c = record { kind = c.kind; body = option_map body_values c.body }
