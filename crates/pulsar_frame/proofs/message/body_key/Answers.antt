use Rattle.std.proofs.Common.{refl}
use Rattle.pulsar_wire.specs.Views.{subscribe_values, producer_values, send_values, send_receipt_values, send_error_values, message_values, ack_values, flow_values, unsubscribe_values, success_values, error_values, close_producer_values, close_consumer_values, producer_success_values, redeliver_unacknowledged_messages_values, partition_metadata_values, partition_metadata_response_values, lookup_topic_values, lookup_topic_response_values, consumer_stats_values, consumer_stats_response_values, reached_end_of_topic_values, seek_values, get_last_message_id_values, get_last_message_id_response_values, active_consumer_change_values, get_topics_of_namespace_values, get_topics_of_namespace_response_values, get_schema_values, get_schema_response_values, auth_challenge_values}
use Rattle.pulsar_frame.proofs.message.body_key.Goals as goal

pub returns-in-Subscribe : goal.returns-in-Subscribe
unfolding subscribe_values
returns-in-Subscribe c = rw c.in-Subscribe.is c.numbered.ensures

pub returns-in-Producer : goal.returns-in-Producer
unfolding producer_values
returns-in-Producer c = rw c.in-Producer.is c.numbered-in-Producer.ensures

pub returns-in-Send : goal.returns-in-Send
unfolding send_values
returns-in-Send c = rw c.in-Send.is c.of_send.ensures

pub returns-in-SendReceipt : goal.returns-in-SendReceipt
unfolding send_receipt_values
returns-in-SendReceipt c = rw c.in-SendReceipt.is c.of_send-in-SendReceipt.ensures

pub returns-in-SendError : goal.returns-in-SendError
unfolding send_error_values
returns-in-SendError c = rw c.in-SendError.is c.of_send-in-SendError.ensures

pub returns-in-Message : goal.returns-in-Message
unfolding message_values
returns-in-Message c = rw c.in-Message.is c.of_consumer.ensures

pub returns-in-Ack : goal.returns-in-Ack
unfolding ack_values
returns-in-Ack c = rw c.in-Ack.is c.of_consumer-in-Ack.ensures

pub returns-in-Flow : goal.returns-in-Flow
unfolding flow_values
returns-in-Flow c = rw c.in-Flow.is c.of_consumer-in-Flow.ensures

pub returns-in-Unsubscribe : goal.returns-in-Unsubscribe
unfolding unsubscribe_values
returns-in-Unsubscribe c = rw c.in-Unsubscribe.is c.numbered-in-Unsubscribe.ensures

pub returns-in-Success : goal.returns-in-Success
unfolding success_values
returns-in-Success c = rw c.in-Success.is c.numbered-in-Success.ensures

pub returns-in-Error : goal.returns-in-Error
unfolding error_values
returns-in-Error c = rw c.in-Error.is c.numbered-in-Error.ensures

pub returns-in-CloseProducer : goal.returns-in-CloseProducer
unfolding close_producer_values
returns-in-CloseProducer c = rw c.in-CloseProducer.is c.numbered-in-CloseProducer.ensures

pub returns-in-CloseConsumer : goal.returns-in-CloseConsumer
unfolding close_consumer_values
returns-in-CloseConsumer c = rw c.in-CloseConsumer.is c.of_close.ensures

pub returns-in-ProducerSuccess : goal.returns-in-ProducerSuccess
unfolding producer_success_values
returns-in-ProducerSuccess c = rw c.in-ProducerSuccess.is c.ready_key.ensures

pub returns-in-RedeliverUnacknowledgedMessages : goal.returns-in-RedeliverUnacknowledgedMessages
unfolding redeliver_unacknowledged_messages_values
returns-in-RedeliverUnacknowledgedMessages c = rw c.in-RedeliverUnacknowledgedMessages.is c.of_consumer-in-RedeliverUnacknowledgedMessages.ensures

pub returns-in-PartitionedTopicMetadata : goal.returns-in-PartitionedTopicMetadata
unfolding partition_metadata_values
returns-in-PartitionedTopicMetadata c = rw c.in-PartitionedTopicMetadata.is c.numbered-in-PartitionedTopicMetadata.ensures

pub returns-in-PartitionedTopicMetadataResponse : goal.returns-in-PartitionedTopicMetadataResponse
unfolding partition_metadata_response_values
returns-in-PartitionedTopicMetadataResponse c = rw c.in-PartitionedTopicMetadataResponse.is c.numbered-in-PartitionedTopicMetadataResponse.ensures

pub returns-in-LookupTopic : goal.returns-in-LookupTopic
unfolding lookup_topic_values
returns-in-LookupTopic c = rw c.in-LookupTopic.is c.numbered-in-LookupTopic.ensures

pub returns-in-LookupTopicResponse : goal.returns-in-LookupTopicResponse
unfolding lookup_topic_response_values
returns-in-LookupTopicResponse c = rw c.in-LookupTopicResponse.is c.numbered-in-LookupTopicResponse.ensures

pub returns-in-ConsumerStats : goal.returns-in-ConsumerStats
unfolding consumer_stats_values
returns-in-ConsumerStats c = rw c.in-ConsumerStats.is c.numbered-in-ConsumerStats.ensures

pub returns-in-ConsumerStatsResponse : goal.returns-in-ConsumerStatsResponse
unfolding consumer_stats_response_values
returns-in-ConsumerStatsResponse c = rw c.in-ConsumerStatsResponse.is c.numbered-in-ConsumerStatsResponse.ensures

pub returns-in-ReachedEndOfTopic : goal.returns-in-ReachedEndOfTopic
unfolding reached_end_of_topic_values
returns-in-ReachedEndOfTopic c = rw c.in-ReachedEndOfTopic.is c.of_consumer-in-ReachedEndOfTopic.ensures

pub returns-in-Seek : goal.returns-in-Seek
unfolding seek_values
returns-in-Seek c = rw c.in-Seek.is c.numbered-in-Seek.ensures

pub returns-in-GetLastMessageId : goal.returns-in-GetLastMessageId
unfolding get_last_message_id_values
returns-in-GetLastMessageId c = rw c.in-GetLastMessageId.is c.numbered-in-GetLastMessageId.ensures

pub returns-in-GetLastMessageIdResponse : goal.returns-in-GetLastMessageIdResponse
unfolding get_last_message_id_response_values
returns-in-GetLastMessageIdResponse c = rw c.in-GetLastMessageIdResponse.is c.numbered-in-GetLastMessageIdResponse.ensures

pub returns-in-ActiveConsumerChange : goal.returns-in-ActiveConsumerChange
unfolding active_consumer_change_values
returns-in-ActiveConsumerChange c = rw c.in-ActiveConsumerChange.is c.of_consumer-in-ActiveConsumerChange.ensures

pub returns-in-GetTopicsOfNamespace : goal.returns-in-GetTopicsOfNamespace
unfolding get_topics_of_namespace_values
returns-in-GetTopicsOfNamespace c = rw c.in-GetTopicsOfNamespace.is c.numbered-in-GetTopicsOfNamespace.ensures

pub returns-in-GetTopicsOfNamespaceResponse : goal.returns-in-GetTopicsOfNamespaceResponse
unfolding get_topics_of_namespace_response_values
returns-in-GetTopicsOfNamespaceResponse c = rw c.in-GetTopicsOfNamespaceResponse.is c.numbered-in-GetTopicsOfNamespaceResponse.ensures

pub returns-in-GetSchema : goal.returns-in-GetSchema
unfolding get_schema_values
returns-in-GetSchema c = rw c.in-GetSchema.is c.numbered-in-GetSchema.ensures

pub returns-in-GetSchemaResponse : goal.returns-in-GetSchemaResponse
unfolding get_schema_response_values
returns-in-GetSchemaResponse c = rw c.in-GetSchemaResponse.is c.numbered-in-GetSchemaResponse.ensures

pub returns-in-AuthChallenge : goal.returns-in-AuthChallenge
unfolding auth_challenge_values
returns-in-AuthChallenge c = rw c.in-AuthChallenge.is refl
