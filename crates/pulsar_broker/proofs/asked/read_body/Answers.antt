use Rattle.std.proofs.Common.{ap, refl}
use Rattle.pulsar_wire.specs.Views.{close_consumer_values, close_producer_values, consumer_stats_response_values, consumer_stats_values, error_values, flow_values, get_last_message_id_response_values, get_last_message_id_values, get_schema_response_values, get_schema_values, get_topics_of_namespace_response_values, get_topics_of_namespace_values, lookup_topic_response_values, lookup_topic_values, partition_metadata_response_values, partition_metadata_values, producer_success_values, seek_values, send_values, success_values, unsubscribe_values}
use Rattle.pulsar_broker.specs.Asked.{or_else}
use Rattle.pulsar_broker.proofs.asked.read_body.Goals as goal

pub returns-in-Connect : goal.returns-in-Connect
returns-in-Connect c = rw c.in-Connect.is refl

pub returns-in-Ping : goal.returns-in-Ping
returns-in-Ping c = rw c.in-Ping.is refl

pub returns-in-Ack : goal.returns-in-Ack
returns-in-Ack c = rw c.in-Ack.is refl

pub returns-in-PartitionedTopicMetadata : goal.returns-in-PartitionedTopicMetadata
unfolding partition_metadata_values
returns-in-PartitionedTopicMetadata c = rw c.in-PartitionedTopicMetadata.is refl

pub returns-in-LookupTopic : goal.returns-in-LookupTopic
unfolding lookup_topic_values
returns-in-LookupTopic c = rw c.in-LookupTopic.is refl

pub returns-in-Send : goal.returns-in-Send
unfolding send_values
returns-in-Send c = rw c.in-Send.is refl

pub returns-in-Flow : goal.returns-in-Flow
unfolding flow_values
returns-in-Flow c = rw c.in-Flow.is refl

pub returns-in-CloseProducer : goal.returns-in-CloseProducer
unfolding close_producer_values
returns-in-CloseProducer c = rw c.in-CloseProducer.is refl

pub returns-in-CloseConsumer : goal.returns-in-CloseConsumer
unfolding close_consumer_values
returns-in-CloseConsumer c = rw c.in-CloseConsumer.is refl

pub returns-in-Producer : goal.returns-in-Producer
returns-in-Producer c = rw c.in-Producer.is (ap or_else c.made_by.ensures)

pub returns-in-Subscribe : goal.returns-in-Subscribe
returns-in-Subscribe c = rw c.in-Subscribe.is (ap or_else c.subscribed_by.ensures)

pub returns-in-Unsubscribe : goal.returns-in-Unsubscribe
unfolding unsubscribe_values
returns-in-Unsubscribe c = rw c.in-Unsubscribe.is c.asks_else.ensures

pub returns-in-Success : goal.returns-in-Success
unfolding success_values
returns-in-Success c = rw c.in-Success.is c.asks_else-in-Success.ensures

pub returns-in-Error : goal.returns-in-Error
unfolding error_values
returns-in-Error c = rw c.in-Error.is c.asks_else-in-Error.ensures

pub returns-in-ProducerSuccess : goal.returns-in-ProducerSuccess
unfolding producer_success_values
returns-in-ProducerSuccess c = rw c.in-ProducerSuccess.is c.asks_else-in-ProducerSuccess.ensures

pub returns-in-PartitionedTopicMetadataResponse : goal.returns-in-PartitionedTopicMetadataResponse
unfolding partition_metadata_response_values
returns-in-PartitionedTopicMetadataResponse c = rw c.in-PartitionedTopicMetadataResponse.is c.asks_else-in-PartitionedTopicMetadataResponse.ensures

pub returns-in-LookupTopicResponse : goal.returns-in-LookupTopicResponse
unfolding lookup_topic_response_values
returns-in-LookupTopicResponse c = rw c.in-LookupTopicResponse.is c.asks_else-in-LookupTopicResponse.ensures

pub returns-in-ConsumerStats : goal.returns-in-ConsumerStats
unfolding consumer_stats_values
returns-in-ConsumerStats c = rw c.in-ConsumerStats.is c.asks_else-in-ConsumerStats.ensures

pub returns-in-ConsumerStatsResponse : goal.returns-in-ConsumerStatsResponse
unfolding consumer_stats_response_values
returns-in-ConsumerStatsResponse c = rw c.in-ConsumerStatsResponse.is c.asks_else-in-ConsumerStatsResponse.ensures

pub returns-in-Seek : goal.returns-in-Seek
unfolding seek_values
returns-in-Seek c = rw c.in-Seek.is c.asks_else-in-Seek.ensures

pub returns-in-GetLastMessageId : goal.returns-in-GetLastMessageId
unfolding get_last_message_id_values
returns-in-GetLastMessageId c = rw c.in-GetLastMessageId.is c.asks_else-in-GetLastMessageId.ensures

pub returns-in-GetLastMessageIdResponse : goal.returns-in-GetLastMessageIdResponse
unfolding get_last_message_id_response_values
returns-in-GetLastMessageIdResponse c = rw c.in-GetLastMessageIdResponse.is c.asks_else-in-GetLastMessageIdResponse.ensures

pub returns-in-GetTopicsOfNamespace : goal.returns-in-GetTopicsOfNamespace
unfolding get_topics_of_namespace_values
returns-in-GetTopicsOfNamespace c = rw c.in-GetTopicsOfNamespace.is c.asks_else-in-GetTopicsOfNamespace.ensures

pub returns-in-GetTopicsOfNamespaceResponse : goal.returns-in-GetTopicsOfNamespaceResponse
unfolding get_topics_of_namespace_response_values
returns-in-GetTopicsOfNamespaceResponse c = rw c.in-GetTopicsOfNamespaceResponse.is c.asks_else-in-GetTopicsOfNamespaceResponse.ensures

pub returns-in-GetSchema : goal.returns-in-GetSchema
unfolding get_schema_values
returns-in-GetSchema c = rw c.in-GetSchema.is c.asks_else-in-GetSchema.ensures

pub returns-in-GetSchemaResponse : goal.returns-in-GetSchemaResponse
unfolding get_schema_response_values
returns-in-GetSchemaResponse c = rw c.in-GetSchemaResponse.is c.asks_else-in-GetSchemaResponse.ensures
