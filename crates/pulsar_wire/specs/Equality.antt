-- Serves the code's contracts alone: two messages are equal where the values of all their fields are.
use Rattle.std.specs.Prelude.{◌≡◌, ℕ, ℤ, Bool, true, false, ◌&&◌, List, [], ◌∷◌, Option, Some, None, string_bytes, string_eq, map}
use Rattle.std.proofs.Common.{refl, ap, eqb, int_eq, String, Vec, Global}
use Rattle.std.specs.Bool.{Decides, beq}
use Rattle.std.specs.Option.{option_eq, option_map}
use Rattle.std.specs.Cmp.Lexicographic.{pointwise}
use Rattle.std.proofs.lemmas.Bool.Decides.{Decides-eqb, Decides-int_eq}
use Rattle.std.proofs.lemmas.Slice.Eq.{slice_eq-Decides, bytes_eq-Decides}
use Rattle.pulsar_wire.specs.Row.{◌&◌}
use Rattle.pulsar_wire.specs.Views.{message_id_values, key_value_values, encryption_keys_values, message_metadata_values, single_message_metadata_values, schema_values, get_schema_values, get_schema_response_values, auth_data_values, auth_challenge_values, auth_response_values, connect_values, connected_values, ping_values, pong_values, success_values, error_values, partition_metadata_values, partition_metadata_response_values, lookup_topic_values, lookup_topic_response_values, producer_values, producer_success_values, send_values, send_receipt_values, send_error_values, close_producer_values, subscribe_values, unsubscribe_values, close_consumer_values, active_consumer_change_values, message_values, ack_values, flow_values, redeliver_unacknowledged_messages_values, reached_end_of_topic_values, seek_values, get_last_message_id_values, get_last_message_id_response_values, consumer_stats_values, consumer_stats_response_values, get_topics_of_namespace_values, get_topics_of_namespace_response_values}
use Rattle.pulsar_wire.specs.declared.commands.ids.MessageIdData.{MessageIdData}
use Rattle.pulsar_wire.specs.contracts.commands.ids.MessageIdDataPartialEq.TheImpl as message_id
use Rattle.pulsar_wire.specs.declared.commands.metadata.KeyValue.{KeyValue}
use Rattle.pulsar_wire.specs.contracts.commands.metadata.KeyValuePartialEq.TheImpl as key_value
use Rattle.pulsar_wire.specs.declared.commands.metadata.EncryptionKeys.{EncryptionKeys}
use Rattle.pulsar_wire.specs.contracts.commands.metadata.EncryptionKeysPartialEq.TheImpl as encryption_keys
use Rattle.pulsar_wire.specs.declared.commands.metadata.MessageMetadata.{MessageMetadata}
use Rattle.pulsar_wire.specs.contracts.commands.metadata.MessageMetadataPartialEq.TheImpl as message_metadata
use Rattle.pulsar_wire.specs.declared.commands.metadata.SingleMessageMetadata.{SingleMessageMetadata}
use Rattle.pulsar_wire.specs.contracts.commands.metadata.SingleMessageMetadataPartialEq.TheImpl as single_message_metadata
use Rattle.pulsar_wire.specs.declared.commands.schema.Schema.{Schema}
use Rattle.pulsar_wire.specs.contracts.commands.schema.SchemaPartialEq.TheImpl as schema
use Rattle.pulsar_wire.specs.declared.commands.schema.CommandGetSchema.{CommandGetSchema}
use Rattle.pulsar_wire.specs.contracts.commands.schema.CommandGetSchemaPartialEq.TheImpl as get_schema
use Rattle.pulsar_wire.specs.declared.commands.schema.CommandGetSchemaResponse.{CommandGetSchemaResponse}
use Rattle.pulsar_wire.specs.contracts.commands.schema.CommandGetSchemaResponsePartialEq.TheImpl as get_schema_response
use Rattle.pulsar_wire.specs.declared.commands.auth.AuthData.{AuthData}
use Rattle.pulsar_wire.specs.contracts.commands.auth.AuthDataPartialEq.TheImpl as auth_data
use Rattle.pulsar_wire.specs.declared.commands.auth.CommandAuthChallenge.{CommandAuthChallenge}
use Rattle.pulsar_wire.specs.contracts.commands.auth.CommandAuthChallengePartialEq.TheImpl as auth_challenge
use Rattle.pulsar_wire.specs.declared.commands.auth.CommandAuthResponse.{CommandAuthResponse}
use Rattle.pulsar_wire.specs.contracts.commands.auth.CommandAuthResponsePartialEq.TheImpl as auth_response
use Rattle.pulsar_wire.specs.declared.commands.connection.CommandConnect.{CommandConnect}
use Rattle.pulsar_wire.specs.contracts.commands.connection.CommandConnectPartialEq.TheImpl as connect
use Rattle.pulsar_wire.specs.declared.commands.connection.CommandConnected.{CommandConnected}
use Rattle.pulsar_wire.specs.contracts.commands.connection.CommandConnectedPartialEq.TheImpl as connected
use Rattle.pulsar_wire.specs.declared.commands.connection.CommandPing.{CommandPing}
use Rattle.pulsar_wire.specs.contracts.commands.connection.CommandPingPartialEq.TheImpl as ping
use Rattle.pulsar_wire.specs.declared.commands.connection.CommandPong.{CommandPong}
use Rattle.pulsar_wire.specs.contracts.commands.connection.CommandPongPartialEq.TheImpl as pong
use Rattle.pulsar_wire.specs.declared.commands.connection.CommandSuccess.{CommandSuccess}
use Rattle.pulsar_wire.specs.contracts.commands.connection.CommandSuccessPartialEq.TheImpl as success
use Rattle.pulsar_wire.specs.declared.commands.connection.CommandError.{CommandError}
use Rattle.pulsar_wire.specs.contracts.commands.connection.CommandErrorPartialEq.TheImpl as error
use Rattle.pulsar_wire.specs.declared.commands.lookup.CommandPartitionedTopicMetadata.{CommandPartitionedTopicMetadata}
use Rattle.pulsar_wire.specs.contracts.commands.lookup.CommandPartitionedTopicMetadataPartialEq.TheImpl as partition_metadata
use Rattle.pulsar_wire.specs.declared.commands.lookup.CommandPartitionedTopicMetadataResponse.{CommandPartitionedTopicMetadataResponse}
use Rattle.pulsar_wire.specs.contracts.commands.lookup.CommandPartitionedTopicMetadataResponsePartialEq.TheImpl as partition_metadata_response
use Rattle.pulsar_wire.specs.declared.commands.lookup.CommandLookupTopic.{CommandLookupTopic}
use Rattle.pulsar_wire.specs.contracts.commands.lookup.CommandLookupTopicPartialEq.TheImpl as lookup_topic
use Rattle.pulsar_wire.specs.declared.commands.lookup.CommandLookupTopicResponse.{CommandLookupTopicResponse}
use Rattle.pulsar_wire.specs.contracts.commands.lookup.CommandLookupTopicResponsePartialEq.TheImpl as lookup_topic_response
use Rattle.pulsar_wire.specs.declared.commands.producer.CommandProducer.{CommandProducer}
use Rattle.pulsar_wire.specs.contracts.commands.producer.CommandProducerPartialEq.TheImpl as producer
use Rattle.pulsar_wire.specs.declared.commands.producer.CommandProducerSuccess.{CommandProducerSuccess}
use Rattle.pulsar_wire.specs.contracts.commands.producer.CommandProducerSuccessPartialEq.TheImpl as producer_success
use Rattle.pulsar_wire.specs.declared.commands.producer.CommandSend.{CommandSend}
use Rattle.pulsar_wire.specs.contracts.commands.producer.CommandSendPartialEq.TheImpl as send
use Rattle.pulsar_wire.specs.declared.commands.producer.CommandSendReceipt.{CommandSendReceipt}
use Rattle.pulsar_wire.specs.contracts.commands.producer.CommandSendReceiptPartialEq.TheImpl as send_receipt
use Rattle.pulsar_wire.specs.declared.commands.producer.CommandSendError.{CommandSendError}
use Rattle.pulsar_wire.specs.contracts.commands.producer.CommandSendErrorPartialEq.TheImpl as send_error
use Rattle.pulsar_wire.specs.declared.commands.producer.CommandCloseProducer.{CommandCloseProducer}
use Rattle.pulsar_wire.specs.contracts.commands.producer.CommandCloseProducerPartialEq.TheImpl as close_producer
use Rattle.pulsar_wire.specs.declared.commands.consumer.subscription.CommandSubscribe.{CommandSubscribe}
use Rattle.pulsar_wire.specs.contracts.commands.consumer.subscription.CommandSubscribePartialEq.TheImpl as subscribe
use Rattle.pulsar_wire.specs.declared.commands.consumer.subscription.CommandUnsubscribe.{CommandUnsubscribe}
use Rattle.pulsar_wire.specs.contracts.commands.consumer.subscription.CommandUnsubscribePartialEq.TheImpl as unsubscribe
use Rattle.pulsar_wire.specs.declared.commands.consumer.subscription.CommandCloseConsumer.{CommandCloseConsumer}
use Rattle.pulsar_wire.specs.contracts.commands.consumer.subscription.CommandCloseConsumerPartialEq.TheImpl as close_consumer
use Rattle.pulsar_wire.specs.declared.commands.consumer.subscription.CommandActiveConsumerChange.{CommandActiveConsumerChange}
use Rattle.pulsar_wire.specs.contracts.commands.consumer.subscription.CommandActiveConsumerChangePartialEq.TheImpl as active_consumer_change
use Rattle.pulsar_wire.specs.declared.commands.consumer.delivery.CommandMessage.{CommandMessage}
use Rattle.pulsar_wire.specs.contracts.commands.consumer.delivery.CommandMessagePartialEq.TheImpl as message
use Rattle.pulsar_wire.specs.declared.commands.consumer.delivery.CommandAck.{CommandAck}
use Rattle.pulsar_wire.specs.contracts.commands.consumer.delivery.CommandAckPartialEq.TheImpl as ack
use Rattle.pulsar_wire.specs.declared.commands.consumer.delivery.CommandFlow.{CommandFlow}
use Rattle.pulsar_wire.specs.contracts.commands.consumer.delivery.CommandFlowPartialEq.TheImpl as flow
use Rattle.pulsar_wire.specs.declared.commands.consumer.delivery.CommandRedeliverUnacknowledgedMessages.{CommandRedeliverUnacknowledgedMessages}
use Rattle.pulsar_wire.specs.contracts.commands.consumer.delivery.CommandRedeliverUnacknowledgedMessagesPartialEq.TheImpl as redeliver_unacknowledged_messages
use Rattle.pulsar_wire.specs.declared.commands.consumer.delivery.CommandReachedEndOfTopic.{CommandReachedEndOfTopic}
use Rattle.pulsar_wire.specs.contracts.commands.consumer.delivery.CommandReachedEndOfTopicPartialEq.TheImpl as reached_end_of_topic
use Rattle.pulsar_wire.specs.declared.commands.consumer.position.CommandSeek.{CommandSeek}
use Rattle.pulsar_wire.specs.contracts.commands.consumer.position.CommandSeekPartialEq.TheImpl as seek
use Rattle.pulsar_wire.specs.declared.commands.consumer.position.CommandGetLastMessageId.{CommandGetLastMessageId}
use Rattle.pulsar_wire.specs.contracts.commands.consumer.position.CommandGetLastMessageIdPartialEq.TheImpl as get_last_message_id
use Rattle.pulsar_wire.specs.declared.commands.consumer.position.CommandGetLastMessageIdResponse.{CommandGetLastMessageIdResponse}
use Rattle.pulsar_wire.specs.contracts.commands.consumer.position.CommandGetLastMessageIdResponsePartialEq.TheImpl as get_last_message_id_response
use Rattle.pulsar_wire.specs.declared.commands.consumer.position.CommandConsumerStats.{CommandConsumerStats}
use Rattle.pulsar_wire.specs.contracts.commands.consumer.position.CommandConsumerStatsPartialEq.TheImpl as consumer_stats
use Rattle.pulsar_wire.specs.declared.commands.consumer.position.CommandConsumerStatsResponse.{CommandConsumerStatsResponse}
use Rattle.pulsar_wire.specs.contracts.commands.consumer.position.CommandConsumerStatsResponsePartialEq.TheImpl as consumer_stats_response
use Rattle.pulsar_wire.specs.declared.commands.topics.CommandGetTopicsOfNamespace.{CommandGetTopicsOfNamespace}
use Rattle.pulsar_wire.specs.contracts.commands.topics.CommandGetTopicsOfNamespacePartialEq.TheImpl as get_topics_of_namespace
use Rattle.pulsar_wire.specs.declared.commands.topics.CommandGetTopicsOfNamespaceResponse.{CommandGetTopicsOfNamespaceResponse}
use Rattle.pulsar_wire.specs.contracts.commands.topics.CommandGetTopicsOfNamespaceResponsePartialEq.TheImpl as get_topics_of_namespace_response

-- a field and the others: each is equal where its values are
module _ {V W : Type 0} {x y : V} {v w : W} where
  both : (e f : Bool) → Decides e (x ≡ y) → Decides f (v ≡ w) → Decides (e && f) ((x & v) ≡ (y & w))
  both true f d k = (λ e i. (d.0 refl i, k.0 e i), λ h. k.1 (ap (λ p. p.1) h))
  both false f d k = (λ e. absurd cc, λ h. absurd (let no = d.1 (ap (λ p. p.0) h) in cc))

  infixr 3 ◌also◌
  ◌also◌ : {e f : Bool} → Decides e (x ≡ y) → Decides f (v ≡ w) → Decides (e && f) ((x & v) ≡ (y & w))
  ◌also◌ {e} {f} d k = both e f d k

-- the last field
last : {V : Type 0} {x y : V} {e : Bool} → Decides e (x ≡ y) → Decides e ((x & tt {0}) ≡ (y & tt {0}))
last d = (λ e i. (d.0 e i, tt {0}), λ h. d.1 (ap (λ p. p.0) h))

-- a message with no field
nothing : Decides true (tt {0} ≡ tt {0})
nothing = (λ e. refl, λ e. refl)

-- a value that may be absent, and a list of values
module _ {X V : Type 0} (E : X → X → Bool) (view : X → V) (each : (x y : X) → Decides (E x y) (view x ≡ view y)) where
  abbrev held : V → Option V → V
  held d None = d
  held d (Some x) = x

  pub optional : (o p : Option X) → Decides (option_eq E o p) (option_map view o ≡ option_map view p)
  optional None None = (λ e. refl, λ e. refl)
  optional None (Some y) = (λ e. absurd cc, λ e. absurd cc)
  optional (Some x) None = (λ e. absurd cc, λ e. absurd cc)
  optional (Some x) (Some y) = let d = each x y in (λ e. ap (λ v. Some v) (d.0 e), λ e. d.1 (ap (held (view x)) e))

  abbrev heads : V → List V → V
  heads d [] = d
  heads d (v ∷ vs) = v

  abbrev tails : List V → List V
  tails [] = []
  tails (v ∷ vs) = vs

  longer : (x y : V) (xs ys : List V) (e f : Bool) → Decides e (x ≡ y) → Decides f (xs ≡ ys) → Decides (e && f) (x ∷ xs ≡ y ∷ ys)
  longer x y xs ys true f d k = (λ e i. d.0 refl i ∷ k.0 e i, λ h. k.1 (ap tails h))
  longer x y xs ys false f d k = (λ e. absurd cc, λ h. absurd (let no = d.1 (ap (heads x) h) in cc))

  listed : (xs ys : List X) → Decides (pointwise E xs ys) (map view xs ≡ map view ys)
  listed [] [] = (λ e. refl, λ e. refl)
  listed [] (y ∷ ys) = (λ e. absurd cc, λ e. absurd cc)
  listed (x ∷ xs) [] = (λ e. absurd cc, λ e. absurd cc)
  listed (x ∷ xs) (y ∷ ys) = longer (view x) (view y) (map view xs) (map view ys) (E x y) (pointwise E xs ys) (each x y) (listed xs ys)

-- a value that may be absent, and is its own content
module _ {X : Type 0} (E : X → X → Bool) (each : (x y : X) → Decides (E x y) (x ≡ y)) where
  abbrev plain : X → Option X → X
  plain d None = d
  plain d (Some x) = x

  optional_plain : (o p : Option X) → Decides (option_eq E o p) (o ≡ p)
  optional_plain None None = (λ e. refl, λ e. refl)
  optional_plain None (Some y) = (λ e. absurd cc, λ e. absurd cc)
  optional_plain (Some x) None = (λ e. absurd cc, λ e. absurd cc)
  optional_plain (Some x) (Some y) = let d = each x y in (λ e. ap (λ v. Some v) (d.0 e), λ e. d.1 (ap (plain x) e))

abbrev Text : Type 0
Text = String Global

abbrev Bytes : Type 0
Bytes = Vec ℕ Global

number : (x y : ℕ) → Decides (eqb x y) (x ≡ y)
number = Decides-eqb

pub signed : (x y : ℤ) → Decides (int_eq x y) (x ≡ y)
signed = Decides-int_eq

text : (x y : Text) → Decides (string_eq x y) (string_bytes x ≡ string_bytes y)
text x y = bytes_eq-Decides (string_bytes x) (string_bytes y)

bytes : (x y : Bytes) → Decides (pointwise eqb x.items y.items) (x.items ≡ y.items)
bytes x y = bytes_eq-Decides x.items y.items

signed_numbers : (xs ys : List ℤ) → Decides (pointwise int_eq xs ys) (xs ≡ ys)
signed_numbers xs ys = slice_eq-Decides Decides-int_eq xs ys (pointwise int_eq xs ys) refl

optional_number : (o p : Option ℕ) → Decides (option_eq eqb o p) (o ≡ p)
optional_number = optional_plain eqb number

optional_signed : (o p : Option ℤ) → Decides (option_eq int_eq o p) (o ≡ p)
optional_signed = optional_plain int_eq signed

flag : (x y : Bool) → Decides (beq x y) (x ≡ y)
flag true true = (λ e. refl, λ e. refl)
flag true false = (λ e. absurd cc, λ e. absurd cc)
flag false true = (λ e. absurd cc, λ e. absurd cc)
flag false false = (λ e. refl, λ e. refl)

optional_flag : (o p : Option Bool) → Decides (option_eq beq o p) (o ≡ p)
optional_flag = optional_plain beq flag

optional_text : (o p : Option Text) → Decides (option_eq string_eq o p) (option_map string_bytes o ≡ option_map string_bytes p)
optional_text = optional string_eq string_bytes text

optional_bytes : (o p : Option Bytes) → Decides (option_eq (λ x y. pointwise eqb x.items y.items) o p) (option_map (λ v. v.items) o ≡ option_map (λ v. v.items) p)
optional_bytes = optional (λ x y. pointwise eqb x.items y.items) (λ v. v.items) bytes

texts : (xs ys : List Text) → Decides (pointwise string_eq xs ys) (map string_bytes xs ≡ map string_bytes ys)
texts = listed string_eq string_bytes text

pub message_id_equality : (a b : MessageIdData) → Decides (message_id.ghosts.eq a b) (message_id_values a ≡ message_id_values b)
unfolding message_id_values
message_id_equality a b =
    number a.ledger_id b.ledger_id also number a.entry_id b.entry_id also optional_signed a.partition b.partition
    also optional_signed a.batch_index b.batch_index also signed_numbers a.ack_set.items b.ack_set.items
    also last (optional_signed a.batch_size b.batch_size)

pub key_value_equality : (a b : KeyValue) → Decides (key_value.ghosts.eq a b) (key_value_values a ≡ key_value_values b)
unfolding key_value_values
key_value_equality a b = text a.key b.key also last (text a.value b.value)

pub encryption_keys_equality : (a b : EncryptionKeys) → Decides (encryption_keys.ghosts.eq a b) (encryption_keys_values a ≡ encryption_keys_values b)
unfolding encryption_keys_values
encryption_keys_equality a b =
    text a.key b.key also bytes a.value b.value
    also last (listed key_value.ghosts.eq key_value_values key_value_equality a.metadata.items b.metadata.items)

pub message_metadata_equality : (a b : MessageMetadata) → Decides (message_metadata.ghosts.eq a b) (message_metadata_values a ≡ message_metadata_values b)
unfolding message_metadata_values
message_metadata_equality a b =
    text a.producer_name b.producer_name also number a.sequence_id b.sequence_id also number a.publish_time b.publish_time
    also listed key_value.ghosts.eq key_value_values key_value_equality a.properties.items b.properties.items
    also optional_text a.replicated_from b.replicated_from also optional_text a.partition_key b.partition_key
    also texts a.replicate_to.items b.replicate_to.items also optional_signed a.compression b.compression
    also optional_number a.uncompressed_size b.uncompressed_size
    also optional_signed a.num_messages_in_batch b.num_messages_in_batch also optional_number a.event_time b.event_time
    also listed encryption_keys.ghosts.eq encryption_keys_values encryption_keys_equality a.encryption_keys.items b.encryption_keys.items
    also optional_text a.encryption_algo b.encryption_algo also optional_bytes a.encryption_param b.encryption_param
    also optional_bytes a.schema_version b.schema_version also optional_bytes a.ordering_key b.ordering_key
    also last (optional_signed a.deliver_at_time b.deliver_at_time)

pub single_message_metadata_equality : (a b : SingleMessageMetadata) → Decides (single_message_metadata.ghosts.eq a b) (single_message_metadata_values a ≡ single_message_metadata_values b)
unfolding single_message_metadata_values
single_message_metadata_equality a b =
    listed key_value.ghosts.eq key_value_values key_value_equality a.properties.items b.properties.items
    also optional_text a.partition_key b.partition_key also signed a.payload_size b.payload_size
    also optional_number a.event_time b.event_time also last (optional_bytes a.ordering_key b.ordering_key)

pub schema_equality : (a b : Schema) → Decides (schema.ghosts.eq a b) (schema_values a ≡ schema_values b)
unfolding schema_values
schema_equality a b =
    text a.name b.name also bytes a.schema_data b.schema_data also signed a.kind b.kind
    also last (listed key_value.ghosts.eq key_value_values key_value_equality a.properties.items b.properties.items)

pub get_schema_equality : (a b : CommandGetSchema) → Decides (get_schema.ghosts.eq a b) (get_schema_values a ≡ get_schema_values b)
unfolding get_schema_values
get_schema_equality a b =
    number a.request_id b.request_id also text a.topic b.topic also last (optional_bytes a.schema_version b.schema_version)

pub get_schema_response_equality : (a b : CommandGetSchemaResponse) → Decides (get_schema_response.ghosts.eq a b) (get_schema_response_values a ≡ get_schema_response_values b)
unfolding get_schema_response_values
get_schema_response_equality a b =
    number a.request_id b.request_id also optional_signed a.error_code b.error_code
    also optional_text a.error_message b.error_message
    also optional schema.ghosts.eq schema_values schema_equality a.schema b.schema
    also last (optional_bytes a.schema_version b.schema_version)

pub auth_data_equality : (a b : AuthData) → Decides (auth_data.ghosts.eq a b) (auth_data_values a ≡ auth_data_values b)
unfolding auth_data_values
auth_data_equality a b = optional_text a.auth_method_name b.auth_method_name also last (optional_bytes a.auth_data b.auth_data)

pub auth_challenge_equality : (a b : CommandAuthChallenge) → Decides (auth_challenge.ghosts.eq a b) (auth_challenge_values a ≡ auth_challenge_values b)
unfolding auth_challenge_values
auth_challenge_equality a b =
    optional_text a.server_version b.server_version
    also optional auth_data.ghosts.eq auth_data_values auth_data_equality a.challenge b.challenge
    also last (optional_signed a.protocol_version b.protocol_version)

pub auth_response_equality : (a b : CommandAuthResponse) → Decides (auth_response.ghosts.eq a b) (auth_response_values a ≡ auth_response_values b)
unfolding auth_response_values
auth_response_equality a b =
    optional_text a.client_version b.client_version
    also optional auth_data.ghosts.eq auth_data_values auth_data_equality a.response b.response
    also last (optional_signed a.protocol_version b.protocol_version)

pub connect_equality : (a b : CommandConnect) → Decides (connect.ghosts.eq a b) (connect_values a ≡ connect_values b)
unfolding connect_values
connect_equality a b =
    text a.client_version b.client_version also optional_bytes a.auth_data b.auth_data
    also optional_signed a.protocol_version b.protocol_version also optional_text a.auth_method_name b.auth_method_name
    also last (optional_text a.proxy_to_broker_url b.proxy_to_broker_url)

pub connected_equality : (a b : CommandConnected) → Decides (connected.ghosts.eq a b) (connected_values a ≡ connected_values b)
unfolding connected_values
connected_equality a b =
    text a.server_version b.server_version also optional_signed a.protocol_version b.protocol_version
    also last (optional_signed a.max_message_size b.max_message_size)

pub ping_equality : (a b : CommandPing) → Decides (ping.ghosts.eq a b) (ping_values a ≡ ping_values b)
unfolding ping_values
ping_equality a b = nothing

pub pong_equality : (a b : CommandPong) → Decides (pong.ghosts.eq a b) (pong_values a ≡ pong_values b)
unfolding pong_values
pong_equality a b = nothing

pub success_equality : (a b : CommandSuccess) → Decides (success.ghosts.eq a b) (success_values a ≡ success_values b)
unfolding success_values
success_equality a b =
    number a.request_id b.request_id also last (optional schema.ghosts.eq schema_values schema_equality a.schema b.schema)

pub error_equality : (a b : CommandError) → Decides (error.ghosts.eq a b) (error_values a ≡ error_values b)
unfolding error_values
error_equality a b = number a.request_id b.request_id also signed a.error b.error also last (text a.message b.message)

pub partition_metadata_equality : (a b : CommandPartitionedTopicMetadata) → Decides (partition_metadata.ghosts.eq a b) (partition_metadata_values a ≡ partition_metadata_values b)
unfolding partition_metadata_values
partition_metadata_equality a b = text a.topic b.topic also last (number a.request_id b.request_id)

pub partition_metadata_response_equality : (a b : CommandPartitionedTopicMetadataResponse) → Decides (partition_metadata_response.ghosts.eq a b) (partition_metadata_response_values a ≡ partition_metadata_response_values b)
unfolding partition_metadata_response_values
partition_metadata_response_equality a b =
    optional_number a.partitions b.partitions also number a.request_id b.request_id also optional_signed a.response b.response
    also optional_signed a.error b.error also last (optional_text a.message b.message)

pub lookup_topic_equality : (a b : CommandLookupTopic) → Decides (lookup_topic.ghosts.eq a b) (lookup_topic_values a ≡ lookup_topic_values b)
unfolding lookup_topic_values
lookup_topic_equality a b =
    text a.topic b.topic also number a.request_id b.request_id also last (optional_flag a.authoritative b.authoritative)

pub lookup_topic_response_equality : (a b : CommandLookupTopicResponse) → Decides (lookup_topic_response.ghosts.eq a b) (lookup_topic_response_values a ≡ lookup_topic_response_values b)
unfolding lookup_topic_response_values
lookup_topic_response_equality a b =
    optional_text a.broker_service_url b.broker_service_url also optional_text a.broker_service_url_tls b.broker_service_url_tls
    also optional_signed a.response b.response also number a.request_id b.request_id
    also optional_flag a.authoritative b.authoritative also optional_signed a.error b.error also optional_text a.message b.message
    also last (optional_flag a.proxy_through_service_url b.proxy_through_service_url)

pub producer_equality : (a b : CommandProducer) → Decides (producer.ghosts.eq a b) (producer_values a ≡ producer_values b)
unfolding producer_values
producer_equality a b =
    text a.topic b.topic also number a.producer_id b.producer_id also number a.request_id b.request_id
    also optional_text a.producer_name b.producer_name also optional_flag a.encrypted b.encrypted
    also listed key_value.ghosts.eq key_value_values key_value_equality a.metadata.items b.metadata.items
    also optional schema.ghosts.eq schema_values schema_equality a.schema b.schema
    also last (optional_signed a.producer_access_mode b.producer_access_mode)

pub producer_success_equality : (a b : CommandProducerSuccess) → Decides (producer_success.ghosts.eq a b) (producer_success_values a ≡ producer_success_values b)
unfolding producer_success_values
producer_success_equality a b =
    number a.request_id b.request_id also text a.producer_name b.producer_name
    also optional_signed a.last_sequence_id b.last_sequence_id also optional_bytes a.schema_version b.schema_version
    also optional_number a.topic_epoch b.topic_epoch also last (optional_flag a.producer_ready b.producer_ready)

pub send_equality : (a b : CommandSend) → Decides (send.ghosts.eq a b) (send_values a ≡ send_values b)
unfolding send_values
send_equality a b =
    number a.producer_id b.producer_id also number a.sequence_id b.sequence_id
    also last (optional_signed a.num_messages b.num_messages)

pub send_receipt_equality : (a b : CommandSendReceipt) → Decides (send_receipt.ghosts.eq a b) (send_receipt_values a ≡ send_receipt_values b)
unfolding send_receipt_values
send_receipt_equality a b =
    number a.producer_id b.producer_id also number a.sequence_id b.sequence_id
    also optional message_id.ghosts.eq message_id_values message_id_equality a.message_id b.message_id
    also last (optional_number a.highest_sequence_id b.highest_sequence_id)

pub send_error_equality : (a b : CommandSendError) → Decides (send_error.ghosts.eq a b) (send_error_values a ≡ send_error_values b)
unfolding send_error_values
send_error_equality a b =
    number a.producer_id b.producer_id also number a.sequence_id b.sequence_id also signed a.error b.error
    also last (text a.message b.message)

pub close_producer_equality : (a b : CommandCloseProducer) → Decides (close_producer.ghosts.eq a b) (close_producer_values a ≡ close_producer_values b)
unfolding close_producer_values
close_producer_equality a b = number a.producer_id b.producer_id also last (number a.request_id b.request_id)

pub subscribe_equality : (a b : CommandSubscribe) → Decides (subscribe.ghosts.eq a b) (subscribe_values a ≡ subscribe_values b)
unfolding subscribe_values
subscribe_equality a b =
    text a.topic b.topic also text a.subscription b.subscription also signed a.sub_type b.sub_type
    also number a.consumer_id b.consumer_id also number a.request_id b.request_id
    also optional_text a.consumer_name b.consumer_name also optional_signed a.priority_level b.priority_level
    also optional_flag a.durable b.durable
    also optional message_id.ghosts.eq message_id_values message_id_equality a.start_message_id b.start_message_id
    also listed key_value.ghosts.eq key_value_values key_value_equality a.metadata.items b.metadata.items
    also optional_flag a.read_compacted b.read_compacted
    also optional schema.ghosts.eq schema_values schema_equality a.schema b.schema
    also last (optional_signed a.initial_position b.initial_position)

pub unsubscribe_equality : (a b : CommandUnsubscribe) → Decides (unsubscribe.ghosts.eq a b) (unsubscribe_values a ≡ unsubscribe_values b)
unfolding unsubscribe_values
unsubscribe_equality a b = number a.consumer_id b.consumer_id also last (number a.request_id b.request_id)

pub close_consumer_equality : (a b : CommandCloseConsumer) → Decides (close_consumer.ghosts.eq a b) (close_consumer_values a ≡ close_consumer_values b)
unfolding close_consumer_values
close_consumer_equality a b = number a.consumer_id b.consumer_id also last (number a.request_id b.request_id)

pub active_consumer_change_equality : (a b : CommandActiveConsumerChange) → Decides (active_consumer_change.ghosts.eq a b) (active_consumer_change_values a ≡ active_consumer_change_values b)
unfolding active_consumer_change_values
active_consumer_change_equality a b = number a.consumer_id b.consumer_id also last (optional_flag a.is_active b.is_active)

pub message_equality : (a b : CommandMessage) → Decides (message.ghosts.eq a b) (message_values a ≡ message_values b)
unfolding message_values
message_equality a b =
    number a.consumer_id b.consumer_id also message_id_equality a.message_id b.message_id
    also optional_number a.redelivery_count b.redelivery_count also last (signed_numbers a.ack_set.items b.ack_set.items)

pub ack_equality : (a b : CommandAck) → Decides (ack.ghosts.eq a b) (ack_values a ≡ ack_values b)
unfolding ack_values
ack_equality a b =
    number a.consumer_id b.consumer_id also signed a.ack_type b.ack_type
    also last (listed message_id.ghosts.eq message_id_values message_id_equality a.message_id.items b.message_id.items)

pub flow_equality : (a b : CommandFlow) → Decides (flow.ghosts.eq a b) (flow_values a ≡ flow_values b)
unfolding flow_values
flow_equality a b = number a.consumer_id b.consumer_id also last (number a.message_permits b.message_permits)

pub redeliver_unacknowledged_messages_equality : (a b : CommandRedeliverUnacknowledgedMessages) → Decides (redeliver_unacknowledged_messages.ghosts.eq a b) (redeliver_unacknowledged_messages_values a ≡ redeliver_unacknowledged_messages_values b)
unfolding redeliver_unacknowledged_messages_values
redeliver_unacknowledged_messages_equality a b =
    number a.consumer_id b.consumer_id
    also last (listed message_id.ghosts.eq message_id_values message_id_equality a.message_ids.items b.message_ids.items)

pub reached_end_of_topic_equality : (a b : CommandReachedEndOfTopic) → Decides (reached_end_of_topic.ghosts.eq a b) (reached_end_of_topic_values a ≡ reached_end_of_topic_values b)
unfolding reached_end_of_topic_values
reached_end_of_topic_equality a b = last (number a.consumer_id b.consumer_id)

pub seek_equality : (a b : CommandSeek) → Decides (seek.ghosts.eq a b) (seek_values a ≡ seek_values b)
unfolding seek_values
seek_equality a b =
    number a.consumer_id b.consumer_id also number a.request_id b.request_id
    also optional message_id.ghosts.eq message_id_values message_id_equality a.message_id b.message_id
    also last (optional_number a.message_publish_time b.message_publish_time)

pub get_last_message_id_equality : (a b : CommandGetLastMessageId) → Decides (get_last_message_id.ghosts.eq a b) (get_last_message_id_values a ≡ get_last_message_id_values b)
unfolding get_last_message_id_values
get_last_message_id_equality a b = number a.consumer_id b.consumer_id also last (number a.request_id b.request_id)

pub get_last_message_id_response_equality : (a b : CommandGetLastMessageIdResponse) → Decides (get_last_message_id_response.ghosts.eq a b) (get_last_message_id_response_values a ≡ get_last_message_id_response_values b)
unfolding get_last_message_id_response_values
get_last_message_id_response_equality a b =
    message_id_equality a.last_message_id b.last_message_id also last (number a.request_id b.request_id)

pub consumer_stats_equality : (a b : CommandConsumerStats) → Decides (consumer_stats.ghosts.eq a b) (consumer_stats_values a ≡ consumer_stats_values b)
unfolding consumer_stats_values
consumer_stats_equality a b = number a.request_id b.request_id also last (number a.consumer_id b.consumer_id)

pub consumer_stats_response_equality : (a b : CommandConsumerStatsResponse) → Decides (consumer_stats_response.ghosts.eq a b) (consumer_stats_response_values a ≡ consumer_stats_response_values b)
unfolding consumer_stats_response_values
consumer_stats_response_equality a b =
    number a.request_id b.request_id also optional_signed a.error_code b.error_code
    also optional_text a.error_message b.error_message also optional_text a.consumer_name b.consumer_name
    also optional_number a.available_permits b.available_permits also optional_number a.unacked_messages b.unacked_messages
    also optional_flag a.blocked_consumer_on_unacked_msgs b.blocked_consumer_on_unacked_msgs
    also optional_text a.address b.address also optional_text a.connected_since b.connected_since also optional_text a.kind b.kind
    also last (optional_number a.msg_backlog b.msg_backlog)

pub get_topics_of_namespace_equality : (a b : CommandGetTopicsOfNamespace) → Decides (get_topics_of_namespace.ghosts.eq a b) (get_topics_of_namespace_values a ≡ get_topics_of_namespace_values b)
unfolding get_topics_of_namespace_values
get_topics_of_namespace_equality a b =
    number a.request_id b.request_id also text a.namespace b.namespace also last (optional_signed a.mode b.mode)

pub get_topics_of_namespace_response_equality : (a b : CommandGetTopicsOfNamespaceResponse) → Decides (get_topics_of_namespace_response.ghosts.eq a b) (get_topics_of_namespace_response_values a ≡ get_topics_of_namespace_response_values b)
unfolding get_topics_of_namespace_response_values
get_topics_of_namespace_response_equality a b = number a.request_id b.request_id also last (texts a.topics.items b.topics.items)
