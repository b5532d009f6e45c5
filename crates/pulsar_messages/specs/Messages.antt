-- The messages that a client writes.  (Pulsar binary protocol, Simple commands; PulsarApi.proto)
use Rattle.std.specs.Prelude.{ℕ, ℤ, pos, Bool, false, List, map, Option, Some, None, codes, unwrap_or, if◌then◌else◌}
use Rattle.std.specs.Option.{option_map}
use Rattle.pulsar_wire.specs.Row.{Row, Values, ◌&◌}
use Rattle.pulsar_wire.specs.Rows as rows
use Rattle.pulsar_wire.specs.Command.{BodyValues, CommandValues, with_kind}
use Rattle.pulsar_wire.specs.Enumerations.{initial_position_number, mode_number, sub_type_number}
use Rattle.pulsar_wire.specs.Views.{message_metadata_values}
use Rattle.pulsar_messages.specs.declared.messages.MessageParts.{MessageParts}
use Rattle.pulsar_messages.specs.Content.{AuthenticationValues, ConsumerOptionsValues, ProducerMessageValues, ProducerOptionsValues, Property}
use Rattle.pulsar_messages.specs.Words.{Words, SendPing, SendPong, AuthChallenge, LookupTopic, LookupPartitionedTopic, GetTopicsOfNamespace, GetSchema, CreateProducer, Send, CloseProducer, Subscribe, SendFlow, SendAck, SendRedeliver, Seek, GetLastMessageId, GetConsumerStats, Unsubscribe, CloseConsumer, CloseConsumerUnawaited}

-- the name and version that the client tells
abbrev pub client_version : List ℕ
client_version = codes "pulsar-rs-v6.7.2"

-- the version of the protocol that it speaks  (PulsarApi.proto, ProtocolVersion)
abbrev pub protocol_version : ℤ
protocol_version = pos 12

-- a property  (PulsarApi.proto, KeyValue)
abbrev pub property_values : Property → Values rows.key_value
property_values p = p.0 & p.1 & tt

abbrev pub properties_values : List Property → List (Values rows.key_value)
properties_values properties = map property_values properties

-- a credential  (PulsarApi.proto, AuthData)
abbrev pub auth_data_of : AuthenticationValues → Values rows.auth_data
auth_data_of a = Some a.name & Some a.auth_data & tt

-- ---- commands

-- what a client says first, with its credential and the address behind a proxy where there are such
-- (PulsarApi.proto, CommandConnect)
abbrev pub connect_of : Option AuthenticationValues → (proxy : Option (List ℕ)) → Values rows.connect
connect_of auth proxy =
    client_version & option_map (λ a. a.auth_data) auth & Some protocol_version & option_map (λ a. a.name) auth & proxy & tt

-- makes a producer  (PulsarApi.proto, CommandProducer)
abbrev pub producer_of : (id : ℕ) (topic : List ℕ) (producer : ℕ) (name : Option (List ℕ))
    → ProducerOptionsValues → Values rows.producer
producer_of id topic producer name o =
    topic & producer & id & name & o.encrypted & properties_values o.metadata & o.schema & o.access_mode & tt

-- makes a consumer on a subscription, which says whether it reads a compacted topic, and where it begins
-- (PulsarApi.proto, CommandSubscribe)
abbrev pub subscribe_of : (id : ℕ) (topic subscription : List ℕ) (sub_type : ℤ) (consumer : ℕ) (name : Option (List ℕ))
    → ConsumerOptionsValues → Values rows.subscribe
subscribe_of id topic subscription sub_type consumer name o =
    topic & subscription & sub_type & consumer & id & name & o.priority_level & o.durable & o.start_message_id
    & properties_values o.metadata & Some (unwrap_or o.read_compacted false) & o.schema
    & Some (initial_position_number o.initial_position) & tt

-- the type of an ack: each message by itself, or all up to the one  (PulsarApi.proto, CommandAck.AckType)
abbrev pub ack_type : (cumulative : Bool) → ℤ
ack_type cumulative = if cumulative then pos 1 else pos 0

-- a body by its number
abbrev pub body : (number : ℕ) → (row : Row) → Values row → BodyValues
body number row values = record { number = number; row = row; values = values }

-- The body of what is asked, with the number of the request where it has one.  (PulsarApi.proto, BaseCommand)
abbrev pub body_of : (id : ℕ) → Words → BodyValues
body_of id SendPing = body 18 rows.ping tt
body_of id SendPong = body 19 rows.pong tt
body_of id (AuthChallenge auth) = body 37 rows.auth_response (None & Some (auth_data_of auth) & None & tt)
body_of id (LookupTopic topic authoritative) = body 23 rows.lookup_topic (topic & id & Some authoritative & tt)
body_of id (LookupPartitionedTopic topic) = body 21 rows.partition_metadata (topic & id & tt)
body_of id (GetTopicsOfNamespace namespace mode) =
    body 32 rows.get_topics_of_namespace (id & namespace & Some (mode_number mode) & tt)
body_of id (GetSchema topic version) = body 34 rows.get_schema (id & topic & version & tt)
body_of id (CreateProducer topic producer name options) = body 5 rows.producer (producer_of id topic producer name options)
body_of id (Send producer name sequence message block) =
    body 6 rows.send (producer & sequence & message.num_messages_in_batch & tt)
body_of id (CloseProducer producer) = body 15 rows.close_producer (producer & id & tt)
body_of id (Subscribe topic subscription sub_type consumer name options) =
    body 4 rows.subscribe (subscribe_of id topic subscription (sub_type_number sub_type) consumer name options)
body_of id (SendFlow consumer permits) = body 11 rows.flow (consumer & permits & tt)
body_of id (SendAck consumer ids cumulative) = body 10 rows.ack (consumer & ack_type cumulative & ids & tt)
body_of id (SendRedeliver consumer ids) = body 20 rows.redeliver_unacknowledged_messages (consumer & ids & tt)
body_of id (Seek consumer place time) = body 28 rows.seek (consumer & id & place & time & tt)
body_of id (GetLastMessageId consumer) = body 29 rows.get_last_message_id (consumer & id & tt)
body_of id (GetConsumerStats consumer) = body 25 rows.consumer_stats (id & consumer & tt)
body_of id (Unsubscribe consumer) = body 12 rows.unsubscribe (consumer & id & tt)
body_of id (CloseConsumer consumer) = body 16 rows.close_consumer (consumer & id & tt)
body_of id (CloseConsumerUnawaited consumer) = body 16 rows.close_consumer (consumer & id & tt)

abbrev pub command_of : (id : ℕ) → Words → CommandValues
command_of id words = with_kind (body_of id words)

-- the command that a client says first
abbrev pub connect_command : Option AuthenticationValues → (proxy : Option (List ℕ)) → CommandValues
connect_command auth proxy = with_kind (body 2 rows.connect (connect_of auth proxy))

-- ---- payloads

-- what is sent behind a command: what is said of it, and its bytes  (Pulsar binary protocol, Payload commands)
pub record PayloadContent : Type 0 where
  pub metadata : Values rows.message_metadata
  pub bytes : List ℕ

-- What a message says of its payload: the name of its producer, its number, when it was sent in milliseconds since 1970, and
-- what its producer says of it. It comes from no other cluster.  (PulsarApi.proto, MessageMetadata)
abbrev pub metadata_of : (now : ℕ) (name : List ℕ) (sequence : ℕ) → ProducerMessageValues → Values rows.message_metadata
metadata_of now name sequence m =
    name & sequence & now & properties_values m.properties & None & m.partition_key & m.replicate_to & m.compression
    & m.uncompressed_size & m.num_messages_in_batch & m.event_time & m.encryption_keys & m.encryption_algo & m.encryption_param
    & m.schema_version & m.ordering_key & m.deliver_at_time & tt

-- what is sent behind the command of a message
abbrev pub sent_payload : (now : ℕ) (name : List ℕ) (sequence : ℕ) → ProducerMessageValues → PayloadContent
sent_payload now name sequence m = record { metadata = metadata_of now name sequence m; bytes = m.payload }

-- a message that is sent carries its payload, and nothing else does
abbrev pub payload_of : (now : ℕ) → Words → Option PayloadContent
payload_of now SendPing = None
payload_of now SendPong = None
payload_of now (AuthChallenge auth) = None
payload_of now (LookupTopic topic authoritative) = None
payload_of now (LookupPartitionedTopic topic) = None
payload_of now (GetTopicsOfNamespace namespace mode) = None
payload_of now (GetSchema topic version) = None
payload_of now (CreateProducer topic producer name options) = None
payload_of now (Send producer name sequence message block) = Some (sent_payload now name sequence message)
payload_of now (CloseProducer producer) = None
payload_of now (Subscribe topic subscription sub_type consumer name options) = None
payload_of now (SendFlow consumer permits) = None
payload_of now (SendAck consumer ids cumulative) = None
payload_of now (SendRedeliver consumer ids) = None
payload_of now (Seek consumer id time) = None
payload_of now (GetLastMessageId consumer) = None
payload_of now (GetConsumerStats consumer) = None
payload_of now (Unsubscribe consumer) = None
payload_of now (CloseConsumer consumer) = None
payload_of now (CloseConsumerUnawaited consumer) = None

-- the payload of a message that was made
abbrev pub payload_content : MessageParts → PayloadContent
payload_content p = record { metadata = message_metadata_values p.metadata; bytes = p.payload.items }
