-- The table of the messages: a row for each, its fields in order, and the bodies that a command may have.
-- (PulsarApi.proto)
use Rattle.std.specs.Prelude.{ℕ, List, [], ◌∷◌, codes}
use Rattle.pulsar_wire.specs.Row.{Text, Bytes, Uint32, Uint64, Int32, Int64, Flag, Required, Optional, Repeated, Row, End, Embedded, Numbers, ◌▹◌, required, optional, repeated}

-- WHAT NAMES A MESSAGE

-- the place of a message: ledger, entry, partition, index in a batch, which of the batch are acknowledged, its size
abbrev pub message_id : Row
message_id = required 1 Uint64 ▹ required 2 Uint64 ▹ optional 3 Int32 ▹ optional 4 Int32 ▹ Numbers 5 ▹ optional 6 Int32 ▹ End

-- WHAT STANDS IN FRONT OF A PAYLOAD

-- a property
abbrev pub key_value : Row
key_value = required 1 Text ▹ required 2 Text ▹ End

-- a key that a payload is encrypted with
abbrev pub encryption_keys : Row
encryption_keys = required 1 Text ▹ required 2 Bytes ▹ Embedded 3 Repeated key_value ▹ End

-- what a frame says of its payload
abbrev pub message_metadata : Row
message_metadata =
    required 1 Text ▹ required 2 Uint64 ▹ required 3 Uint64 ▹ Embedded 4 Repeated key_value ▹ optional 5 Text ▹ optional 6 Text
    ▹ repeated 7 Text ▹ optional 8 Int32 ▹ optional 9 Uint32 ▹ optional 11 Int32 ▹ optional 12 Uint64
    ▹ Embedded 13 Repeated encryption_keys ▹ optional 14 Text ▹ optional 15 Bytes ▹ optional 16 Bytes ▹ optional 18 Bytes
    ▹ optional 19 Int64 ▹ End

-- what an entry of a batch says of its payload
abbrev pub single_message_metadata : Row
single_message_metadata = Embedded 1 Repeated key_value ▹ optional 2 Text ▹ required 3 Int32 ▹ optional 5 Uint64 ▹ optional 7 Bytes ▹ End

-- SCHEMAS

-- what payloads are made of
abbrev pub schema : Row
schema = required 1 Text ▹ required 3 Bytes ▹ required 4 Int32 ▹ Embedded 5 Repeated key_value ▹ End

-- a request for the schema of a topic
abbrev pub get_schema : Row
get_schema = required 1 Uint64 ▹ required 2 Text ▹ optional 3 Bytes ▹ End

-- the answer to get_schema
abbrev pub get_schema_response : Row
get_schema_response = required 1 Uint64 ▹ optional 2 Int32 ▹ optional 3 Text ▹ Embedded 4 Optional schema ▹ optional 5 Bytes ▹ End

-- CREDENTIALS

-- a credential, and the method that it is for
abbrev pub auth_data : Row
auth_data = optional 1 Text ▹ optional 2 Bytes ▹ End

-- the broker asks for a credential
abbrev pub auth_challenge : Row
auth_challenge = optional 1 Text ▹ Embedded 2 Optional auth_data ▹ optional 3 Int32 ▹ End

-- the answer to auth_challenge
abbrev pub auth_response : Row
auth_response = optional 1 Text ▹ Embedded 2 Optional auth_data ▹ optional 3 Int32 ▹ End

-- COMMANDS THAT OPEN A CONNECTION AND KEEP IT

-- what a client says first
abbrev pub connect : Row
connect = required 1 Text ▹ optional 3 Bytes ▹ optional 4 Int32 ▹ optional 5 Text ▹ optional 6 Text ▹ End

-- the answer to connect
abbrev pub connected : Row
connected = required 1 Text ▹ optional 2 Int32 ▹ optional 3 Int32 ▹ End

-- asks whether the other side is there
abbrev pub ping : Row
ping = End

-- the answer to ping
abbrev pub pong : Row
pong = End

-- a request was done
abbrev pub success : Row
success = required 1 Uint64 ▹ Embedded 2 Optional schema ▹ End

-- a request failed
abbrev pub error : Row
error = required 1 Uint64 ▹ required 2 Int32 ▹ required 3 Text ▹ End

-- PARTITIONS AND BROKERS OF A TOPIC

-- a request for the number of partitions of a topic
abbrev pub partition_metadata : Row
partition_metadata = required 1 Text ▹ required 2 Uint64 ▹ End

-- the answer to partition_metadata
abbrev pub partition_metadata_response : Row
partition_metadata_response = optional 1 Uint32 ▹ required 2 Uint64 ▹ optional 3 Int32 ▹ optional 4 Int32 ▹ optional 5 Text ▹ End

-- a request for the broker of a topic
abbrev pub lookup_topic : Row
lookup_topic = required 1 Text ▹ required 2 Uint64 ▹ optional 3 Flag ▹ End

-- the answer to lookup_topic
abbrev pub lookup_topic_response : Row
lookup_topic_response =
    optional 1 Text ▹ optional 2 Text ▹ optional 3 Int32 ▹ required 4 Uint64 ▹ optional 5 Flag ▹ optional 6 Int32 ▹ optional 7 Text
    ▹ optional 8 Flag ▹ End

-- PRODUCERS

-- makes a producer on a topic
abbrev pub producer : Row
producer =
    required 1 Text ▹ required 2 Uint64 ▹ required 3 Uint64 ▹ optional 4 Text ▹ optional 5 Flag ▹ Embedded 6 Repeated key_value
    ▹ Embedded 7 Optional schema ▹ optional 10 Int32 ▹ End

-- the answer to producer
abbrev pub producer_success : Row
producer_success = required 1 Uint64 ▹ required 2 Text ▹ optional 3 Int64 ▹ optional 4 Bytes ▹ optional 5 Uint64 ▹ optional 6 Flag ▹ End

-- a message of a producer
abbrev pub send : Row
send = required 1 Uint64 ▹ required 2 Uint64 ▹ optional 3 Int32 ▹ End

-- the message is stored
abbrev pub send_receipt : Row
send_receipt = required 1 Uint64 ▹ required 2 Uint64 ▹ Embedded 3 Optional message_id ▹ optional 4 Uint64 ▹ End

-- the message is refused
abbrev pub send_error : Row
send_error = required 1 Uint64 ▹ required 2 Uint64 ▹ required 3 Int32 ▹ required 4 Text ▹ End

-- ends a producer
abbrev pub close_producer : Row
close_producer = required 1 Uint64 ▹ required 2 Uint64 ▹ End

-- SUBSCRIPTIONS

-- makes a consumer on a subscription of a topic
abbrev pub subscribe : Row
subscribe =
    required 1 Text ▹ required 2 Text ▹ required 3 Int32 ▹ required 4 Uint64 ▹ required 5 Uint64 ▹ optional 6 Text ▹ optional 7 Int32
    ▹ optional 8 Flag ▹ Embedded 9 Optional message_id ▹ Embedded 10 Repeated key_value ▹ optional 11 Flag
    ▹ Embedded 12 Optional schema ▹ optional 13 Int32 ▹ End

-- ends a consumer's subscription
abbrev pub unsubscribe : Row
unsubscribe = required 1 Uint64 ▹ required 2 Uint64 ▹ End

-- ends a consumer
abbrev pub close_consumer : Row
close_consumer = required 1 Uint64 ▹ required 2 Uint64 ▹ End

-- whether a consumer is served, of those of a failover subscription
abbrev pub active_consumer_change : Row
active_consumer_change = required 1 Uint64 ▹ optional 2 Flag ▹ End

-- MESSAGES FOR A CONSUMER

-- a message for a consumer
abbrev pub message : Row
message = required 1 Uint64 ▹ Embedded 2 Required message_id ▹ optional 3 Uint32 ▹ Numbers 4 ▹ End

-- acknowledges messages
abbrev pub ack : Row
ack = required 1 Uint64 ▹ required 2 Int32 ▹ Embedded 3 Repeated message_id ▹ End

-- asks for further messages
abbrev pub flow : Row
flow = required 1 Uint64 ▹ required 2 Uint32 ▹ End

-- asks for messages again
abbrev pub redeliver_unacknowledged_messages : Row
redeliver_unacknowledged_messages = required 1 Uint64 ▹ Embedded 2 Repeated message_id ▹ End

-- a topic has ended
abbrev pub reached_end_of_topic : Row
reached_end_of_topic = required 1 Uint64 ▹ End

-- WHERE A SUBSCRIPTION STANDS

-- moves a subscription
abbrev pub seek : Row
seek = required 1 Uint64 ▹ required 2 Uint64 ▹ Embedded 3 Optional message_id ▹ optional 4 Uint64 ▹ End

-- a request for the id of the last message of a topic
abbrev pub get_last_message_id : Row
get_last_message_id = required 1 Uint64 ▹ required 2 Uint64 ▹ End

-- the answer to get_last_message_id
abbrev pub get_last_message_id_response : Row
get_last_message_id_response = Embedded 1 Required message_id ▹ required 2 Uint64 ▹ End

-- a request for what the broker counts of a consumer
abbrev pub consumer_stats : Row
consumer_stats = required 1 Uint64 ▹ required 4 Uint64 ▹ End

-- the answer to consumer_stats
abbrev pub consumer_stats_response : Row
consumer_stats_response =
    required 1 Uint64 ▹ optional 2 Int32 ▹ optional 3 Text ▹ optional 7 Text ▹ optional 8 Uint64 ▹ optional 9 Uint64
    ▹ optional 10 Flag ▹ optional 11 Text ▹ optional 12 Text ▹ optional 13 Text ▹ optional 15 Uint64 ▹ End

-- THE TOPICS OF A NAMESPACE

-- a request for the topics of a namespace
abbrev pub get_topics_of_namespace : Row
get_topics_of_namespace = required 1 Uint64 ▹ required 2 Text ▹ optional 3 Int32 ▹ End

-- the answer to get_topics_of_namespace
abbrev pub get_topics_of_namespace_response : Row
get_topics_of_namespace_response = required 1 Uint64 ▹ repeated 2 Text ▹ End

-- THE BODIES OF A COMMAND

-- a body by its number: its name in the protocol, and its fields
pub record Known : Type 0 where
  pub number : ℕ
  pub name : List ℕ
  pub row : Row

-- a body with this number, name and row
abbrev pub known : ℕ → List ℕ → Row → Known
known number name row = record { number = number; name = name; row = row }

-- the bodies that are known
abbrev pub known_bodies : List Known
known_bodies =
    known 2 (codes "connect") connect
    ∷ known 3 (codes "connected") connected
    ∷ known 4 (codes "subscribe") subscribe
    ∷ known 5 (codes "producer") producer
    ∷ known 6 (codes "send") send
    ∷ known 7 (codes "send_receipt") send_receipt
    ∷ known 8 (codes "send_error") send_error
    ∷ known 9 (codes "message") message
    ∷ known 10 (codes "ack") ack
    ∷ known 11 (codes "flow") flow
    ∷ known 12 (codes "unsubscribe") unsubscribe
    ∷ known 13 (codes "success") success
    ∷ known 14 (codes "error") error
    ∷ known 15 (codes "close_producer") close_producer
    ∷ known 16 (codes "close_consumer") close_consumer
    ∷ known 17 (codes "producer_success") producer_success
    ∷ known 18 (codes "ping") ping
    ∷ known 19 (codes "pong") pong
    ∷ known 20 (codes "redeliver_unacknowledged_messages") redeliver_unacknowledged_messages
    ∷ known 21 (codes "partition_metadata") partition_metadata
    ∷ known 22 (codes "partition_metadata_response") partition_metadata_response
    ∷ known 23 (codes "lookup_topic") lookup_topic
    ∷ known 24 (codes "lookup_topic_response") lookup_topic_response
    ∷ known 25 (codes "consumer_stats") consumer_stats
    ∷ known 26 (codes "consumer_stats_response") consumer_stats_response
    ∷ known 27 (codes "reached_end_of_topic") reached_end_of_topic
    ∷ known 28 (codes "seek") seek
    ∷ known 29 (codes "get_last_message_id") get_last_message_id
    ∷ known 30 (codes "get_last_message_id_response") get_last_message_id_response
    ∷ known 31 (codes "active_consumer_change") active_consumer_change
    ∷ known 32 (codes "get_topics_of_namespace") get_topics_of_namespace
    ∷ known 33 (codes "get_topics_of_namespace_response") get_topics_of_namespace_response
    ∷ known 34 (codes "get_schema") get_schema
    ∷ known 35 (codes "get_schema_response") get_schema_response
    ∷ known 36 (codes "auth_challenge") auth_challenge
    ∷ known 37 (codes "auth_response") auth_response
    ∷ []
