-- What a user gives to the calls of a connection, by its content: a text is the list of its bytes, a map the list of its entries
-- in key order.
use Rattle.std.specs.Prelude.{ℕ, ℤ, ◌==◌, Bool, false, List, [], map, Option, None, String, string_bytes, if◌then◌else◌}
use Rattle.std.specs.Option.{option_map}
use Rattle.pulsar_wire.specs.Row.{Values}
use Rattle.pulsar_wire.specs.Rows as rows
use Rattle.pulsar_wire.specs.Views.{encryption_keys_values, message_id_values, schema_values}
use Rattle.pulsar_wire.specs.declared.commands.enumerations.InitialPosition.{InitialPosition}
use Rattle.pulsar_wire.specs.declared.commands.enumerations.InitialPosition.TheVariants.{Latest}
use Rattle.pulsar_messages.specs.declared.authentication.Authentication.{Authentication}
use Rattle.pulsar_messages.specs.declared.producer_message.Message.{Message}
use Rattle.pulsar_messages.specs.declared.producer_message.ProducerMessage.{ProducerMessage}
use Rattle.pulsar_messages.specs.declared.producer_options.ProducerOptions.{ProducerOptions}
use Rattle.pulsar_messages.specs.declared.routing_policy.RoutingPolicy.{RoutingPolicy}
use Rattle.pulsar_messages.specs.declared.consumer_options.ConsumerOptions.{ConsumerOptions}

-- a property: its key, and its value
abbrev pub Property : Type 0
Property = List ℕ × List ℕ

abbrev pub property : {Z : Type 0} → String Z × String Z → Property
property entry = (string_bytes entry.0, string_bytes entry.1)

-- ---- credentials

-- how a client shows who it is: the method, and what it shows
pub record AuthenticationValues : Type 0 where
  pub name : List ℕ
  pub auth_data : List ℕ

abbrev pub authentication_values : Authentication → AuthenticationValues
authentication_values a = record { name = string_bytes a.name; auth_data = a.auth_data.items }

-- ---- messages

-- what a producer sends, and what it says of it beside its own name, number and time  (PulsarApi.proto, MessageMetadata)
pub record ProducerMessageValues : Type 0 where
  pub payload : List ℕ
  pub properties : List Property
  pub partition_key : Option (List ℕ)
  pub ordering_key : Option (List ℕ)
  pub replicate_to : List (List ℕ)
  pub compression : Option ℤ
  pub uncompressed_size : Option ℕ
  pub num_messages_in_batch : Option ℤ
  pub event_time : Option ℕ
  pub encryption_keys : List (Values rows.encryption_keys)
  pub encryption_algo : Option (List ℕ)
  pub encryption_param : Option (List ℕ)
  pub schema_version : Option (List ℕ)
  pub deliver_at_time : Option ℤ

abbrev pub producer_message_values : ProducerMessage → ProducerMessageValues
producer_message_values m =
    record {
      payload = m.payload.items;
      properties = map property m.properties.entries;
      partition_key = option_map string_bytes m.partition_key;
      ordering_key = option_map (λ v. v.items) m.ordering_key;
      replicate_to = map string_bytes m.replicate_to.items;
      compression = m.compression;
      uncompressed_size = m.uncompressed_size;
      num_messages_in_batch = m.num_messages_in_batch;
      event_time = m.event_time;
      encryption_keys = map encryption_keys_values m.encryption_keys.items;
      encryption_algo = option_map string_bytes m.encryption_algo;
      encryption_param = option_map (λ v. v.items) m.encryption_param;
      schema_version = option_map (λ v. v.items) m.schema_version;
      deliver_at_time = m.deliver_at_time;
    }

-- what an application sends: it is neither compressed nor encrypted, and no batch
abbrev pub message_content : Message → ProducerMessageValues
message_content m =
    record {
      payload = m.payload.items;
      properties = map property m.properties.entries;
      partition_key = option_map string_bytes m.partition_key;
      ordering_key = option_map (λ v. v.items) m.ordering_key;
      replicate_to = map string_bytes m.replicate_to.items;
      compression = None;
      uncompressed_size = None;
      num_messages_in_batch = None;
      event_time = m.event_time;
      encryption_keys = [];
      encryption_algo = None;
      encryption_param = None;
      schema_version = option_map (λ v. v.items) m.schema_version;
      deliver_at_time = m.deliver_at_time;
    }

-- a message that says nothing
abbrev pub empty_message : ProducerMessageValues
empty_message =
    record {
      payload = [];
      properties = [];
      partition_key = None;
      ordering_key = None;
      replicate_to = [];
      compression = None;
      uncompressed_size = None;
      num_messages_in_batch = None;
      event_time = None;
      encryption_keys = [];
      encryption_algo = None;
      encryption_param = None;
      schema_version = None;
      deliver_at_time = None;
    }

-- ---- options

-- how a producer is made, and how it sends
pub record ProducerOptionsValues : Type 0 where
  pub encrypted : Option Bool
  pub metadata : List Property
  pub schema : Option (Values rows.schema)
  pub batch_size : Option ℕ
  pub batch_byte_size : Option ℕ
  pub batch_timeout : Option ℕ
  pub access_mode : Option ℤ
  pub block_queue_if_full : Bool
  pub routing_policy : Option RoutingPolicy

abbrev pub producer_options_values : ProducerOptions → ProducerOptionsValues
producer_options_values o =
    record {
      encrypted = o.encrypted;
      metadata = map property o.metadata.entries;
      schema = option_map schema_values o.schema;
      batch_size = o.batch_size;
      batch_byte_size = o.batch_byte_size;
      batch_timeout = o.batch_timeout;
      access_mode = o.access_mode;
      block_queue_if_full = o.block_queue_if_full;
      routing_policy = o.routing_policy;
    }

-- options that say nothing
abbrev pub empty_producer_options : ProducerOptionsValues
empty_producer_options =
    record {
      encrypted = None;
      metadata = [];
      schema = None;
      batch_size = None;
      batch_byte_size = None;
      batch_timeout = None;
      access_mode = None;
      block_queue_if_full = false;
      routing_policy = None;
    }

-- how a consumer is made, and how many messages it holds
pub record ConsumerOptionsValues : Type 0 where
  pub priority_level : Option ℤ
  pub durable : Option Bool
  pub start_message_id : Option (Values rows.message_id)
  pub metadata : List Property
  pub read_compacted : Option Bool
  pub schema : Option (Values rows.schema)
  pub receiver_queue_size : Option ℕ
  pub initial_position : InitialPosition

abbrev pub consumer_options_values : ConsumerOptions → ConsumerOptionsValues
consumer_options_values o =
    record {
      priority_level = o.priority_level;
      durable = o.durable;
      start_message_id = option_map message_id_values o.start_message_id;
      metadata = map property o.metadata.entries;
      read_compacted = o.read_compacted;
      schema = option_map schema_values o.schema;
      receiver_queue_size = o.receiver_queue_size;
      initial_position = o.initial_position;
    }

-- options that say nothing: a subscription begins behind the last message
abbrev pub empty_consumer_options : ConsumerOptionsValues
empty_consumer_options =
    record {
      priority_level = None;
      durable = None;
      start_message_id = None;
      metadata = [];
      read_compacted = None;
      schema = None;
      receiver_queue_size = None;
      initial_position = Latest;
    }

-- how many messages a consumer holds where it is asked to hold so many
abbrev pub queue_size : (asked : ℕ) → ℕ
queue_size asked = if asked == 0 then 1000 else asked
