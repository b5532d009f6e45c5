-- What is said of a consumer, and what it hands out, by its content: a text is the list of its bytes.
-- (Pulsar binary protocol, Consumer; PulsarApi.proto, CommandSubscribe)
use Rattle.std.specs.Prelude.{ℕ, ℤ, List, [], ◌++◌, map, Option, None, string_bytes}
use Rattle.std.specs.Option.{option_map}
use Rattle.pulsar_wire.specs.Row.{Values}
use Rattle.pulsar_wire.specs.Rows.{message_id}
use Rattle.pulsar_wire.specs.Views.{message_id_values}
use Rattle.pulsar_wire.specs.declared.commands.enumerations.SubType.{SubType}
use Rattle.pulsar_wire.specs.declared.commands.enumerations.SubType.TheVariants.{Exclusive}
use Rattle.pulsar_frame.specs.Batch.{num_messages_in_batch}
use Rattle.pulsar_frame.specs.Payload.{PayloadValues}
use Rattle.pulsar_messages.specs.Content.{ConsumerOptionsValues, consumer_options_values, empty_consumer_options}
use Rattle.pulsar_incoming.specs.declared.builder.ConsumerBuilder.{ConsumerBuilder}
use Rattle.pulsar_incoming.specs.declared.config.ConsumerConfig.{ConsumerConfig}
use Rattle.pulsar_incoming.specs.declared.config.DeadLetterPolicy.{DeadLetterPolicy}
use Rattle.pulsar_incoming.specs.declared.message.MessageData.{MessageData}

-- the id of a message, and how many entries its batch has
pub record MessageDataValues : Type 0 where
  pub id : Values message_id
  pub batch_size : Option ℤ

abbrev pub message_data_values : MessageData → MessageDataValues
message_data_values d = record { id = message_id_values d.id; batch_size = d.batch_size }

-- that of a message: its batch has as many entries as is said of its payload
abbrev pub data_of : Values message_id → PayloadValues → MessageDataValues
data_of id p = record { id = id; batch_size = num_messages_in_batch p.metadata }

-- how often a message is given again before it goes to another topic, and that topic
pub record DeadLetterValues : Type 0 where
  pub max_redeliver_count : ℕ
  pub dead_letter_topic : List ℕ

abbrev pub dead_letter_values : DeadLetterPolicy → DeadLetterValues
dead_letter_values p = record { max_redeliver_count = p.max_redeliver_count; dead_letter_topic = string_bytes p.dead_letter_topic }

-- how a consumer is made
pub record ConfigValues : Type 0 where
  pub subscription : List ℕ
  pub sub_type : SubType
  pub batch_size : Option ℕ
  pub consumer_name : Option (List ℕ)
  pub consumer_id : Option ℕ
  pub unacked_message_redelivery_delay : Option ℕ
  pub options : ConsumerOptionsValues
  pub dead_letter_policy : Option DeadLetterValues

abbrev pub config_values : ConsumerConfig → ConfigValues
config_values c =
    record {
      subscription = string_bytes c.subscription;
      sub_type = c.sub_type;
      batch_size = c.batch_size;
      consumer_name = option_map string_bytes c.consumer_name;
      consumer_id = c.consumer_id;
      unacked_message_redelivery_delay = c.unacked_message_redelivery_delay;
      options = consumer_options_values c.options;
      dead_letter_policy = option_map dead_letter_values c.dead_letter_policy;
    }

abbrev pub empty_config : ConfigValues
empty_config =
    record {
      subscription = [];
      sub_type = Exclusive;
      batch_size = None;
      consumer_name = None;
      consumer_id = None;
      unacked_message_redelivery_delay = None;
      options = empty_consumer_options;
      dead_letter_policy = None;
    }

-- a consumer that is to be made
pub record ConsumerWanted : Type 0 where
  pub topics : List (List ℕ)
  pub topic_prefix : Option (List ℕ)
  pub subscription : Option (List ℕ)
  pub subscription_type : Option SubType
  pub namespace : Option (List ℕ)
  pub topic_refresh : Option ℕ
  pub consumer_id : Option ℕ
  pub consumer_name : Option (List ℕ)
  pub batch_size : Option ℕ
  pub options : ConsumerOptionsValues
  pub dead_letter_policy : Option DeadLetterValues
  pub unacked_message_resend_delay : Option ℕ

abbrev pub consumer_wanted : ConsumerBuilder → ConsumerWanted
consumer_wanted b =
    record {
      topics = map string_bytes b.topics.items;
      topic_prefix = option_map string_bytes b.topic_prefix;
      subscription = option_map string_bytes b.subscription;
      subscription_type = b.subscription_type;
      namespace = option_map string_bytes b.namespace;
      topic_refresh = b.topic_refresh;
      consumer_id = b.consumer_id;
      consumer_name = option_map string_bytes b.consumer_name;
      batch_size = b.batch_size;
      options = consumer_options_values b.options;
      dead_letter_policy = option_map dead_letter_values b.dead_letter_policy;
      unacked_message_resend_delay = b.unacked_message_resend_delay;
    }

-- these topics too
abbrev pub also_reads : (more : List (List ℕ)) → ConsumerWanted → ConsumerWanted
also_reads more w = record w { topics = w.topics ++ more }

abbrev pub no_consumer : ConsumerWanted
no_consumer =
    record {
      topics = [];
      topic_prefix = None;
      subscription = None;
      subscription_type = None;
      namespace = None;
      topic_refresh = None;
      consumer_id = None;
      consumer_name = None;
      batch_size = None;
      options = empty_consumer_options;
      dead_letter_policy = None;
      unacked_message_resend_delay = None;
    }
