-- A producer that is to be made, by its content.
use Rattle.std.specs.Prelude.{ℕ, List, Option, None, string_bytes}
use Rattle.std.specs.Option.{option_map}
use Rattle.pulsar_messages.specs.Content.{ProducerOptionsValues, empty_producer_options, producer_options_values}
use Rattle.pulsar_outgoing.specs.declared.producer_builder.ProducerBuilder.{ProducerBuilder}

pub record ProducerWanted : Type 0 where
  pub topic : Option (List ℕ)
  pub name : Option (List ℕ)
  pub options : ProducerOptionsValues

abbrev pub producer_wanted : ProducerBuilder → ProducerWanted
producer_wanted b =
    record {
      topic = option_map string_bytes b.topic;
      name = option_map string_bytes b.name;
      options = producer_options_values b.options;
    }

abbrev pub no_producer : ProducerWanted
no_producer = record { topic = None; name = None; options = empty_producer_options }
