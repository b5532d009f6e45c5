-- What is sent.  (PulsarApi.proto, MessageMetadata)
use Rattle.std.specs.Prelude.{ℕ, ◌+◌, ◌-◌, ◌^◌, ℤ, pos, min, List, [], Option, None}
use Rattle.std.specs.Option.{option_or}
use Rattle.std.specs.BTreeMap.{insert_entry}
use Rattle.std.specs.Cmp.Lexicographic.{slice_cmp}
use Rattle.std.specs.Ordering.{nat_cmp}
use Rattle.pulsar_wire.specs.Sink.{capped}
use Rattle.pulsar_messages.specs.Content.{ProducerMessageValues, Property, empty_message}

-- a message that has these bytes as its payload, and says nothing else
abbrev pub bare : (payload : List ℕ) → ProducerMessageValues
bare payload = record empty_message { payload = payload }

-- what is said of a message by who builds it
pub record Extras : Type 0 where
  pub properties : List Property
  pub partition_key : Option (List ℕ)
  pub ordering_key : Option (List ℕ)
  pub event_time : Option ℕ
  pub deliver_at_time : Option ℤ

abbrev pub no_extras : Extras
no_extras = record { properties = []; partition_key = None; ordering_key = None; event_time = None; deliver_at_time = None }

-- a property more, in the order of the keys; one of the same key is replaced
abbrev pub put_property : (key value : List ℕ) → List Property → List Property
put_property key value ps = insert_entry (slice_cmp nat_cmp) ps key value

-- it takes the place of what the message says, also where it is absent; the rest is the message's
abbrev pub with_extras : Extras → ProducerMessageValues → ProducerMessageValues
with_extras x m =
    record m {
      properties = x.properties;
      partition_key = x.partition_key;
      ordering_key = x.ordering_key;
      event_time = x.event_time;
      deliver_at_time = x.deliver_at_time;
    }

-- a moment as a signed number: none is after the greatest
abbrev pub delivery : (time : ℕ) → ℤ
delivery time = pos (min time (2 ^ 63 - 1))

abbrev pub delayed : (now delay : ℕ) → ℕ
delayed now delay = capped (now + delay)

-- a message takes the schema version of its producer where it has none
abbrev pub with_version : Option (List ℕ) → ProducerMessageValues → ProducerMessageValues
with_version version m = record m { schema_version = option_or m.schema_version version }
