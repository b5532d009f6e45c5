-- What a builder of messages has, and what it gives.
use Rattle.std.specs.Prelude.{◌≡◌, ℕ, map, Result, Ok, string_bytes}
use Rattle.std.specs.Option.{option_map}
use Rattle.pulsar_wire.specs.declared.error.Error.{Error}
use Rattle.pulsar_messages.specs.Content.{message_content, property}
use Rattle.pulsar_messages.specs.declared.producer_message.Message.{Message}
use Rattle.pulsar_messages.specs.Message.{Extras, with_extras}
use Rattle.pulsar_messages.specs.declared.message_builder.MessageBuilder.{MessageBuilder}

-- what it says of its message
abbrev pub extras : {T : Type 0} → MessageBuilder T → Extras
extras b =
    record {
      properties = map property b.properties.entries;
      partition_key = option_map string_bytes b.partition_key;
      ordering_key = option_map (λ v. v.items) b.ordering_key;
      event_time = b.event_time;
      deliver_at_time = b.deliver_at_time;
    }

-- It gives its producer, and the message that its content is serialized to, with what it says of that.
abbrev pub IsBuilt : {T : Type 0} → (serializes : T → Result Message Error → Type 0) → MessageBuilder T → ℕ × Message → Type 0
IsBuilt serializes b sent =
    (sent.0 ≡ b.producer)
    × ((m : Message) × serializes b.content (Ok m) × (message_content sent.1 ≡ with_extras (extras b) (message_content m)))
