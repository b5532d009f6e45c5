-- What the client reads in a message of the broker.  (Pulsar binary protocol, Simple commands)
use Rattle.std.specs.Prelude.{ℕ, List, Option, Some, None, ◌==◌, if◌then◌else◌}
use Rattle.pulsar_wire.specs.Row.{Values, spelling}
use Rattle.pulsar_wire.specs.Rows.{message_id}
use Rattle.pulsar_wire.specs.Command.{BodyValues}
use Rattle.pulsar_wire.specs.declared.key.RequestKey.{RequestKey}
use Rattle.pulsar_frame.specs.Message.{MessageValues}
use Rattle.pulsar_frame.specs.Key.{key}
use Rattle.pulsar_frame.specs.Reply as session
pub use Rattle.pulsar_frame.specs.Reply.{Written, is_body, written}
use Rattle.pulsar_frame.specs.Reply.{maybe_uint32_at}
use Rattle.pulsar_frame.specs.Items.{Item, id_of_body, items_in, weight_in}

-- what is read in it, what it gives to a consumer, and how many permits that costs; the id of the message that it brings, and how often that
-- was given before
pub record Reply : Type 0 where
  pub content : session.Reply
  pub items : List Item
  pub weight : ℕ
  pub id : Option (Values message_id)
  pub redeliveries : Option ℕ

-- a message command alone says these
abbrev pub id_in : Option BodyValues → Option (Values message_id)
id_in None = None
id_in (Some b) = if b.number == 9 then id_of_body b else None

abbrev pub redeliveries_in : Option BodyValues → Option ℕ
redeliveries_in None = None
redeliveries_in (Some b) = if b.number == 9 then maybe_uint32_at 3 b.row b.values else None

abbrev pub body_bytes : BodyValues → List ℕ
body_bytes b = spelling b.row b.values

abbrev pub read_body : Option RequestKey → List Item → (weight : ℕ) → Option BodyValues → Reply
read_body k items weight body =
    record {
      content = session.read_body k body;
      items = items;
      weight = weight;
      id = id_in body;
      redeliveries = redeliveries_in body;
    }

abbrev pub read : MessageValues → Reply
read m =
    record {
      content = session.reply m;
      items = items_in m;
      weight = weight_in m;
      id = id_in m.command.body;
      redeliveries = redeliveries_in m.command.body;
    }
