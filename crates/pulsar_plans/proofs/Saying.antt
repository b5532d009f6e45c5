-- What a body answers does not depend on what else stands in its message.
use Rattle.std.proofs.Common.{◌≡◌, ◌∙◌, sym, ap, refl, ℕ, List, [], Option, Some, None}
use Rattle.std.specs.Option.{option_map}
use Rattle.pulsar_wire.specs.Command.{BodyValues}
use Rattle.pulsar_wire.specs.Views.{body_values}
use Rattle.pulsar_wire.specs.declared.commands.base.Body.{Body}
use Rattle.pulsar_wire.specs.declared.key.RequestKey.{RequestKey}
use Rattle.pulsar_frame.specs.Items.{Item}
use Rattle.pulsar_frame.specs.Message.{MessageValues}
use Rattle.pulsar_frame.specs.Reply as frame
use Rattle.pulsar_exchange.specs.Messages.{Reply, id_in, read_body, redeliveries_in, written}
use Rattle.pulsar_calls.specs.declared.act.Says.{Says}
use Rattle.pulsar_calls.specs.declared.act.Says.TheVariants.{Names, Bodies, Nothing}
use Rattle.pulsar_plans.specs.Plan.{answer_with}

-- the reply of this body, and of what stands beside it
abbrev pub beside : MessageValues → Option RequestKey → List Item → (weight : ℕ) → Option BodyValues → Reply
beside m k items weight body =
    record {
      content = frame.framed m (frame.read_body k body);
      items = items;
      weight = weight;
      id = id_in body;
      redeliveries = redeliveries_in body;
    }

said_alone : (s : Says) (m : MessageValues) (k : Option RequestKey) (items : List Item) (weight : ℕ) (b : BodyValues) →
    answer_with s (read_body None [] 0 (Some b)) (Some (written b)) ≡ answer_with s (beside m k items weight (Some b)) (Some (written b))
said_alone Names m k items weight b = refl
said_alone Bodies m k items weight b = refl
said_alone Nothing m k items weight b = refl

pub said_in : (s : Says) (m : MessageValues) (k : Option RequestKey) (items : List Item) (weight : ℕ) (body : Option Body) (b : Body) → body ≡ Some b →
    answer_with s (read_body None [] 0 (Some (body_values b))) (Some (written (body_values b)))
    ≡ answer_with s (beside m k items weight (option_map body_values body)) (beside m k items weight (option_map body_values body)).content.body
said_in s m k items weight body b is =
    said_alone s m k items weight (body_values b)
    ∙ ap (λ x. answer_with s (beside m k items weight (option_map body_values x)) (beside m k items weight (option_map body_values x)).content.body) (sym is)
