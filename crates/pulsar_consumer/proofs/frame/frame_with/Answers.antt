use Rattle.std.proofs.Common.{◌≡◌, ◌∙◌, [], Option, Some, None, refl}
use Rattle.pulsar_wire.specs.Views.{body_values}
use Rattle.pulsar_wire.specs.declared.commands.base.Body.{Body}
use Rattle.pulsar_wire.specs.declared.commands.base.Body.TheVariants.{Message}
use Rattle.pulsar_wire.specs.declared.commands.consumer.delivery.CommandMessage.{CommandMessage}
use Rattle.pulsar_frame.specs.Payload.{PayloadValues, payload_values}
use Rattle.std.specs.Option.{option_map}
use Rattle.pulsar_consumer.specs.Frames.{Frame, frame_with}
use Rattle.pulsar_consumer.proofs.frame.frame_with.Goals as goal

abbrev nothing : Frame
nothing = record { weight = 0; items = []; letters = []; redeliveries = None }

-- another body brings nothing
other : (p : Option PayloadValues) (b : Body) → ((x : CommandMessage) → b ≡ Message x → ⊥) → nothing ≡ frame_with p (Some (body_values b))
other p (Message x) h = absurd (h x refl)
other p _ h = refl

pub returns-in-Message : goal.returns-in-Message
returns-in-Message c = rw c.in-Message.is c.frame_of_message.ensures

pub returns-in_default : goal.returns-in_default
returns-in_default c = c.empty.ensures ∙ other (option_map payload_values c.args.payload) c.args.body.now c.in_default.not-Message
