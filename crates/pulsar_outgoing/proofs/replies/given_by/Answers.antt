use Rattle.std.proofs.Common.{◌≡◌, ◌∙◌, sym, ap, refl, subst, Option, Some, None, IfOk}
use Rattle.std.specs.Option.{option_map}
use Rattle.pulsar_wire.specs.Command.{BodyValues}
use Rattle.pulsar_wire.specs.declared.key.RequestKey.{RequestKey}
use Rattle.pulsar_wire.specs.Views.{body_values}
use Rattle.pulsar_wire.specs.declared.commands.base.Body.{Body}
use Rattle.pulsar_frame.specs.Key.{key}
use Rattle.pulsar_frame.specs.Shown.{message_values}
use Rattle.pulsar_frame.specs.declared.message.Message.{Message}
use Rattle.pulsar_frame.specs.Message.{MessageValues}
use Rattle.pulsar_frame.specs.Reply.{Reply, framed, read_body, reply}
use Rattle.pulsar_outgoing.specs.Replies.{given}
use Rattle.pulsar_outgoing.proofs.replies.given_by.Goals as goal

-- what a reply says doesn't depend on its key, and on what stands beside its body
without_key : (m : MessageValues) (k : Option RequestKey) (b : Option BodyValues) → given (framed m (read_body k b)) ≡ given (read_body None b)
without_key m k None = refl
without_key m k (Some b) = refl

is_read : (m : Message) (r : Reply) (b : Option Body) → reply (message_values m) ≡ r → m.command.body ≡ b → given (read_body None (option_map body_values b)) ≡ given r
is_read m r b told is =
    ap (λ x. given (read_body None (option_map body_values x))) (sym is)
    ∙ sym (without_key (message_values m) (key (message_values m)) (message_values m).command.body) ∙ ap given told

pub returns-in-Some : goal.returns-in-Some
returns-in-Some c =
    subst (λ h. IfOk c.given_in.result (λ h'. h' ≡ h))
    (is_read c.message-message.result.now c.args.reply.now (Some c.in-Some.body) c.message-message.ensures c.in-Some.is) c.given_in.ensures

pub returns-in-None : goal.returns-in-None
returns-in-None c =
    c.nothing_given.ensures ∙ is_read c.message-message.result.now c.args.reply.now None c.message-message.ensures c.in-None.is
