use Rattle.std.proofs.Common.{◌≡◌, ◌∙◌, ap, subst, [], None, Some}
use Rattle.std.specs.Result.{IfOk}
use Rattle.pulsar_wire.specs.Views.{body_values}
use Rattle.pulsar_frame.specs.Key.{key}
use Rattle.pulsar_frame.specs.Shown.{message_values}
use Rattle.pulsar_frame.specs.Items.{items_in, weight_in}
use Rattle.pulsar_exchange.specs.Messages.{read_body, written}
use Rattle.pulsar_plans.specs.Plan.{answer_with}
use Rattle.pulsar_plans.proofs.Saying.{said_in}
use Rattle.pulsar_plans.proofs.answers.answered.Goals as goal

pub returns-in-Some : goal.returns-in-Some
returns-in-Some c =
    let m = c.into_message-command.result in
    let says = c.args.says in
    let answer = subst (λ b. IfOk c.answer.result (λ s. s ≡ answer_with says (read_body None [] 0 (Some (body_values b))) (Some (written (body_values b))))) c.in-Some.body-is c.answer.ensures in
    subst (λ a. IfOk c.answer.result (λ s. s ≡ a))
    (said_in says (message_values m) (key (message_values m)) (items_in (message_values m)) (weight_in (message_values m)) m.command.body c.in-Some.body c.in-Some.is
    ∙ ap (λ r. answer_with says r r.content.body) c.into_message-command.ensures)
    answer
