use Rattle.std.proofs.Common.{rules, ◌≡◌, [], ◌∙◌, false, Some, None, ◌==◌, ap, refl, subst, IfOk}
use Rattle.pulsar_wire.specs.Views.{body_values}
use Rattle.pulsar_wire.specs.Command.{BodyValues, body_name}
use Rattle.pulsar_wire.specs.declared.commands.base.Body.{Body}
use Rattle.pulsar_wire.specs.declared.commands.base.Body.TheVariants.{Error}
use Rattle.pulsar_wire.specs.declared.commands.connection.CommandError.{CommandError}
use Rattle.pulsar_wire.specs.Failures.{UnexpectedResponse, fault}
use Rattle.pulsar_exchange.specs.Messages.{read_body, written}
use Rattle.pulsar_exchange.specs.Refusals.{refused}
use Rattle.pulsar_exchange.proofs.refusal.refused.Goals as goal

unexpected : (b : BodyValues) → (b.number == 14) ≡ false → UnexpectedResponse (body_name b.number) ≡ refused (read_body None [] 0 (Some b)) (Some (written b))
unexpected b error = rw error refl

not-error : (b : Body) → ((x : CommandError) → b ≡ Error x → ⊥) → ((body_values b).number == 14) ≡ false
not-error (Error x) h = absurd (h x refl)
not-error _ h = refl

pub returns-in-Error : goal.returns-in-Error
returns-in-Error c = rw c.in-Error.is c.told_error.ensures

pub returns-in_default : goal.returns-in_default
returns-in_default c =
    let error = not-error c.args.body.now c.in_default.not-Error in
    let name : c.name.result.now ≡ body_name (body_values c.args.body.now).number = search rules in
    subst (λ f. IfOk c.unexpected.result (λ e. fault e ≡ f)) (ap UnexpectedResponse name ∙ unexpected (body_values c.args.body.now) error) c.unexpected.ensures
