use Rattle.std.proofs.Common.{rules, ◌≡◌, ◌∙◌, false, Some, None, ◌==◌, ap, refl, subst, IfOk}
use Rattle.pulsar_wire.specs.Views.{body_values}
use Rattle.pulsar_wire.specs.Command.{BodyValues, body_name}
use Rattle.pulsar_wire.specs.declared.commands.base.Body.{Body}
use Rattle.pulsar_wire.specs.declared.commands.base.Body.TheVariants.{Error}
use Rattle.pulsar_wire.specs.declared.commands.connection.CommandError.{CommandError}
use Rattle.pulsar_wire.specs.Failures.{UnexpectedResponse, fault}
use Rattle.pulsar_frame.specs.Reply.{read_body, written}
use Rattle.pulsar_searches.specs.Replies.{unexpected}
use Rattle.pulsar_searches.proofs.replies.unexpected.Goals as goal

named : (b : BodyValues) → (b.number == 14) ≡ false → UnexpectedResponse (body_name b.number) ≡ unexpected (read_body None (Some b)) (Some (written b))
unfolding unexpected
named b error = rw error refl

not-error : (b : Body) → ((x : CommandError) → b ≡ Error x → ⊥) → ((body_values b).number == 14) ≡ false
not-error (Error x) h = absurd (h x refl)
not-error _ h = refl

pub returns-in-Error : goal.returns-in-Error
returns-in-Error c = rw c.in-Error.is c.told_error.ensures

pub returns-in_default : goal.returns-in_default
returns-in_default c =
    let error = not-error c.args.body.now c.in_default.not-Error in
    let name : c.name.result.now ≡ body_name (body_values c.args.body.now).number = search rules in
    subst (λ f. IfOk c.unexpected_name.result (λ e. fault e ≡ f)) (ap UnexpectedResponse name ∙ named (body_values c.args.body.now) error) c.unexpected_name.ensures
