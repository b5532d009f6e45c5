use Rattle.std.proofs.Common.{◌≡◌, ◌∙◌, ◌∷◌, [], ap, sym}
use Rattle.std.proofs.lemmas.Result.{MatchResult-weaker}
use Rattle.pulsar_calls.specs.declared.act.Act.TheVariants.{Starts}
use Rattle.pulsar_calls.specs.declared.act.Procedure.TheVariants.{Serve}
use Rattle.pulsar_calls.specs.declared.act.Who.TheVariants.{Consumer}
use Rattle.pulsar_acts.specs.Reading.{serves_by}
use Rattle.pulsar_acts.proofs.tables.Tables.serves.Goals as goal

pub returns-in-Some : goal.returns-in-Some
returns-in-Some c =
    let joining = c.args.joining.now in
    let ways = sym c.in-Some.is ∙ c.in_ok-ways.ensures in
    MatchResult-weaker c.one.result c.one.ensures
    (λ acts is. is
    ∙ ap (λ t. Starts (Consumer joining.number t) (Serve c.in-Some.ways joining.number) ∷ []) c.ticket_of-ticket.ensures
    ∙ ap (λ w. serves_by w c.args.who joining) ways)
    (λ e u. u)
