use Rattle.std.proofs.Common.{◌∙◌, [], ap, cond, map, subst, sym, ◌∷◌}
use Rattle.pulsar_run.proofs.Steps.{began}
use Rattle.pulsar_run.specs.Run.{only}
use Rattle.pulsar_calls.specs.Content.{heard, shown}
use Rattle.pulsar_acts.specs.Rules.{brings}
use Rattle.pulsar_client.specs.History.{InStep, Stands}
use Rattle.pulsar_agenda.specs.Agenda.{agenda_of}
use Rattle.pulsar_acts.specs.Tables.{view_of}
use Rattle.pulsar_client.proofs.steps.step.Goals as goal

pub returns-clause-stands : goal.returns-clause-stands
returns-clause-stands g c = λ o h same s.
    let v = view_of c.args.tables.now in
    let e = heard c.args.event in
    let brought =
    c.in_ok-parts.ensures.parts ∙ ap (λ policies. brings policies v e) (sym same) ∙ sym (ap (λ b. cond b (brings o.policies v e) []) c.requires)
    in
    let first = subst (λ x. InStep o c.begins.new.tables (agenda_of c.new-tasks.result) e x h) (sym (ap (map shown) c.in_ok-out.ensures.items))
    (began e s (c.new-tasks.ensures ∙ ap only brought) c.in_ok-parts.ensures.sees) in
    subst (λ x. Stands o c.work.new.tables (record { event = e; effects = x } ∷ h)) (sym c.in_ok-arrange.ensures) (c.in_ok-work.ensures.stands o e h first)
