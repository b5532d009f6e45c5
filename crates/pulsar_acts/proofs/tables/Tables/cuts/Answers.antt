use Rattle.std.proofs.Common.{◌∙◌, ◌∷◌, [], ◌++◌, ap, cond, map}
use Rattle.std.proofs.lemmas.Result.{on_ok_weaker}
use Rattle.pulsar_run.specs.Order.{arranged}
use Rattle.pulsar_acts.specs.Rules.{ready_notice}
use Rattle.pulsar_calls.specs.Order.{below, opens}
use Rattle.pulsar_agenda.specs.Agenda.{agenda_of}
use Rattle.pulsar_acts.specs.Tables.{view_of}
use Rattle.pulsar_acts.proofs.tables.Tables.cuts.Goals as goal

pub returns-clause-left : goal.returns-clause-left
returns-clause-left c =
    let g = agenda_of c.args.tasks.now in
    let notices =
    c.in_ok-notices.ensures ∙ ap (λ b. cond b (ready_notice c.args.number ∷ []) []) c.in_ok-is_ready.ensures.woken
    in
    on_ok_weaker c.open.result
    (λ opened. opened ∙ ap (λ ns. record g { behind = g.behind ++ map (arranged below) (opens ns) }) notices) c.open.ensures

pub returns-clause-sees : goal.returns-clause-sees
returns-clause-sees c =
    let v = view_of c.args.self.now in
    on_ok_weaker c.open.result (λ left. λ i. record v { alarms = c.in_ok-clear.ensures i; producers = c.in_ok-is_ready.ensures.after i }) c.open.ensures
