use Rattle.std.proofs.Common.{◌∙◌, ◌++◌, ap}
use Rattle.std.proofs.lemmas.Result.{on_ok_weaker}
use Rattle.std.specs.List.{flat_map}
use Rattle.pulsar_agenda.specs.Agenda.{agenda_of}
use Rattle.pulsar_acts.specs.Tables.{unused_act, view_of}
use Rattle.pulsar_acts.proofs.Idling.{all_end}
use Rattle.pulsar_acts.proofs.tables.Tables.checks_idle.Goals as goal

pub returns-clause-left : goal.returns-clause-left
returns-clause-left c =
    let g = agenda_of c.args.tasks.now in
    let v = view_of c.args.self.now in
    let most = v.chosen.connection.connection_max_idle in
    let acts =
    c.in_ok-acts.ensures
    ∙ ap (flat_map (unused_act v.consumers v.producers)) (c.deref.ensures.value ∙ c.in_ok-resting.ensures)
    ∙ all_end v.now most v.consumers v.producers v.links
    in
    on_ok_weaker c.put_all.result (λ left. left ∙ ap (λ acts. record g { now = acts ++ g.now }) acts) c.put_all.ensures
