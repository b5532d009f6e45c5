use Rattle.std.proofs.Common.{◌∙◌, ◌++◌, ap, sym}
use Rattle.std.proofs.lemmas.List.{append-nil}
use Rattle.std.proofs.lemmas.Result.{on_ok_weaker}
use Rattle.std.specs.Option.{option_to_list}
use Rattle.pulsar_run.specs.Order.{put_all}
use Rattle.pulsar_acts.specs.Reading.{made_due}
use Rattle.pulsar_calls.specs.Order.{below}
use Rattle.pulsar_agenda.specs.Agenda.{Agenda}
use Rattle.pulsar_agenda.specs.Agenda.{agenda_of}
use Rattle.pulsar_acts.specs.View.{View, after, consumers_left, producers_left}
use Rattle.pulsar_calls.specs.declared.act.Act.TheVariants.{Answers}
use Rattle.pulsar_acts.specs.Tables.{consumers_made, producers_made, view_of}
use Rattle.pulsar_acts.proofs.Granting.{held_is, left_is}
use Rattle.pulsar_acts.proofs.tables.Tables.answers.Goals as goal

pub returns-clause-left : goal.returns-clause-left
returns-clause-left c =
    let g = agenda_of c.args.tasks.now in
    let who = c.args.who in
    let makes = c.args.verdict.makes in
    let due = c.in_ok-due.ensures.due ∙ ap (λ (x : View). made_due x.links.live x.consumers.next_key who makes) c.in_ok-builds.ensures.sees in
    on_ok_weaker c.tell_end.result
    (λ told. c.in_ok-join_some.ensures
    ∙ ap (λ (x : Agenda). record x { here = put_all below (option_to_list c.in_ok-due.due) x.here }) c.in_ok-put_all.ensures
    ∙ (λ i. record {
      now = c.in_ok-left_with.ensures i ++ g.now;
      here = put_all below (due i) g.here;
      behind = sym (append-nil g.behind) i;
      parts = g.parts;
    }))
    c.tell_end.ensures

pub returns-clause-sees : goal.returns-clause-sees
returns-clause-sees c =
    let v = view_of c.args.self.now in
    let who = c.args.who in
    let makes = c.args.verdict.makes in
    on_ok_weaker c.tell_end.result
    (λ told. c.frees.ensures.sees
    ∙ ap (λ (x : View). record x { consumers = consumers_left who x.consumers; producers = producers_left who x.producers }) c.in_ok-due.ensures.sees
    ∙ ap (λ (x : View). record x {
      consumers = consumers_left who (consumers_made x.links.live who makes x.consumers);
      producers = producers_left who (producers_made x.chosen who makes x.producers);
    }) c.in_ok-builds.ensures.sees
    ∙ (λ i. record (after (Answers who c.args.verdict) v) {
      consumers = held_is v.links.live who makes v.consumers i;
      producers = left_is v.chosen who makes v.producers i;
    }))
    c.tell_end.ensures
