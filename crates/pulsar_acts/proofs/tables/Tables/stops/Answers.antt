use Rattle.std.proofs.Common.{◌∙◌, ◌++◌, ap, append_assoc, map, sym}
use Rattle.std.proofs.lemmas.Result.{on_ok_weaker}
use Rattle.pulsar_run.specs.Order.{arranged}
use Rattle.pulsar_producer_table.specs.Producers.{halted}
use Rattle.pulsar_links.specs.LinkRules.{over_links, stop_act}
use Rattle.pulsar_calls.specs.Order.{below, opens}
use Rattle.pulsar_producer_table.specs.Notices.{stopped_all}
use Rattle.pulsar_consumer_table.specs.Consumers.{all_changed, stopped}
use Rattle.pulsar_acts.specs.Reading.{stopped_on, tells}
use Rattle.pulsar_calls.specs.declared.act.Outcome.TheVariants.{Stopped}
use Rattle.pulsar_agenda.specs.Agenda.{Agenda}
use Rattle.pulsar_agenda.specs.Agenda.{agenda_of}
use Rattle.pulsar_acts.specs.Tables.{view_of}
use Rattle.pulsar_acts.specs.View.{View}
use Rattle.pulsar_acts.proofs.tables.Tables.stops.Goals as goal

pub returns-clause-left : goal.returns-clause-left
returns-clause-left c =
    let v = view_of c.args.self.now in
    let g = agenda_of c.args.tasks.now in
    let ends = c.in_ok-stop_acts.ensures ∙ ap (λ (x : View). over_links stop_act x.links) c.in_ok-notices.ensures.sees in
    let told = c.in_ok-put_all.ensures ∙ ap (λ (x : Agenda). record x { now = c.in_ok-stop_acts.field-0.items ++ x.now }) c.in_ok-tell.ensures in
    let notices =
    c.in_ok-stop-2.ensures.notices
    ∙ (λ i. (c.in_ok-stop.ensures ∙ (λ j. c.in_ok-notices.ensures.notices j ++ stopped_all (c.in_ok-notices.ensures.sees j).producers)) i
    ++ stopped_on (c.in_ok-notices.ensures.sees i))
    in
    on_ok_weaker c.open.result
    (λ opened. opened
    ∙ ap (λ (x : Agenda). record x { behind = x.behind ++ map (arranged below) (opens c.stop-2.new.notices.items) }) told
    ∙ (λ i. record g {
      now = (ap (λ acts. acts ++ (tells c.args.who Stopped ++ g.now)) ends ∙ sym (append_assoc (over_links stop_act v.links) (tells c.args.who Stopped) g.now)) i;
      behind = g.behind ++ map (arranged below) (opens (notices i));
    }))
    c.open.ensures

pub returns-clause-sees : goal.returns-clause-sees
returns-clause-sees c =
    on_ok_weaker c.open.result
    (λ left. (λ i. record (view_of c.stop_alarms.new.self) { consumers = c.in_ok-stop-2.ensures.after i; producers = c.halt.ensures i })
    ∙ ap (λ (x : View). record x { consumers = all_changed stopped x.consumers; producers = halted x.producers }) c.in_ok-notices.ensures.sees)
    c.open.ensures
