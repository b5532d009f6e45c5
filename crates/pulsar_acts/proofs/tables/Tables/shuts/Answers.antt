use Rattle.std.proofs.Common.{◌∙◌, ◌++◌, ap, map, sym}
use Rattle.std.proofs.lemmas.List.{append-nil}
use Rattle.std.proofs.lemmas.Result.{on_ok_weaker}
use Rattle.pulsar_outgoing.specs.declared.news.News.TheVariants.{Done}
use Rattle.pulsar_run.specs.Order.{put_all}
use Rattle.pulsar_plans.specs.Plan.{closed_notice}
use Rattle.pulsar_producer_table.specs.Producers.{numbers_at, shut}
use Rattle.pulsar_producer_table.proofs.Asking.{shut_is}
use Rattle.pulsar_acts.specs.Rules.{grants}
use Rattle.pulsar_calls.specs.Order.{below}
use Rattle.pulsar_agenda.specs.Agenda.{Agenda}
use Rattle.pulsar_agenda.specs.Agenda.{agenda_of}
use Rattle.pulsar_acts.specs.Tables.{view_of}
use Rattle.pulsar_acts.specs.View.{View, clear_all}
use Rattle.pulsar_acts.proofs.tables.Tables.shuts.Goals as goal

pub returns-clause-left : goal.returns-clause-left
returns-clause-left c =
    let g = agenda_of c.args.tasks.now in
    on_ok_weaker c.grants.result
    (λ told. told
    ∙ ap (λ (x : Agenda). record x { now = grants c.args.who Done ++ x.now }) c.in_ok-join_closed.ensures
    ∙ (λ i. record g {
      now = grants c.args.who Done ++ g.now;
      here = put_all below (map closed_notice (c.in_ok-stored.ensures i)) g.here;
      behind = sym (append-nil g.behind) i;
    }))
    c.grants.ensures

pub returns-clause-sees : goal.returns-clause-sees
returns-clause-sees c =
    let v = view_of c.args.self.now in
    let ns = numbers_at (v.producers.built c.args.producer) in
    on_ok_weaker c.grants.result
    (λ told. (λ i. record (view_of c.clear_batches.new.self) { producers = c.shut.ensures i })
    ∙ ap (λ (x : View). record x { producers = shut c.args.producer x.producers }) c.in_ok-clear_batches.ensures.sees
    ∙ (λ i. record v { alarms = clear_all ns v.alarms; producers = shut_is ns v.producers i }))
    c.grants.ensures
