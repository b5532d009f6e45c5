use Rattle.std.proofs.Common.{◌∙◌, ◌++◌, ap, sym}
use Rattle.std.proofs.lemmas.List.{append-nil}
use Rattle.std.proofs.lemmas.Result.{on_ok_weaker}
use Rattle.pulsar_run.specs.Order.{put_all}
use Rattle.pulsar_consumer_table.specs.Consumers.{all_changed, closes, over_rows, word_of_close}
use Rattle.pulsar_consumer_table.specs.Notices.{word_to}
use Rattle.pulsar_acts.specs.Reading.{tells}
use Rattle.pulsar_calls.specs.Order.{below}
use Rattle.pulsar_agenda.specs.Agenda.{Agenda}
use Rattle.pulsar_agenda.specs.Agenda.{agenda_of}
use Rattle.pulsar_acts.specs.Tables.{view_of}
use Rattle.pulsar_acts.proofs.Linking.{asked_is}
use Rattle.pulsar_acts.proofs.tables.Tables.asks.Goals as goal

pub returns-clause-out : goal.returns-clause-out
returns-clause-out c = on_ok_weaker c.tell.result (λ told. c.in_ok-is_asked.ensures.out) c.tell.ensures

pub returns-clause-left : goal.returns-clause-left
returns-clause-left c =
    let v = view_of c.args.self.now in
    let g = agenda_of c.args.tasks.now in
    let who = c.args.who in
    let l = c.args.link in
    let closed = c.closed_consumer-closed.ensures in
    let asked = c.in_ok-is_asked.ensures in
    let notices =
    c.in_ok-notices.ensures.notices ∙ (λ i. over_rows (λ t m. word_to t m (word_of_close (closed i) l (asked.asked i) m)) v.consumers)
    in
    on_ok_weaker c.tell.result
    (λ told. told
    ∙ ap (λ (x : Agenda). record x { now = tells who c.in_ok-is_asked.outcome ++ x.now }) c.in_ok-join_all.ensures
    ∙ (λ i. record g {
      now = tells who (asked.told i) ++ g.now;
      here = put_all below (notices i) g.here;
      behind = sym (append-nil g.behind) i;
    }))
    c.tell.ensures

pub returns-clause-sees : goal.returns-clause-sees
returns-clause-sees c =
    let v = view_of c.args.self.now in
    let l = c.args.link in
    let closed = c.closed_consumer-closed.ensures in
    let asked = c.in_ok-is_asked.ensures in
    let after = c.in_ok-notices.ensures.after ∙ (λ i. all_changed (closes (closed i) l (asked.asked i)) v.consumers) in
    on_ok_weaker c.tell.result
    (λ told. λ i. record v {
      links = record { started = asked.started i; live = λ k. (asked.live k ∙ sym (asked_is v c.args.who l c.args.request k)) i };
      consumers = after i;
    }) c.tell.ensures
