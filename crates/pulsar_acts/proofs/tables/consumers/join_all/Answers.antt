use Rattle.std.proofs.Common.{◌∙◌, ap, sym}
use Rattle.pulsar_run.specs.Order.{put}
use Rattle.pulsar_calls.specs.Order.{below}
use Rattle.pulsar_agenda.specs.Agenda.{Agenda}
use Rattle.pulsar_agenda.specs.Agenda.{agenda_of}
use Rattle.pulsar_acts.proofs.Storing.{put_all_end}
use Rattle.pulsar_acts.proofs.tables.consumers.join_all.Goals as goal

pub loop-notice-preserved : goal.loop-notice-preserved
loop-notice-preserved c =
    let g = agenda_of c.args.tasks.now in
    let told = c.loop-notice.yielded in
    let n = c.in-Some.notice in
    c.in_ok-join.ensures
    ∙ ap (λ (x : Agenda). record x { here = put below n x.here }) c.loop-notice.invariant
    ∙ sym (λ i. record g { here = put_all_end below told n g.here i })
