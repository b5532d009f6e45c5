use Rattle.std.proofs.Common.{◌∙◌, ap, map, sym}
use Rattle.pulsar_run.specs.Order.{put, put_all}
use Rattle.pulsar_plans.specs.Plan.{closed_notice}
use Rattle.pulsar_calls.specs.Order.{below}
use Rattle.pulsar_agenda.specs.Agenda.{Agenda}
use Rattle.pulsar_agenda.specs.Agenda.{agenda_of}
use Rattle.pulsar_producer_table.proofs.Grown.{map_end}
use Rattle.pulsar_acts.proofs.Storing.{put_all_end}
use Rattle.pulsar_acts.proofs.tables.batches.join_closed.Goals as goal

pub loop-ticket-preserved : goal.loop-ticket-preserved
loop-ticket-preserved c =
    let g = agenda_of c.args.tasks.now in
    let told = c.loop-ticket.yielded in
    let t = c.in-Some.ticket in
    c.in_ok-join.ensures
    ∙ ap (λ (x : Agenda). record x { here = put below c.in_ok-closed.field-0 x.here }) c.loop-ticket.invariant
    ∙ (λ i. record g { here = put below (c.in_ok-closed.ensures i) (put_all below (map closed_notice told) g.here) })
    ∙ sym (λ i. record g {
      here = (ap (λ ns. put_all below ns g.here) (map_end closed_notice told t) ∙ put_all_end below (map closed_notice told) (closed_notice t) g.here) i;
    })
