use Rattle.std.proofs.Common.{◌∙◌, ◌∷◌, [], refl, subst, sym}
use Rattle.pulsar_run.proofs.Orders.{put_all_order}
use Rattle.pulsar_run.specs.Order.{InOrder}
use Rattle.pulsar_calls.specs.Order.{below}
use Rattle.pulsar_agenda.proofs.Orders.{below_order}
use Rattle.pulsar_agenda.proofs.queue.Queue.join.Goals as goal

pub invariant_of-self-2 : goal.invariant_of-self-2
invariant_of-self-2 c =
    let n = c.args.notice in
    subst (InOrder below) (c.place_in-place.ensures.put n refl ∙ sym c.in_ok-insert.ensures.items)
    (put_all_order below below_order (n ∷ []) c.self.inside.notices.items c.self.invariant)
