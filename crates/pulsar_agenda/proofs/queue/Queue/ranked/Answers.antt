use Rattle.std.proofs.Common.{subst, sym}
use Rattle.pulsar_run.proofs.Orders.{arranges}
use Rattle.pulsar_run.specs.Order.{InOrder}
use Rattle.pulsar_calls.specs.Order.{below}
use Rattle.pulsar_agenda.proofs.Orders.{below_order}
use Rattle.pulsar_agenda.proofs.queue.Queue.ranked.Goals as goal

pub invariant_of-result : goal.invariant_of-result
invariant_of-result c = subst (InOrder below) (sym c.in_ok-notices.ensures) (arranges below below_order c.args.notices.items).in_order
