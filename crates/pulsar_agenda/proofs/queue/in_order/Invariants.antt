use Rattle.std.proofs.Common.{◌≡◌}
use Rattle.pulsar_agenda.proofs.queue.in_order.Given as goal

abbrev pub invariant-loop-notice : goal.invariant-loop-notice
invariant-loop-notice l = l.ordered.items ≡ l.yielded
