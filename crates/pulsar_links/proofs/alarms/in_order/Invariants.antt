use Rattle.std.proofs.Common.{◌≡◌, map}
use Rattle.pulsar_links.proofs.alarms.in_order.Given as goal

abbrev pub invariant-loop-alarm : goal.invariant-loop-alarm
invariant-loop-alarm l = l.alarms.items ≡ map (λ x. x.now) l.yielded
