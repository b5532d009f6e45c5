use Rattle.std.proofs.Common.{◌≡◌, map}
use Rattle.pulsar_links.proofs.alarms.Alarms.all.Given as goal

abbrev pub invariant-loop-alarm : goal.invariant-loop-alarm
invariant-loop-alarm l = l.all.items ≡ map (λ e. e.0.now) l.yielded
