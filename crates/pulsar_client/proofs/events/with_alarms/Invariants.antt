use Rattle.std.proofs.Common.{◌≡◌, ◌++◌, map}
use Rattle.pulsar_calls.specs.declared.act.Part.TheVariants.{Rings}
use Rattle.pulsar_client.proofs.events.with_alarms.Given as goal

abbrev pub invariant-loop-alarm : goal.invariant-loop-alarm
invariant-loop-alarm l = l.parts.items ≡ l.fn.parts.items ++ map Rings l.yielded
