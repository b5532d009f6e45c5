use Rattle.std.proofs.Common.{◌≡◌}
use Rattle.std.specs.BTreeSet.{contains}
use Rattle.std.specs.List.{list_any}
use Rattle.pulsar_links.specs.Alarms.{alarm_cmp}
use Rattle.pulsar_calls.specs.declared.act.Alarm.{Alarm}
use Rattle.pulsar_links.proofs.alarms.Alarms.ringing.Given as goal

abbrev pub invariant-loop-alarms : goal.invariant-loop-alarms
invariant-loop-alarms l = (a : Alarm) → contains alarm_cmp l.found a ≡ list_any (λ e. contains alarm_cmp e.1.now a) l.yielded
