use Rattle.std.proofs.Common.{◌≡◌, ◌||◌, map}
use Rattle.std.specs.BTreeSet.{contains}
use Rattle.std.specs.List.{list_any}
use Rattle.pulsar_links.specs.Alarms.{alarm_cmp, is_same_alarm}
use Rattle.pulsar_calls.specs.declared.act.Alarm.{Alarm}
use Rattle.pulsar_links.proofs.alarms.add_all.Given as goal

abbrev pub invariant-loop-alarm : goal.invariant-loop-alarm
invariant-loop-alarm l =
    (a : Alarm) → contains alarm_cmp l.found a ≡ (contains alarm_cmp l.fn.found a || list_any (is_same_alarm a) (map (λ x. x.now) l.yielded))
