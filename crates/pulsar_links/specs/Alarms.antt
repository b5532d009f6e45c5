-- What comes of itself at its moment: the alarms that are set, in the order in which a tick brings those that are due.
use Rattle.std.specs.Prelude.{ℕ, nat_le, not, Bool, List, map, filter, Option}
use Rattle.std.specs.declared.cmp.Ordering.{Ordering}
use Rattle.std.specs.BTreeMap.{insert_entry, is_at}
use Rattle.std.specs.Map.{lookup}
use Rattle.pulsar_requests.specs.Soonest.{has_come}
use Rattle.pulsar_calls.specs.contracts.act.AlarmOrd.TheImpl.{cmp-value}
use Rattle.pulsar_calls.specs.declared.act.Alarm.{Alarm}

-- by kind, in the order in which the kinds are declared, and then by number
abbrev pub alarm_cmp : Alarm → Alarm → Ordering
alarm_cmp = cmp-value.it

abbrev pub is_same_alarm : Alarm → Alarm → Bool
is_same_alarm a b = is_at (alarm_cmp a) b

-- an alarm is set to a moment, in the place of an earlier moment; or to none
abbrev pub set : Alarm → (moment : ℕ) → List (Alarm × ℕ) → List (Alarm × ℕ)
set a moment alarms = insert_entry alarm_cmp alarms a moment

abbrev pub clear : Alarm → List (Alarm × ℕ) → List (Alarm × ℕ)
clear a alarms = filter (λ e. not (is_same_alarm a e.0)) alarms

abbrev pub moment_of : Alarm → List (Alarm × ℕ) → Option ℕ
moment_of a alarms = lookup (is_same_alarm a) alarms

-- an alarm is set, and its moment has come
abbrev pub rings : (now : ℕ) → Alarm → List (Alarm × ℕ) → Bool
rings now a alarms = has_come now (moment_of a alarms)

-- those whose moment has come
abbrev pub ringing : (now : ℕ) → List (Alarm × ℕ) → List Alarm
ringing now alarms = map (λ e. e.0) (filter (λ e. nat_le e.1 now) alarms)
