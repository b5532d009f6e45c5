use Rattle.std.proofs.Common.{◌≡◌, take}
use Rattle.std.specs.List.{flat_map}
use Rattle.pulsar_links.specs.Kept.{addresses_of}
use Rattle.pulsar_acts.specs.Rules.{stopped_with}
use Rattle.pulsar_acts.proofs.tables.alarms.stopped_with.Given as goal

abbrev pub invariant-loop-alarm : goal.invariant-loop-alarm
invariant-loop-alarm l = l.notices.items ≡ flat_map (stopped_with (addresses_of l.addresses)) (take l.alarm-index l.alarms)
