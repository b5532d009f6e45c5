use Rattle.std.proofs.Common.{◌≡◌, ◌++◌, map, take}
use Rattle.pulsar_calls.specs.Notices.{stopped_one}
use Rattle.pulsar_consumer_table.proofs.hearing.stop_waiting.Given as goal

abbrev pub invariant-loop-who : goal.invariant-loop-who
invariant-loop-who l = l.notices.items ≡ l.fn.notices.items ++ map stopped_one (take l.who-index l.seekers)
