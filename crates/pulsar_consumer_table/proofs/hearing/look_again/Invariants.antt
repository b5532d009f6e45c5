use Rattle.std.proofs.Common.{◌≡◌, ◌++◌, map, take}
use Rattle.pulsar_consumer_table.specs.Notices.{again}
use Rattle.pulsar_consumer_table.proofs.hearing.look_again.Given as goal

abbrev pub invariant-loop-who : goal.invariant-loop-who
invariant-loop-who l = l.notices.items ≡ l.fn.notices.items ++ map again (take l.who-index l.seekers)
