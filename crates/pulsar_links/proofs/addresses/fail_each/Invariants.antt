use Rattle.std.proofs.Common.{◌≡◌, ◌++◌, map, take}
use Rattle.pulsar_links.specs.LinkRules.{failed}
use Rattle.pulsar_links.proofs.addresses.fail_each.Given as goal

abbrev pub invariant-loop-who : goal.invariant-loop-who
invariant-loop-who l = l.notices.items ≡ l.fn.notices.items ++ map (failed l.end l.starter) (take l.who-index l.waiting)
