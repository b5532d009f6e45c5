use Rattle.std.proofs.Common.{◌≡◌, ◌++◌, map, take}
use Rattle.pulsar_calls.specs.declared.act.Outcome.TheVariants.{GotLink}
use Rattle.pulsar_calls.specs.Notices.{notice}
use Rattle.pulsar_links.proofs.addresses.serve_all.Given as goal

abbrev pub invariant-loop-who : goal.invariant-loop-who
invariant-loop-who l = l.notices.items ≡ l.fn.notices.items ++ map (λ who. notice who (GotLink l.link)) (take l.who-index l.waiting)
