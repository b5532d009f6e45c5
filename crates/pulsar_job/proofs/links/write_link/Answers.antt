use Rattle.std.proofs.Common.{rules}
use Rattle.pulsar_job.proofs.Goings.{goes-then}
use Rattle.pulsar_job.proofs.links.write_link.Goals as goal

pub returns-then-not-branch : goal.returns-then-not-branch
returns-then-not-branch g c = λ w before behind. goes-then w _ _ _ _ _ _ _ _ _ (c.loop.invariant.2 w before behind) (c.in_ok-write_once.ensures w before behind)

pub loop-preserved : goal.loop-preserved
loop-preserved g c = (search rules, search rules, λ w before behind. goes-then w _ _ _ _ _ _ _ _ _ (c.loop.invariant.2 w before behind) (c.in_ok-write_once.ensures w before behind))
