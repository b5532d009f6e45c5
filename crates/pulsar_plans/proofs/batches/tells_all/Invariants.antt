use Rattle.std.proofs.Common.{◌≡◌, ◌++◌, length, map}
use Rattle.pulsar_plans.specs.Plan.{told_to}
use Rattle.pulsar_plans.proofs.batches.tells_all.Given as goal

abbrev pub invariant-loop-report : goal.invariant-loop-report
invariant-loop-report l = l.notices ++ map told_to l.reports ≡ map told_to l.fn.reports

abbrev pub decreases-loop-report : goal.decreases-loop-report
decreases-loop-report l = length l.reports
