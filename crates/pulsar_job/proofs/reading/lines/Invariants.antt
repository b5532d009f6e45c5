use Rattle.std.proofs.Common.{◌≡◌, ◌++◌, length, map}
use Rattle.pulsar_work.specs.Form.{lines_of}
use Rattle.pulsar_job.proofs.reading.lines.Given as goal

abbrev pub invariant-loop-line : goal.invariant-loop-line
invariant-loop-line l = map (λ v. v.items) l.lines.items ++ lines_of l.rest ≡ lines_of l.bytes

abbrev pub decreases-loop-line : goal.decreases-loop-line
decreases-loop-line l = length l.rest
