use Rattle.std.proofs.Common.{◌≡◌, map, length}
use Rattle.pulsar_calls.specs.Content.{shown}
use Rattle.pulsar_cli.specs.Demo.{writes}
use Rattle.pulsar_cli.proofs.course.writes.Given as goal

abbrev pub invariant-loop-effect : goal.invariant-loop-effect
invariant-loop-effect l = writes (map shown l.left) ≡ writes (map shown l.effects)

abbrev pub decreases-loop-effect : goal.decreases-loop-effect
decreases-loop-effect l = length l.left
