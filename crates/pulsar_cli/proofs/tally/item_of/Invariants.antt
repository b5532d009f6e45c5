use Rattle.std.proofs.Common.{◌≡◌, map, length}
use Rattle.pulsar_calls.specs.Content.{shown}
use Rattle.pulsar_cli.specs.Demo.{item_of}
use Rattle.pulsar_cli.proofs.tally.item_of.Given as goal

abbrev pub invariant-loop-effect : goal.invariant-loop-effect
invariant-loop-effect l = item_of (map shown l.left) ≡ item_of (map shown l.effects)

abbrev pub decreases-loop-effect : goal.decreases-loop-effect
decreases-loop-effect l = length l.left
