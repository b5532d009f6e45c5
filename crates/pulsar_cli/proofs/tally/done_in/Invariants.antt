use Rattle.std.proofs.Common.{◌≡◌, map, length}
use Rattle.std.specs.List.{list_any}
use Rattle.pulsar_calls.specs.Content.{shown}
use Rattle.pulsar_cli.specs.Demo.{is_done}
use Rattle.pulsar_cli.proofs.tally.done_in.Given as goal

abbrev pub invariant-loop-effect : goal.invariant-loop-effect
invariant-loop-effect l = list_any (is_done l.ticket) (map shown l.left) ≡ list_any (is_done l.ticket) (map shown l.effects)

abbrev pub decreases-loop-effect : goal.decreases-loop-effect
decreases-loop-effect l = length l.left
