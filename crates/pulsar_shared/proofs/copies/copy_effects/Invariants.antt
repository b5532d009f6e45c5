use Rattle.std.proofs.Common.{◌≡◌, map, take}
use Rattle.pulsar_calls.specs.Content.{shown}
use Rattle.pulsar_shared.proofs.copies.copy_effects.Given as goal

abbrev pub invariant-loop-effect : goal.invariant-loop-effect
invariant-loop-effect l = map shown l.all.items ≡ map shown (take l.effect-index l.effects)
