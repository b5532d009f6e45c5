use Rattle.std.proofs.Common.{◌≡◌, ◌++◌, take, map}
use Rattle.std.specs.Prelude.{string_bytes, codes}
use Rattle.std.specs.Fmt.{decimal}
use Rattle.std.specs.List.{flat_map}
use Rattle.pulsar_calls.specs.Content.{shown}
use Rattle.pulsar_printing.specs.Text.{effect, line}
use Rattle.pulsar_printing.proofs.effect.push_step.Given as goal

abbrev pub invariant-loop-effect : goal.invariant-loop-effect
invariant-loop-effect l = string_bytes l.out ≡ string_bytes l.fn.out ++ (line (codes "event " ++ decimal l.fn.event) ++ flat_map (λ e. line (effect e)) (map shown (take l.effect-index l.effects)))
