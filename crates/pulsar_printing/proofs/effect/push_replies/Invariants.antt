use Rattle.std.proofs.Common.{◌≡◌, ◌++◌, ◌∷◌, take, map, length}
use Rattle.std.specs.Prelude.{string_bytes, codes}
use Rattle.std.specs.Fmt.{decimal}
use Rattle.std.specs.List.{flat_map}
use Rattle.pulsar_wire.specs.Views.{body_values}
use Rattle.pulsar_exchange.specs.Messages.{written}
use Rattle.pulsar_printing.specs.WordText.{hex}
use Rattle.pulsar_printing.proofs.effect.push_replies.Given as goal

abbrev pub invariant-loop-body : goal.invariant-loop-body
invariant-loop-body l = string_bytes l.out ≡ string_bytes l.fn.out ++ (codes "ok replies " ++ decimal (length l.bodies) ++ flat_map (λ body. 32 ∷ hex body.bytes) (map (λ b. written (body_values b)) (take l.body-index l.bodies)))
