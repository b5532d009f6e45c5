use Rattle.std.proofs.Common.{◌≡◌, ◌++◌, ◌∷◌, take, map, length}
use Rattle.std.specs.Prelude.{string_bytes, codes}
use Rattle.std.specs.Fmt.{decimal}
use Rattle.std.specs.List.{flat_map}
use Rattle.pulsar_printing.specs.WordText.{word}
use Rattle.pulsar_printing.proofs.effect.push_names.Given as goal

abbrev pub invariant-loop-name : goal.invariant-loop-name
invariant-loop-name l = string_bytes l.out ≡ string_bytes l.fn.out ++ (codes "ok topics " ++ decimal (length l.names) ++ flat_map (λ name. 32 ∷ word name) (map string_bytes (take l.name-index l.names)))
