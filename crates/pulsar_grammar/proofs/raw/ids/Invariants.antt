use Rattle.std.proofs.Common.{◌≡◌, map, take}
use Rattle.std.specs.Option.{option_map}
use Rattle.pulsar_wire.specs.Row.{each}
use Rattle.pulsar_grammar.specs.Encoded.{id}
use Rattle.pulsar_grammar.specs.Parsed.{ids_of}
use Rattle.pulsar_grammar.proofs.raw.ids.Given as goal

abbrev pub invariant-loop-word : goal.invariant-loop-word
invariant-loop-word l = option_map ids_of l.ids ≡ each id (map (λ w. w.now) (take l.word-index l.words))
