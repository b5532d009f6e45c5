use Rattle.std.proofs.Common.{◌≡◌, map, take}
use Rattle.std.specs.Option.{option_map}
use Rattle.pulsar_grammar.specs.ProducerWords.{all, blank}
use Rattle.pulsar_grammar.specs.Parsed.{producer_draft_of}
use Rattle.pulsar_grammar.proofs.producer.all.Given as goal

abbrev pub invariant-loop-word : goal.invariant-loop-word
invariant-loop-word l = option_map producer_draft_of l.draft ≡ all blank (map (λ w. w.now) (take l.word-index l.words))
