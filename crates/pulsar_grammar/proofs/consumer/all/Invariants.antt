use Rattle.std.proofs.Common.{◌≡◌, Some, map, take}
use Rattle.pulsar_grammar.specs.ConsumerWords.{all, blank}
use Rattle.pulsar_grammar.specs.Parsed.{consumer_draft_of}
use Rattle.pulsar_grammar.proofs.consumer.all.Given as goal

abbrev pub invariant-loop-word : goal.invariant-loop-word
invariant-loop-word l = Some (consumer_draft_of l.draft) ≡ all blank (map (λ w. w.now) (take l.word-index l.words))
