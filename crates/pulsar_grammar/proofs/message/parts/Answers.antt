use Rattle.std.proofs.Common.{rules, tests, codes}
use Rattle.std.specs.Str.{bytes_eq}
use Rattle.std.proofs.lemmas.Iterator.Consumers.{map_from_collect}
use Rattle.std.proofs.lemmas.Iterator.Splits.{YieldsList-from_slice_split}
use Rattle.pulsar_grammar.proofs.Producers.{parts-seen}
use Rattle.pulsar_grammar.proofs.message.parts.Goals as goal

pub returns : goal.returns
returns c = parts-seen (λ p. p.now) (λ w. w.now) c.args.words.now _ (map_from_collect _ c.collect.ensures.ran (YieldsList-from_slice_split _ (λ w. bytes_eq w.now (codes "/")) c.args.words.now c.split.ensures.rest c.split.ensures.done c.split.ensures.closure (λ x r q k. search (rules, tests))))
