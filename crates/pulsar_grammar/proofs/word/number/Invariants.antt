use Rattle.std.proofs.Common.{◌≡◌, ◌<◌, ◌^◌, length}
use Rattle.pulsar_grammar.specs.Words.{digits_from, in_range}
use Rattle.pulsar_grammar.proofs.word.number.Given as goal

abbrev pub invariant-loop-digit : goal.invariant-loop-digit
invariant-loop-digit l = (in_range (digits_from l.value l.rest) ≡ in_range (digits_from 0 l.word)) × (l.value < 2 ^ 64)

abbrev pub decreases-loop-digit : goal.decreases-loop-digit
decreases-loop-digit l = length l.rest
