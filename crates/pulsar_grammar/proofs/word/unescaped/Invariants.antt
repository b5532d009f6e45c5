use Rattle.std.proofs.Common.{◌≡◌, length}
use Rattle.pulsar_grammar.specs.Words.{unescaped}
use Rattle.pulsar_grammar.proofs.Printed.{behind}
use Rattle.pulsar_grammar.proofs.word.unescaped.Given as goal

abbrev pub invariant-loop-b : goal.invariant-loop-b
invariant-loop-b l = behind l.bytes.items (unescaped l.rest) ≡ unescaped l.word

abbrev pub decreases-loop-b : goal.decreases-loop-b
decreases-loop-b l = length l.rest
