use Rattle.std.proofs.Common.{◌+◌, ap, Some, take, drop}
use Rattle.pulsar_wire.specs.Field.{◌>>=◌}
use Rattle.pulsar_grammar.proofs.Lines.{behind-at}
use Rattle.pulsar_grammar.proofs.message.cut.Goals as goal

pub returns : goal.returns
returns c = rw (behind-at (c.in-Some.at + 1) c.args.word.now) (ap (λ p. p >>= λ at. Some (take at c.args.word.now, drop (at + 1) c.args.word.now)) c.in-Some.ensures)
