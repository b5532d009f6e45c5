use Rattle.std.proofs.Common.{rules, ◌+◌}
use Rattle.pulsar_grammar.proofs.Lines.{behind-at, cut-at, one-line}
use Rattle.pulsar_grammar.proofs.word.cut_line.Goals as goal

pub returns-in_err-at : goal.returns-in_err-at
returns-in_err-at c = rw c.from_residual.ensures (one-line c.args.bytes.now (search rules))

pub returns : goal.returns
returns c = rw (behind-at (c.in_ok-at.at + 1) c.args.bytes.now) (cut-at c.args.bytes.now c.in_ok-at.at (search rules))
