use Rattle.std.proofs.Common.{rules}
use Rattle.pulsar_grammar.proofs.Printed.{is-text, no-text}
use Rattle.pulsar_grammar.proofs.word.text.Goals as goal

pub returns-in-Ok : goal.returns-in-Ok
returns-in-Ok c = is-text c.args.word.now c.deref.result.now _ (search rules) (search rules) c.in-Ok.ensures.cases.1

pub returns : goal.returns
returns c = no-text c.args.word.now c.deref.result.now (search rules) c.in-Err.ensures.cases.0
