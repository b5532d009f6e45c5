use Rattle.std.proofs.Common.{rules, tests, arith, sym}
use Rattle.pulsar_grammar.proofs.Numbers.{digit-checked, digit-past}
use Rattle.pulsar_grammar.proofs.word.with_digit.Goals as goal

pub returns-in_err-checked_mul : goal.returns-in_err-checked_mul
returns-in_err-checked_mul c ds = rw c.from_residual.ensures (digit-past c.args.value c.args.digit ds (let past = c.in_err-checked_mul.ensures in omega arith))

pub returns : goal.returns
returns c ds = digit-checked c.args.value c.args.digit c.in_ok-checked_mul.field-0 ds c.checked_add.result (search (rules, tests)) (c.in_ok-checked_mul.ensures.1) (rw (sym c.from.ensures) c.checked_add.ensures)
