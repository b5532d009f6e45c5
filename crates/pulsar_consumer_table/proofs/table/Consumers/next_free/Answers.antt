use Rattle.std.proofs.Common.{◌∙◌, ◌-◌, ◌^◌, arith, sym}
use Rattle.pulsar_consumer_table.specs.Consumers.{is_passed}
use Rattle.pulsar_consumer_table.specs.KeptConsumers.{consumers_in}
use Rattle.pulsar_consumer_table.proofs.Drawing.{free_here, free_more}
use Rattle.pulsar_consumer_table.proofs.table.Consumers.next_free.Goals as goal

pub loop-number-preserved : goal.loop-number-preserved
loop-number-preserved c =
    let cs = consumers_in c.args.self.now.rows c.args.self.now.numbers in
    let n = c.loop-number.number in
    sym (free_more (is_passed cs) (2 ^ 64 - 1) n (omega arith) (sym c.is_passed.ensures ∙ c.if-is_passed.true)) ∙ c.loop-number.invariant

pub returns-else-is_passed : goal.returns-else-is_passed
returns-else-is_passed c =
    let cs = consumers_in c.args.self.now.rows c.args.self.now.numbers in
    let n = c.loop-number.number in
    sym (free_here (is_passed cs) (2 ^ 64 - 1) n (omega arith) (sym c.is_passed.ensures ∙ c.if-is_passed.false)) ∙ c.loop-number.invariant
