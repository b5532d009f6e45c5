use Rattle.std.proofs.Common.{◌≡◌, ◌-◌, ◌^◌}
use Rattle.pulsar_consumer_table.specs.Consumers.{free_from, is_passed, next_free}
use Rattle.pulsar_consumer_table.specs.KeptConsumers.{consumers_in}
use Rattle.pulsar_consumer_table.proofs.table.Consumers.next_free.Given as goal

abbrev pub invariant-loop-number : goal.invariant-loop-number
invariant-loop-number l =
    let cs = consumers_in l.self.rows l.self.numbers in
    free_from (2 ^ 64 - 1 - l.number) (is_passed cs) l.number ≡ next_free cs

abbrev pub decreases-loop-number : goal.decreases-loop-number
decreases-loop-number l = 2 ^ 64 - 1 - l.number
