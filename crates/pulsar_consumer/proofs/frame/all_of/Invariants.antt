use Rattle.std.proofs.Common.{◌≡◌, ◌++◌, map}
use Rattle.pulsar_consumer.specs.Items.{given}
use Rattle.pulsar_consumer.proofs.frame.all_of.Given as goal

abbrev pub invariant-loop-id : goal.invariant-loop-id
invariant-loop-id l = l.items.items ++ map given l.messages ≡ map given l.fn.messages
