use Rattle.std.proofs.Common.{◌≡◌, ◌++◌, drop, take}
use Rattle.pulsar_producer.specs.Turns.{placed}
use Rattle.pulsar_producer.proofs.line.spot.Given as goal

abbrev pub invariant-loop-index : goal.invariant-loop-index
invariant-loop-index l = placed l.ticket l.waiting.items ≡ take l.index l.waiting.items ++ placed l.ticket (drop l.index l.waiting.items)
