use Rattle.std.proofs.Common.{◌≡◌, length}
use Rattle.pulsar_consumer.specs.Topic.{goes_on}
use Rattle.pulsar_consumer.proofs.engine.ConsumerEngine.go_on.Given as goal

abbrev pub invariant-frames : goal.invariant-frames
invariant-frames l = goes_on l.self.waiting l.self ≡ goes_on l.fn.self.waiting l.fn.self

abbrev pub decreases-frames : goal.decreases-frames
decreases-frames l = length l.self.waiting
