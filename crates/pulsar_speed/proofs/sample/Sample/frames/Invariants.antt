use Rattle.pulsar_speed.specs.Samples.{first_of, AreFrames}
use Rattle.pulsar_speed.proofs.sample.Sample.frames.Given as goal

abbrev pub invariant-loop-i : goal.invariant-loop-i
invariant-loop-i l = AreFrames (first_of l.self l.i) l.bytes.items
