use Rattle.std.proofs.Common.{map, take}
use Rattle.pulsar_pumps.specs.Made.{made_of}
use Rattle.pulsar_job.specs.Driven.{Learns, effects_made}
use Rattle.pulsar_job.proofs.links.learn_all.Given as goal

abbrev pub invariant-loop-entry : goal.invariant-loop-entry
invariant-loop-entry l = Learns (effects_made (map made_of (take l.entry-index l.made))) l.fn.progress l.progress
