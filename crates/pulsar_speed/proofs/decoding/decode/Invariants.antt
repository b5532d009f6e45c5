use Rattle.std.proofs.Common.{◌≡◌, []}
use Rattle.pulsar_speed.specs.Samples.{AreFrames, first_of, times}
use Rattle.pulsar_speed.specs.Tallies.{frames_tally}
use Rattle.pulsar_speed.proofs.decoding.decode.Given as goal

abbrev pub invariant-loop : goal.invariant-loop
invariant-loop l = record {
  nothing : l.reader ≡ [];
  block : AreFrames (first_of l.sample 4096) l.block.items;
  tally : l.tally ≡ frames_tally (times l.counter (first_of l.sample 4096));
}
