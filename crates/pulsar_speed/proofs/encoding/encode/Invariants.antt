use Rattle.std.proofs.Common.{◌≡◌, ◌+◌, ◌*◌, length}
use Rattle.pulsar_frame.specs.Frame.{frame_bytes}
use Rattle.pulsar_speed.specs.Samples.{sample_message}
use Rattle.pulsar_speed.specs.Tallies.{number_in}
use Rattle.pulsar_speed.proofs.encoding.encode.Given as goal

abbrev pub invariant-loop : goal.invariant-loop
invariant-loop l = record {
  count : l.tally.count ≡ l.counter;
  bytes : l.tally.bytes + length l.buffer.items ≡ l.counter * length (frame_bytes (sample_message l.fn.sample 2));
  sum : l.tally.sum ≡ l.counter * number_in (sample_message l.fn.sample 2);
}
