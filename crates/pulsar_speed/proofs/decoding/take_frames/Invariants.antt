use Rattle.std.proofs.Common.{◌≡◌, ◌+◌, length}
use Rattle.pulsar_frame.specs.Frame.{cut, left}
use Rattle.std.specs.List.{sum_by}
use Rattle.pulsar_speed.specs.Tallies.{number_in}
use Rattle.pulsar_speed.proofs.decoding.take_frames.Given as goal

abbrev pub invariant-loop-message : goal.invariant-loop-message
invariant-loop-message l = record {
  rest : left l.reader ≡ left l.fn.reader;
  count : l.tally.count + length (cut l.reader) ≡ l.fn.tally.count + length (cut l.fn.reader);
  sum : l.tally.sum + sum_by number_in (cut l.reader) ≡ l.fn.tally.sum + sum_by number_in (cut l.fn.reader);
  bytes : l.tally.bytes ≡ l.fn.tally.bytes;
}

abbrev pub decreases-loop-message : goal.decreases-loop-message
decreases-loop-message l = length l.reader
