use Rattle.std.proofs.Common.{◌≡◌, ◌+◌, ◌++◌, length}
use Rattle.pulsar_frame.specs.Frame.{cut, left}
use Rattle.std.specs.List.{sum_by}
use Rattle.pulsar_speed.specs.Tallies.{number_in}
use Rattle.pulsar_speed.proofs.decoding.read_block.Given as goal

abbrev pub invariant-loop-rest : goal.invariant-loop-rest
invariant-loop-rest l = record {
  settled : left l.reader ≡ l.reader;
  rest : left (l.reader ++ l.rest) ≡ left (l.fn.reader ++ l.fn.block);
  count : l.tally.count + length (cut (l.reader ++ l.rest)) ≡ l.fn.tally.count + length (cut (l.fn.reader ++ l.fn.block));
  sum : l.tally.sum + sum_by number_in (cut (l.reader ++ l.rest)) ≡ l.fn.tally.sum + sum_by number_in (cut (l.fn.reader ++ l.fn.block));
  bytes : l.tally.bytes ≡ l.fn.tally.bytes + length l.fn.block;
}

abbrev pub decreases-loop-rest : goal.decreases-loop-rest
decreases-loop-rest l = length l.rest
