use Rattle.std.proofs.Common.{◌≡◌, ◌*◌, length}
use Rattle.pulsar_frame.specs.Checksum.{crc32c}
use Rattle.pulsar_speed.specs.Samples.{buffer}
use Rattle.pulsar_speed.proofs.checksums.checksum.Given as goal

abbrev pub invariant-loop : goal.invariant-loop
invariant-loop l = record {
  count : l.tally.count ≡ l.counter;
  bytes : l.tally.bytes ≡ l.counter * length buffer;
  sum : l.tally.sum ≡ l.counter * crc32c buffer;
}
