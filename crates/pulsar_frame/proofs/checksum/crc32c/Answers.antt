use Rattle.std.proofs.Common.{rules}
use Rattle.pulsar_frame.specs.Checksum.{crc32c}
use Rattle.pulsar_frame.proofs.checksum.crc32c.Goals as goal

pub returns : goal.returns
unfolding crc32c
returns c = search rules
