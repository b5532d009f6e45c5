use Rattle.std.proofs.Common.{ap, sym}
use Rattle.pulsar_frame.specs.Checksum.{crc32c, start, turned}
use Rattle.pulsar_frame.proofs.Changes.{after-append}
use Rattle.pulsar_frame.proofs.payload.checksum_of.Goals as goal

pub returns : goal.returns
unfolding crc32c
returns c = rw (c.value.ensures, c.update-2.ensures, c.update.ensures, c.new-checksum.ensures) (ap turned (sym (after-append start c.args.described.now c.args.payload.now)))
