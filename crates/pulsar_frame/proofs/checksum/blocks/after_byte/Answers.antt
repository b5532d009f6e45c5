use Rattle.pulsar_frame.proofs.Crc.{byte_on}
use Rattle.pulsar_frame.proofs.checksum.blocks.after_byte.Goals as goal

pub returns : goal.returns
returns c = rw c.look.ensures (byte_on c.args.state c.args.b c.ranges.b.fits)
