use Rattle.std.proofs.Common.{arith}
use Rattle.pulsar_frame.proofs.Folding.{started-is}
use Rattle.pulsar_frame.proofs.checksum.folding.put_state.Goals as goal

pub returns : goal.returns
returns c = started-is c.args.state c.args.block.now c.to_le_bytes.result c.ranges.state.fits c.to_le_bytes.ensures c.fits-block (omega (arith, c.told-block))
