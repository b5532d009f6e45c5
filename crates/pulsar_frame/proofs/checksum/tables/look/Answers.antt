-- The tables are what the rule computes.
use Rattle.std.proofs.Common.{arith}
use Rattle.pulsar_frame.specs.Checksum.{after_bit}
use Rattle.pulsar_frame.proofs.Crc.{tables_hold}
use Rattle.pulsar_frame.proofs.checksum.tables.look.Goals as goal

pub returns : goal.returns
unfolding after_bit
returns c = tables_hold c.args.k c.args.b c.requires (omega arith)
