use Rattle.pulsar_frame.proofs.Crc.{word_out}
use Rattle.pulsar_frame.proofs.checksum.blocks.look_word.Goals as goal

pub returns : goal.returns
returns c =
    rw (c.look.ensures, c.look-2.ensures, c.look-3.ensures, c.look-4.ensures)
    (word_out c.args.k c.args.word c.to_le_bytes.result c.ranges.word.fits c.to_le_bytes.ensures)
