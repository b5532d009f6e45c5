use Rattle.pulsar_frame.proofs.Crc.{block_in}
use Rattle.pulsar_frame.proofs.checksum.blocks.after_block.Goals as goal

pub returns : goal.returns
returns c =
    rw (c.look_word.ensures, c.look_word-2.ensures, c.look_word-3.ensures, c.look_word-4.ensures, c.word_at.ensures, c.word_at-2.ensures, c.word_at-3.ensures, c.word_at-4.ensures)
    (block_in c.args.state c.args.block.now c.told-block c.fits-block)
