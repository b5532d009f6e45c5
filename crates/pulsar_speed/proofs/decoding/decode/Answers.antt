use Rattle.std.proofs.Common.{◌≡◌, ◌∙◌, ◌/◌, ◌%◌, arith}
use Rattle.pulsar_speed.proofs.Blocks.{nothing_held, nothing_left, block_counted, times-more, blocks_of-is}
use Rattle.pulsar_speed.specs.Samples.{AreFrames, first_of, times}
use Rattle.pulsar_speed.proofs.decoding.decode.Goals as goal

pub read_block-requires : goal.read_block-requires
read_block-requires c = nothing_held _ c.loop.invariant.nothing

pub read_block-requires-2 : goal.read_block-requires-2
read_block-requires-2 c = nothing_held _ c.loop.invariant.nothing

pub loop-preserved : goal.loop-preserved
loop-preserved c =
    let block = first_of c.args.sample 4096 in
    let are : AreFrames block c.as_slice.result.now = rw c.as_slice.ensures c.loop.invariant.block in
    let e = c.in_ok-read_block.ensures in
    record {
      nothing = e.rest ∙ nothing_left block _ _ c.loop.invariant.nothing are;
      block = c.loop.invariant.block;
      tally = rw (times-more c.loop.counter block) (block_counted (times c.loop.counter block) block c.loop.reader c.as_slice.result.now _ _ c.loop.invariant.nothing are c.loop.invariant.tally e.counts e.bytes);
    }

pub returns : goal.returns
returns c =
    let block = first_of c.args.sample 4096 in
    let rest = first_of c.args.sample (c.args.count % 4096) in
    let are : AreFrames rest c.as_slice-2.result.now = rw c.as_slice-2.ensures c.in_ok-rest.ensures in
    let e = c.in_ok-read_block-2.ensures in
    let times_all : c.loop.counter ≡ c.args.count / 4096 = omega arith in
    let all = block_counted (times c.loop.counter block) rest c.loop.reader c.as_slice-2.result.now _ _ c.loop.invariant.nothing are c.loop.invariant.tally e.counts e.bytes in
    rw (blocks_of-is c.args.sample c.args.count, ← times_all) all
