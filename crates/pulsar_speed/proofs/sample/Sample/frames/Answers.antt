use Rattle.pulsar_speed.proofs.Blocks.{no_frames, next_sample}
use Rattle.pulsar_speed.proofs.sample.Sample.frames.Goals as goal

pub loop-i-init : goal.loop-i-init
loop-i-init c = no_frames c.args.self c.new-bytes.result.items c.new-bytes.ensures.items

pub loop-i-preserved : goal.loop-i-preserved
loop-i-preserved c = next_sample c.args.self c.loop-i.i c.loop-i.bytes.items _ _ c.loop-i.invariant c.in_ok-message.ensures c.in_ok-encode.ensures.again c.in_ok-encode.ensures.frame.1
