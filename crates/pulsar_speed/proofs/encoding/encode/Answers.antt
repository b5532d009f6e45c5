use Rattle.std.proofs.Common.{◌≡◌, ◌+◌, ◌∙◌, ap, length, length-append, arith}
use Rattle.bytes.specs.Filled.{Filled}
use Rattle.pulsar_frame.specs.Frame.{frame_bytes}
use Rattle.pulsar_frame.specs.Message.{MessageValues}
use Rattle.pulsar_speed.specs.Samples.{sample_message}
use Rattle.pulsar_speed.specs.Tallies.{number_in}
use Rattle.pulsar_speed.specs.declared.tally.Tally.{Tally}
use Rattle.pulsar_speed.proofs.Repeats.{next_time, frames_repeated}
use Rattle.pulsar_speed.proofs.encoding.encode.Goals as goal
use Rattle.pulsar_speed.proofs.encoding.encode.Goals.{then-len-ge-PIECE+in_ok-count_bytes, else-len-ge-PIECE}

pub loop-preserved : goal.loop-preserved
loop-preserved c =
    let m = sample_message c.args.sample 2 in
    let size : length c.encode.new.dst.items ≡ length c.loop.buffer.items + length (frame_bytes m) =
    ap length c.in_ok-encode.ensures.frame.1 ∙ length-append c.loop.buffer.items _ ∙ ap (λ (x : MessageValues). length c.loop.buffer.items + length (frame_bytes x)) c.in_ok-message.ensures in
    let number = ap number_in c.in_ok-message.ensures in
    let counted = c.in_ok-count_message.ensures in
    let bytes = next_time c.loop.counter (length (frame_bytes m)) in
    let sum = next_time c.loop.counter (number_in m) in
    elim c.if-len-ge-PIECE.branch [
      | then-len-ge-PIECE+in_ok-count_bytes w ↦
          let grown = w.tally-is ∙ w.in_ok-count_bytes.ensures in
          let emptied = ap (λ (b : Filled). length b.items) w.buffer-is ∙ ap length w.clear.ensures.items in
          record {
            count = omega (arith, ap (λ (t : Tally). t.count) grown, counted.0, c.loop.invariant.count);
            bytes = omega (arith, ap (λ (t : Tally). t.bytes) grown, emptied, w.len-then-len-ge-PIECE.ensures.value, counted.2, size, bytes, c.loop.invariant.bytes);
            sum = omega (arith, ap (λ (t : Tally). t.sum) grown, counted.1, number, sum, c.loop.invariant.sum);
          }
      | else-len-ge-PIECE w ↦
          record {
            count = omega (arith, ap (λ (t : Tally). t.count) w.tally-is, counted.0, c.loop.invariant.count);
            bytes = omega (arith, ap (λ (t : Tally). t.bytes) w.tally-is, ap (λ (b : Filled). length b.items) w.buffer-is, counted.2, size, bytes, c.loop.invariant.bytes);
            sum = omega (arith, ap (λ (t : Tally). t.sum) w.tally-is, counted.1, number, sum, c.loop.invariant.sum);
          }
    ]

pub returns : goal.returns
returns c =
    let m = sample_message c.args.sample 2 in
    let all : c.loop.counter ≡ c.args.count = omega arith in
    let grown = c.in_ok-count_bytes-2.ensures in
    let count = ap (λ (t : Tally). t.count) grown in
    let bytes = ap (λ (t : Tally). t.bytes) grown in
    let sum = ap (λ (t : Tally). t.sum) grown in
    rw (← all) (frames_repeated c.loop.counter m _ (count ∙ c.loop.invariant.count) (omega (arith, bytes, c.len-2.ensures.value, c.loop.invariant.bytes)) (sum ∙ c.loop.invariant.sum))
