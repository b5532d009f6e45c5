use Rattle.std.proofs.Common.{◌≡◌, ◌∙◌, ap, length, arith}
use Rattle.pulsar_frame.specs.Checksum.{crc32c}
use Rattle.pulsar_speed.specs.Samples.{buffer}
use Rattle.pulsar_speed.specs.declared.tally.Tally.{Tally}
use Rattle.pulsar_speed.proofs.Repeats.{next_time}
use Rattle.pulsar_speed.proofs.Same.{same_tally}
use Rattle.pulsar_speed.proofs.checksums.checksum.Goals as goal

pub loop-preserved : goal.loop-preserved
loop-preserved c =
    let is : c.in_ok-buffer.buffer.items ≡ buffer = c.in_ok-buffer.ensures in
    let size : c.len.result ≡ length buffer = omega (arith, c.len.ensures, c.in_ok-buffer.buffer.ok, ap length is) in
    let number : c.crc32c.result ≡ crc32c buffer = c.crc32c.ensures ∙ ap crc32c (c.deref.ensures.value ∙ is) in
    let counted = c.in_ok-count_one.ensures in
    let grown = c.in_ok-count_bytes.ensures in
    let count = ap (λ (t : Tally). t.count) grown in
    let bytes = ap (λ (t : Tally). t.bytes) grown in
    let sum = ap (λ (t : Tally). t.sum) grown in
    record {
      count = omega (arith, count, counted.0, c.loop.invariant.count);
      bytes = omega (arith, bytes, size, counted.2, c.loop.invariant.bytes, next_time c.loop.counter (length buffer));
      sum = omega (arith, sum, number, c.from.ensures, counted.1, c.loop.invariant.sum, next_time c.loop.counter (crc32c buffer));
    }

pub returns : goal.returns
returns c =
    let all : c.loop.counter ≡ c.args.count = omega arith in
    rw (← all) (same_tally _ _ c.loop.invariant.count c.loop.invariant.bytes c.loop.invariant.sum)
