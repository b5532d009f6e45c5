use Rattle.std.proofs.Common.{arith, ◌≡◌, ◌<◌, ◌∙◌, sym, length}
use Rattle.pulsar_frame.specs.Frame.{front, Whole}
use Rattle.pulsar_frame.specs.Shown.{message_values}
use Rattle.pulsar_frame.proofs.Streams.{front-shorter, left-short}
use Rattle.pulsar_speed.proofs.Blocks.{took, short_has_none}
use Rattle.pulsar_speed.proofs.decoding.take_frames.Goals as goal

pub loop-message-smaller : goal.loop-message-smaller
loop-message-smaller c =
    let whole : front c.loop-message.reader ≡ Whole (message_values c.in-Ok-Some.message) c.next.new.self = rw c.in-Ok-Some.field-0-is at c.in-Ok-Some.ensures in
    let short = front-shorter _ _ _ whole in
    let less : length c.next.new.self < length c.loop-message.reader = omega (arith, short) in
    less

pub loop-message-preserved : goal.loop-message-preserved
loop-message-preserved c =
    let whole : front c.loop-message.reader ≡ Whole (message_values c.in-Ok-Some.message) c.next.new.self = rw c.in-Ok-Some.field-0-is at c.in-Ok-Some.ensures in
    let t = took _ _ _ whole in
    let one = c.in_ok-count_given-in-Ok-Some.ensures in
    record {
      rest = sym t.after ∙ c.loop-message.invariant.rest;
      count = omega (arith, t.frames, one.0, c.loop-message.invariant.count);
      sum = omega (arith, t.numbers, one.1, c.loop-message.invariant.sum);
      bytes = one.2 ∙ c.loop-message.invariant.bytes;
    }

pub returns-in-Ok-None-clause-rest : goal.returns-in-Ok-None-clause-rest
returns-in-Ok-None-clause-rest c =
    let short = rw c.in-Ok-None.field-0-is at c.in-Ok-None.ensures in
    short.1 ∙ sym (left-short _ short.0) ∙ c.loop-message.invariant.rest

pub returns-in-Ok-None-clause-counts : goal.returns-in-Ok-None-clause-counts
returns-in-Ok-None-clause-counts c =
    let short = rw c.in-Ok-None.field-0-is at c.in-Ok-None.ensures in
    let none = short_has_none _ short.0 in
    (omega (arith, none.0, c.loop-message.invariant.count), omega (arith, none.1, c.loop-message.invariant.sum))
