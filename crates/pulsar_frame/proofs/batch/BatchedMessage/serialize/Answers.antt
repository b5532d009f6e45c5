use Rattle.std.proofs.Common.{arith}
use Rattle.pulsar_frame.specs.Batch.{FitsSize, FitsPayload, entry_values}
use Rattle.pulsar_frame.proofs.Batches.{entry-written, reads_back}
use Rattle.pulsar_frame.proofs.batch.BatchedMessage.serialize.Goals as goal

pub returns-clause-entry : goal.returns-clause-entry
returns-clause-entry c =
    let entry = entry_values c.args.self.now in
    let fits : FitsSize entry = omega (arith, c.encoded_len.ensures, c.in-Ok.ensures) in
    let small : FitsPayload entry = omega (arith, c.if-len-gt-MAX_PAYLOAD.false) in
    let whole =
    entry-written entry c.new-head.result.items c.write_sized.new.out.items _ _ c.extend_from_slice.new.self.items c.args.w.now.items _
    c.new-head.ensures.items c.in_ok-write_sized.ensures.ok c.deref.ensures.value c.in_ok-extend_from_slice.ensures.items
    c.deref-2.ensures.value c.in_default-extend_from_slice.ensures.items in
    (fits, small, whole)

pub returns-clause-again : goal.returns-clause-again
returns-clause-again c =
    let fits : FitsSize (entry_values c.args.self.now) = omega (arith, c.encoded_len.ensures, c.in-Ok.ensures) in
    reads_back (entry_values c.args.self.now) fits c.in_ok-write_sized.ensures.again
