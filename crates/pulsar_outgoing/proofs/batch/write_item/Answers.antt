use Rattle.std.proofs.Common.{append-nil, sym}
use Rattle.pulsar_frame.specs.Batch.{entry_values}
use Rattle.pulsar_outgoing.proofs.Entries.{batch_none, batch_one}
use Rattle.pulsar_outgoing.proofs.batch.write_item.Goals as goal

pub returns-in-SingleMessage-clause-written : goal.returns-in-SingleMessage-clause-written
returns-in-SingleMessage-clause-written c =
    rw c.in-SingleMessage.is (rw (batch_one (entry_values c.in-SingleMessage.message)) c.write_entry.ensures.written)

pub returns-in-Flush-clause-written : goal.returns-in-Flush-clause-written
returns-in-Flush-clause-written c = rw c.in-Flush.is (rw batch_none (λ _. sym (append-nil c.args.payload.now.items)))
