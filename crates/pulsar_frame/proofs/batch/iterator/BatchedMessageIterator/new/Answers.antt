use Rattle.pulsar_frame.specs.Batch.{items_under}
use Rattle.pulsar_frame.proofs.Refusals.{batch_refused}
use Rattle.pulsar_frame.proofs.batch.iterator.BatchedMessageIterator.new.Goals as goal

pub returns : goal.returns
returns c = batch_refused (λ items. items) c.in-Err.e c.refusal.result (items_under c.args.message_id c.args.payload) c.refusal.ensures c.in-Err.ensures
