use Rattle.pulsar_producer.proofs.Reading.{batch_is_read_again, entry_says_its_message}
use Rattle.pulsar_producer.proofs.laws.batches_are_read_again.Goals as goal

pub returns-clause-entry : goal.returns-clause-entry
returns-clause-entry c = entry_says_its_message

pub returns-clause-batch : goal.returns-clause-batch
returns-clause-batch c = batch_is_read_again
