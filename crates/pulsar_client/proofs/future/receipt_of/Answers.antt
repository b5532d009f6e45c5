use Rattle.pulsar_client.proofs.Answering.{polled_receipt}
use Rattle.pulsar_client.proofs.future.receipt_of.Goals as goal

pub returns : goal.returns
returns c = polled_receipt c.args.answer c.into_receipt.result c.into_receipt.ensures
