use Rattle.std.proofs.Common.{◌∙◌, ap}
use Rattle.std.specs.Prelude.{Some}
use Rattle.pulsar_outgoing.proofs.batch.receipt_of.Goals as goal

pub returns-in_ok-new-in-SendReceipt : goal.returns-in_ok-new-in-SendReceipt
returns-in_ok-new-in-SendReceipt c =
    rw c.in-SendReceipt.is (ap Some (c.in_ok-new-in-SendReceipt.ensures ∙ c.in_ok-copy-in-SendReceipt.ensures))
