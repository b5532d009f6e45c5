use Rattle.std.proofs.Common.{refl}
use Rattle.pulsar_wire.specs.Views.{send_receipt_values}
use Rattle.pulsar_work.proofs.Told.{stored}
use Rattle.pulsar_work.proofs.printing.push_receipt.Goals as goal

pub returns : goal.returns
unfolding send_receipt_values
returns c = rw (stored _ _ _ c.in_ok-encode.ensures.again refl) c.push_sent.ensures
