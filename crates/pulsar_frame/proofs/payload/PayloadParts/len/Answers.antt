use Rattle.std.proofs.Common.{arith}
use Rattle.pulsar_frame.specs.Payload.{parts_values}
use Rattle.pulsar_frame.proofs.Payloads.{length-payload_bytes}
use Rattle.pulsar_frame.proofs.payload.PayloadParts.len.Goals as goal

pub returns : goal.returns
returns c = omega (arith, length-payload_bytes (parts_values c.args.self.now), c.encoded_len.ensures, c.saturating_add.ensures, c.saturating_add-2.ensures)
