use Rattle.std.proofs.Common.{[], refl}
use Rattle.pulsar_wire.proofs.encoding.message.encoded_len.Goals as goal

pub returns : goal.returns
returns g c = c.in-Ok.ensures.ok [] refl
