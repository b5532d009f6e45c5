use Rattle.std.proofs.Common.{[], refl}
use Rattle.pulsar_wire.proofs.commands.base.command_len.Goals as goal

pub returns : goal.returns
returns c = c.in-Ok.ensures.ok [] refl
