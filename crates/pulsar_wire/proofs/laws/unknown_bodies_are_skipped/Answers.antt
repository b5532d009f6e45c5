use Rattle.pulsar_wire.proofs.Unknown.{command_skips}
use Rattle.pulsar_wire.proofs.laws.unknown_bodies_are_skipped.Goals as goal

pub returns : goal.returns
returns c = command_skips
