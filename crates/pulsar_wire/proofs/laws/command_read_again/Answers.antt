use Rattle.pulsar_wire.proofs.CommandTrip.{command_trip}
use Rattle.pulsar_wire.proofs.laws.command_read_again.Goals as goal

pub returns : goal.returns
returns c = command_trip
