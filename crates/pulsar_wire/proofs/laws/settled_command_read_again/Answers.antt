use Rattle.pulsar_wire.proofs.CommandTrip.{settled_trip}
use Rattle.pulsar_wire.proofs.laws.settled_command_read_again.Goals as goal

pub returns : goal.returns
returns c = settled_trip
