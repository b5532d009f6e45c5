use Rattle.pulsar_wire.proofs.RoundTrip.{round_trip}
use Rattle.pulsar_wire.proofs.laws.read_again.Goals as goal

pub returns : goal.returns
returns c = round_trip
