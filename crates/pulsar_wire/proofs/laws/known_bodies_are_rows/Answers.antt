use Rattle.pulsar_wire.proofs.CommandTrip.{known}
use Rattle.pulsar_wire.proofs.laws.known_bodies_are_rows.Goals as goal

pub returns : goal.returns
returns c = λ n row e. (known n row e).2
