use Rattle.pulsar_wire.proofs.CommandTrip.{one_spelling}
use Rattle.pulsar_wire.proofs.laws.one_spelling.Goals as goal

pub returns : goal.returns
returns c = one_spelling
