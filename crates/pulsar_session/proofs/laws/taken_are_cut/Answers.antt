use Rattle.pulsar_session.proofs.Streams.{taken_are_cut}
use Rattle.pulsar_session.proofs.laws.taken_are_cut.Goals as goal

pub returns : goal.returns
returns c = taken_are_cut
