use Rattle.std.proofs.Common.{refl, []}
use Rattle.pulsar_pumps.proofs.Ran.{in_same}
use Rattle.pulsar_pumps.proofs.rounds.round_in.Goals as goal

pub returns-in-Err-clause-ran : goal.returns-in-Err-clause-ran
returns-in-Err-clause-ran g c = ([], [], in_same _ _ _ refl c.ended.ensures.same refl refl)
