use Rattle.std.proofs.Common.{refl, []}
use Rattle.pulsar_pumps.proofs.Ran.{out_none, out_same}
use Rattle.pulsar_pumps.proofs.rounds.round_out.Goals as goal

pub returns-in-Ok-true-clause-ran : goal.returns-in-Ok-true-clause-ran
returns-in-Ok-true-clause-ran g c = ([], [], out_none _ _ _ refl c.ended.ensures.same c.shut.ensures.kept c.shut.ensures.grows, (refl, refl))

pub returns-in-Err-clause-ran : goal.returns-in-Err-clause-ran
returns-in-Err-clause-ran g c = ([], [], out_same _ _ _ refl c.ended.ensures.same refl refl)
