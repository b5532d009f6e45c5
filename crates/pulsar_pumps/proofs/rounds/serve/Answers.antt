use Rattle.pulsar_pumps.proofs.Ran.{lost_so}
use Rattle.pulsar_pumps.proofs.rounds.serve.Goals as goal

pub returns-in-Ok-clause-ran : goal.returns-in-Ok-clause-ran
returns-in-Ok-clause-ran g c = lost_so c.in-Ok-Failed.field-0 c.in-Ok-Failed.field-0-is _ _ _ _ c.in-Ok-Failed.ensures.ran c.in-Ok.ensures.ok c.shut.ensures.kept c.shut.ensures.grows
