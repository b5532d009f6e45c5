use Rattle.std.proofs.Common.{◌∙◌, ap}
use Rattle.std.specs.Prelude.{Some}
use Rattle.pulsar_pumps.proofs.Pumped.{turn_ends}
use Rattle.pulsar_pumps.proofs.pumps.turn_out.Goals as goal

pub returns-in-Ok-Some-Lost-clause-ran : goal.returns-in-Ok-Some-Lost-clause-ran
returns-in-Ok-Some-Lost-clause-ran g c = turn_ends _ _ _ _ _ (c.in-Ok-Some-Lost.field-0-is ∙ ap Some c.in-Ok-Some-Lost.field-0-0-is) c.in-Ok-Some-Lost.ensures.ran
