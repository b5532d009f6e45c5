use Rattle.std.proofs.Common.{◌∙◌, ap, refl, []}
use Rattle.std.specs.Prelude.{◌||◌}
use Rattle.pulsar_pumps.specs.Pumping.{says_last}
use Rattle.pulsar_pumps.proofs.Ran.{out_same}
use Rattle.pulsar_pumps.proofs.Pumped.{out_ends, out_fails, out_goes_on}
use Rattle.pulsar_pumps.proofs.pumps.pump_out.Goals as goal

pub loop-init : goal.loop-init
loop-init g c = record { far = ([], out_same _ _ _ refl refl refl refl, refl); shut = refl }

pub returns-in-Ok-Some-clause-ran : goal.returns-in-Ok-Some-clause-ran
returns-in-Ok-Some-clause-ran g c = out_ends _ _ _ _ c.in-Ok-Some.field-0 c.in-Ok-Some.end c.in-Ok-Some.field-0-is c.loop.invariant.far c.in-Ok-Some.ensures.ran

pub returns-in-Err-clause-ran : goal.returns-in-Err-clause-ran
returns-in-Err-clause-ran g c = out_fails _ _ _ _ c.loop.invariant.far c.in-Err.ensures.ran

pub loop-preserved : goal.loop-preserved
loop-preserved g c = record { far = out_goes_on _ _ _ _ c.in-Ok-None.field-0 c.in-Ok-None.field-0-is c.loop.invariant.far c.in-Ok-None.ensures.ran; shut = c.in-Ok-None.ensures.shut ∙ (ap (λ r. says_last r || g.O.Output.is_shut c.loop.output) c.in-Ok-None.field-0-is ∙ c.loop.invariant.shut) }
