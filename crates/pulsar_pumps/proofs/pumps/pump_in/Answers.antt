use Rattle.std.proofs.Common.{refl, []}
use Rattle.pulsar_pumps.proofs.Ran.{in_same}
use Rattle.pulsar_pumps.proofs.Pumped.{in_ends, in_fails, in_goes_on, still}
use Rattle.pulsar_pumps.proofs.pumps.pump_in.Goals as goal

pub loop-init : goal.loop-init
loop-init g c = ([], in_same _ _ _ refl refl refl refl, refl)

pub returns-in-Ok-Some-clause-ran : goal.returns-in-Ok-Some-clause-ran
returns-in-Ok-Some-clause-ran g c = in_ends _ _ _ _ c.in-Ok-Some.field-0 c.in-Ok-Some.end c.in-Ok-Some.field-0-is c.loop.invariant c.in-Ok-Some.ensures.ran

pub returns-in-Ok-Some-clause-ended : goal.returns-in-Ok-Some-clause-ended
returns-in-Ok-Some-clause-ended g c =
    still _ c.in-Ok-Some.field-0 c.in-Ok-Some.end c.in-Ok-Some.field-0-is c.in-Ok-Some.ensures.still

pub returns-in-Err-clause-ran : goal.returns-in-Err-clause-ran
returns-in-Err-clause-ran g c = in_fails _ _ _ _ c.loop.invariant c.in-Err.ensures.ran

pub loop-preserved : goal.loop-preserved
loop-preserved g c = in_goes_on _ _ _ _ c.in-Ok-None.field-0 c.in-Ok-None.field-0-is c.loop.invariant c.in-Ok-None.ensures.ran
