use Rattle.std.proofs.Common.{◌∙◌, ap, refl}
use Rattle.std.specs.Option.{option_map}
use Rattle.pulsar_shared.specs.Trace.{history}
use Rattle.pulsar_job.proofs.Begun.{begins-at}
use Rattle.pulsar_job.proofs.Jobs.{at-some, match-some, went-begun, went-idle}
use Rattle.pulsar_job.proofs.run.job.Goals as goal

pub returns-in-Ok-Some-clause-went : goal.returns-in-Ok-Some-clause-went
returns-in-Ok-Some-clause-went g c =
    let some = at-some c.in-Ok-Some.field-0 (c.in-Ok-Some.url, c.in-Ok-Some.task) _ c.in-Ok-Some.field-0-is c.in-Ok-Some.ensures.some in
    match-some _ some.0 _ some.1 (went-begun some.0 _ _ _ _ _ _ _ _ _ (begins-at some.0 _ _ _ _ c.deref.ensures some.2) c.perform.ensures)

pub returns-in-Err-clause-went : goal.returns-in-Err-clause-went
returns-in-Err-clause-went g c =
    let stopped = c.in-Err.ensures.stopped in
    match-some _ stopped.0 _ stopped.1
    (went-idle stopped.0 _ c.in-Err.stop _ _ _ _ _ _ (c.idle-in-Err.ensures.status ∙ c.status_of.ensures) (ap (option_map (λ t. (g.C.Machine.given t.client, history t.trace.items))) c.idle-in-Err.ensures.trace) stopped.2 refl)
