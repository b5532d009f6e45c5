use Rattle.std.proofs.Common.{refl}
use Rattle.pulsar_work.proofs.Learning.{grows, stays-over}
use Rattle.pulsar_work.proofs.progress.Progress.dial.Goals as goal

pub returns-clause-knows : goal.returns-clause-knows
returns-clause-knows c = λ es acked k.
    grows c.args.self.now _ es acked _ (λ t. refl) (record { ended = refl; first_open = refl; failed = refl; given = refl; owed = refl }) refl refl refl (λ h. stays-over c.args.self.now es acked _ k h) k
