use Rattle.std.proofs.Common.{refl}
use Rattle.pulsar_work.proofs.Learning.{calls, on-ok}
use Rattle.pulsar_work.proofs.progress.Progress.call.Goals as goal

pub returns-clause-knows : goal.returns-clause-knows
returns-clause-knows c = λ es acked k. calls c.args.self.now _ es acked c.in_ok-push.ensures.items refl refl refl refl refl k
