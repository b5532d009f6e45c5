use Rattle.std.proofs.Common.{refl}
use Rattle.pulsar_work.proofs.Learning.{fails}
use Rattle.pulsar_work.proofs.progress.Progress.fail.Goals as goal

pub returns-clause-knows : goal.returns-clause-knows
returns-clause-knows c = λ es acked x f error item ack k. fails c.args.self.now _ es acked x f refl refl refl refl refl refl error item ack k
