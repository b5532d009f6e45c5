use Rattle.pulsar_work.specs.Asking.{work_in}
use Rattle.pulsar_job.proofs.Turning.{on-ok}
use Rattle.pulsar_job.proofs.turns.call_next.Goals as goal

pub returns : goal.returns
returns g c = on-ok c.make.result _ _ (λ made going. made (work_in c.args.task.now) c.in_ok-next.ensures going) c.make.ensures
