use Rattle.pulsar_job.proofs.Jobs.{completes}
use Rattle.pulsar_job.proofs.laws.completes.Goals as goal

pub returns : goal.returns
returns g c = completes g.C.Machine.good
