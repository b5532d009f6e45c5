use Rattle.pulsar_run.proofs.Things.{things_alone_lem}
use Rattle.pulsar_run.proofs.laws.things_alone.Goals as goal

pub returns : goal.returns
returns g c = λ r t keeps o log k s h. things_alone_lem r t keeps o log k s h
