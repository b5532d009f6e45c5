use Rattle.pulsar_script.proofs.ReadBack.{sets-read-back}
use Rattle.pulsar_script.proofs.laws.sets_read_back.Goals as goal

pub returns : goal.returns
returns c = sets-read-back
