use Rattle.pulsar_script.proofs.ReadBack.{reads-back}
use Rattle.pulsar_script.proofs.laws.reads_back.Goals as goal

pub returns : goal.returns
returns c = reads-back
