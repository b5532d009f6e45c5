use Rattle.pulsar_cli.proofs.Completes.{decides}
use Rattle.pulsar_cli.proofs.laws.decides.Goals as goal

pub returns : goal.returns
returns c = decides
