use Rattle.pulsar_cli.proofs.Completes.{completes}
use Rattle.pulsar_cli.proofs.laws.completes.Goals as goal

pub returns : goal.returns
returns c = completes
