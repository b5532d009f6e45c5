use Rattle.std.proofs.Common.{refl}
use Rattle.pulsar_laws.proofs.runs.served_by_ticket.Goals as goal

pub returns : goal.returns
returns c = refl
