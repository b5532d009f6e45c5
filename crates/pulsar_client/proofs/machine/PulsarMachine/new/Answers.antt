use Rattle.std.proofs.Common.{[]}
use Rattle.pulsar_client.proofs.Recorded.{each_ok}
use Rattle.pulsar_client.proofs.machine.PulsarMachine.new.Goals as goal

pub returns : goal.returns
returns g c = each_ok _ _ c.new.result (λ p s. ([], s)) c.new.ensures.stands
