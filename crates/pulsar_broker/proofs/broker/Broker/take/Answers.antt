use Rattle.pulsar_broker.proofs.Standing.{stands_taken}
use Rattle.pulsar_broker.proofs.broker.Broker.take.Goals as goal

pub returns-clause-ok : goal.returns-clause-ok
returns-clause-ok c url h stands = stands_taken url h c.args.self.now c.take.new.self c.args.link stands c.take.ensures.left
