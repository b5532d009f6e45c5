use Rattle.std.proofs.Common.{refl}
use Rattle.pulsar_broker.proofs.Standing.{stands_ended}
use Rattle.pulsar_broker.proofs.broker.Broker.end.Goals as goal

pub returns-clause-ok : goal.returns-clause-ok
returns-clause-ok c url h stands =
    let old = c.args.self.now in
    stands_ended url h old (record old { readings = c.remove.new.self; outbox = c.take.new.self; tables = c.end.new.self }) c.args.link stands refl refl
    c.remove.ensures.updates.0 c.take.ensures.left c.end.ensures.after c.end.ensures.kept
