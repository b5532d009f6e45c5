use Rattle.std.proofs.Common.{None}
use Rattle.std.specs.BTreeMap.{get}
use Rattle.pulsar_broker.specs.Kept.{pair_cmp}
use Rattle.pulsar_broker.proofs.SetKeys.{pair_put}
use Rattle.pulsar_broker.proofs.keys.drop_seat.Goals as goal

pub returns-clause-left : goal.returns-clause-left
returns-clause-left c = pair_put c.args.link c.args.number None (get pair_cmp c.args.seat_of.now) (get pair_cmp c.remove.new.self) c.remove.ensures.updates.0
