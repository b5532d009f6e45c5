use Rattle.std.proofs.Common.{Some}
use Rattle.std.specs.BTreeMap.{get}
use Rattle.pulsar_broker.specs.Kept.{pair_cmp}
use Rattle.pulsar_broker.proofs.SetKeys.{pair_put}
use Rattle.pulsar_broker.proofs.keys.set_seat.Goals as goal

pub returns : goal.returns
returns c = pair_put c.args.link c.args.number (Some c.args.seat) (get pair_cmp c.args.seat_of.now) (get pair_cmp c.insert.new.self) c.in_ok-insert.ensures.updates.0
