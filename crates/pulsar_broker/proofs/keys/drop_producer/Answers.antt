use Rattle.std.proofs.Common.{None, string_bytes}
use Rattle.std.specs.BTreeMap.{get}
use Rattle.pulsar_broker.specs.Kept.{pair_cmp}
use Rattle.pulsar_broker.proofs.SetKeys.{pair_set}
use Rattle.pulsar_broker.proofs.keys.drop_producer.Goals as goal

pub returns : goal.returns
returns c = pair_set string_bytes c.args.link c.args.number None (get pair_cmp c.args.producers.now) (get pair_cmp c.remove.new.self) c.remove.ensures.updates.0
