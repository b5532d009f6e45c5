use Rattle.std.proofs.Common.{Some, string_bytes}
use Rattle.std.specs.BTreeMap.{get}
use Rattle.pulsar_broker.specs.Kept.{pair_cmp}
use Rattle.pulsar_broker.proofs.SetKeys.{pair_set}
use Rattle.pulsar_broker.proofs.keys.set_producer.Goals as goal

pub returns : goal.returns
returns c = pair_set string_bytes c.args.link c.args.number (Some c.args.topic) (get pair_cmp c.args.producers.now) (get pair_cmp c.insert.new.self) c.in_ok-insert.ensures.updates.0
