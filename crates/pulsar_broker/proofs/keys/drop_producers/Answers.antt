use Rattle.std.proofs.Common.{◌∙◌, None, string_bytes}
use Rattle.std.specs.BTreeMap.{get}
use Rattle.pulsar_broker.specs.Kept.{pair_cmp, producers_in}
use Rattle.pulsar_broker.proofs.Leaving.{without_set}
use Rattle.pulsar_broker.proofs.SetKeys.{pair_set}
use Rattle.pulsar_broker.proofs.keys.drop_producers.Goals as goal

pub loop-number-preserved : goal.loop-number-preserved
loop-number-preserved c = record {
  others = λ k n.
      without_set c.args.link c.in-Some.number None (producers_in c.loop-number.producers) (producers_in c.remove.new.self)
      (pair_set string_bytes c.args.link c.in-Some.number None (get pair_cmp c.loop-number.producers) (get pair_cmp c.remove.new.self) c.remove.ensures.updates.0) k n
      ∙ c.loop-number.invariant.others k n;
}
