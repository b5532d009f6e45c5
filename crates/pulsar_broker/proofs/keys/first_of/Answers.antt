use Rattle.std.proofs.Common.{subst}
use Rattle.std.specs.BTreeMap.Range.{IsRangeOf}
use Rattle.std.specs.declared.ops.Bound.TheVariants.{Included, Unbounded}
use Rattle.pulsar_broker.specs.Kept.{pair_cmp}
use Rattle.pulsar_broker.proofs.SetKeys.{none_there, nothing_there}
use Rattle.pulsar_broker.proofs.keys.first_of.Goals as goal

pub returns-in_default-clause-none : goal.returns-in_default-clause-none
returns-in_default-clause-none g c n =
    none_there c.args.map.now c.args.link n c.in-Some.key.now c.in-Some.field-0-1.now _
    (subst (IsRangeOf pair_cmp (Included (c.args.link, 0)) Unbounded c.args.map.now) c.in-Some.ensures.steps (c.range.ensures.in_range tt)) c.if-key-link.false

pub returns-in_default-2-clause-none : goal.returns-in_default-2-clause-none
returns-in_default-2-clause-none g c n =
    nothing_there c.args.map.now c.args.link n c.range.result (c.range.ensures.in_range tt) (rw c.in_default.is at c.next.ensures.steps).0
