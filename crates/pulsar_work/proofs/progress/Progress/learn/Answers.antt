use Rattle.std.proofs.Common.{rules, ◌<◌, ◌≤◌, length}
use Rattle.pulsar_work.proofs.Learning.{dials-next, knows-all, knows-next}
use Rattle.pulsar_work.proofs.progress.Progress.learn.Goals as goal

pub loop-effect-preserved : goal.loop-effect-preserved
loop-effect-preserved c =
    let within : c.loop-effect.effect-index < length c.args.effects.now = search rules in
    record {
      knows = λ es acked k. knows-next _ es acked c.args.effects.now c.loop-effect.effect-index c.effect-item.result within c.effect-item.is
          (c.in_ok-learn_one.ensures.knows _ acked (c.loop-effect.invariant.knows es acked k));
      dials = dials-next _ _ _ c.args.effects.now c.loop-effect.effect-index c.effect-item.result within c.effect-item.is c.loop-effect.invariant.dials c.in_ok-learn_one.ensures.dials;
      ended = search rules;
      stopped = search rules;
      before = search rules;
    }

pub returns-clause-knows : goal.returns-clause-knows
returns-clause-knows c = λ es acked k.
    let end : length c.args.effects.now ≤ c.loop-effect.effect-index = search rules in
    knows-all _ es acked c.args.effects.now c.loop-effect.effect-index end (c.loop-effect.invariant.knows es acked k)
