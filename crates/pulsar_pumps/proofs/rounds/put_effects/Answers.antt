use Rattle.std.proofs.Common.{◌≡◌, ◌∙◌, ap, refl, arith, length, []}
use Rattle.std.specs.Prelude.{Some, None}
use Rattle.pulsar_pumps.proofs.Ran.{grows_from, grows_none}
use Rattle.pulsar_pumps.proofs.Putting.{grew, put_failed, put_grows, put_whole, writes_whole, wrote, wrote_none}
use Rattle.pulsar_pumps.proofs.rounds.put_effects.Goals as goal
use Rattle.pulsar_pumps.proofs.rounds.put_effects.Goals.{in-Some+in-Ok, in-None}

pub returns-then-any-clause-puts : goal.returns-then-any-clause-puts
returns-then-any-clause-puts g c =
    let whole : c.loop-effect.effect-index ≡ length c.args.effects.now = omega (arith, c.loop-effect.auto.effect-index-end, c.loop-effect-test.false) in (
      [],
      put_whole _ _ _ _ c.args.effects.now c.loop-effect.effect-index whole c.loop-effect.invariant.grows c.loop-effect.invariant.faults,
      (refl, writes_whole c.args.effects.now c.loop-effect.effect-index c.loop-effect.any _ whole c.loop-effect.invariant.any c.if-any.true),
    )

pub returns-else-any-clause-puts : goal.returns-else-any-clause-puts
returns-else-any-clause-puts g c =
    let whole : c.loop-effect.effect-index ≡ length c.args.effects.now = omega (arith, c.loop-effect.auto.effect-index-end, c.loop-effect-test.false) in (
      [],
      put_whole _ _ _ _ c.args.effects.now c.loop-effect.effect-index whole c.loop-effect.invariant.grows c.loop-effect.invariant.faults,
      (refl, writes_whole c.args.effects.now c.loop-effect.effect-index c.loop-effect.any _ whole c.loop-effect.invariant.any c.if-any.false),
    )

pub returns-in-Err-clause-puts : goal.returns-in-Err-clause-puts
returns-in-Err-clause-puts g c =
    put_failed c.args.effects.now c.loop-effect.effect-index c.effect-item.result c.loop-effect-test.true c.effect-item.is (Some c.in-Some.bytes.now) c.in-Some.ensures
    _ _ _ _ _ _ c.loop-effect.invariant.grows c.loop-effect.invariant.faults c.in-Err.ensures.err c.in-Err.ensures.rises

pub loop-effect-preserved : goal.loop-effect-preserved
loop-effect-preserved g c = elim c.match-to_write.branch [
  | in-Some+in-Ok w ↦
      (let puts = w.in-Ok.ensures.ok in
      let same = ap g.O.Output.faults w.output-is in
      record {
        any = wrote c.args.effects.now c.loop-effect.effect-index c.effect-item.result c.loop-effect-test.true c.effect-item.is (Some w.in-Some.bytes.now) w.in-Some.ensures _ refl w.any-is;
        grows =
            grows_from _ _ _ _ _ refl (ap g.O.Output.taken w.output-is)
            (grew c.args.effects.now c.loop-effect.effect-index c.effect-item.result c.loop-effect-test.true c.effect-item.is (Some w.in-Some.bytes.now) w.in-Some.ensures
            _ _ _ c.loop-effect.invariant.grows (put_grows _ _ _ _ _ puts));
        faults = omega (arith, c.loop-effect.invariant.faults, puts.faults, same);
        stays = ap g.O.Output.is_shut w.output-is ∙ (w.in-Ok.ensures.stays ∙ c.loop-effect.invariant.stays);
      })
  | in-None w ↦
      (let same = ap g.O.Output.faults w.output-is in
      record {
        any = wrote_none c.args.effects.now c.loop-effect.effect-index c.effect-item.result c.loop-effect-test.true c.effect-item.is None w.in-None.ensures _ _ refl w.any-is c.loop-effect.invariant.any;
        grows =
            grows_from _ _ _ _ _ refl (ap g.O.Output.taken w.output-is)
            (grew c.args.effects.now c.loop-effect.effect-index c.effect-item.result c.loop-effect-test.true c.effect-item.is None w.in-None.ensures
            _ _ _ c.loop-effect.invariant.grows (grows_none _ _ refl));
        faults = omega (arith, c.loop-effect.invariant.faults, same);
        stays = ap g.O.Output.is_shut w.output-is ∙ c.loop-effect.invariant.stays;
      })
]
