use Rattle.std.proofs.Common.{◌≡◌, ◌∙◌, refl, arith, length}
use Rattle.pulsar_pumps.proofs.Ran.{fits_rest, grow_step, grows_from, put_all, put_at}
use Rattle.pulsar_pumps.proofs.rounds.put_bytes.Goals as goal

pub returns-then-n-eq0-clause-err : goal.returns-then-n-eq0-clause-err
returns-then-n-eq0-clause-err g c =
    let grown = c.put.ensures.grows in
    put_at (g.O.Output.taken c.args.output.now) (g.O.Output.taken c.put.new.self) (g.O.Output.faults c.args.output.now) (g.O.Output.faults c.put.new.self) c.args.bytes.now _
    (grow_step _ _ _ c.args.bytes.now c.loop-at.at c.in-Ok.n c.loop-at.invariant.grows c.in-Ok.ensures.taken) (omega (arith, c.loop-at.invariant.faults, grown))

pub loop-at-preserved : goal.loop-at-preserved
loop-at-preserved g c =
    let grown = c.put.ensures.grows in
    record {
      within = fits_rest c.args.bytes.now c.loop-at.at c.in-Ok.n c.loop-at.invariant.within c.in-Ok.ensures.within;
      grows = grow_step _ _ _ c.args.bytes.now c.loop-at.at c.in-Ok.n c.loop-at.invariant.grows c.in-Ok.ensures.taken;
      faults = omega (arith, c.loop-at.invariant.faults, grown);
      stays = c.put.ensures.stays ∙ c.loop-at.invariant.stays;
    }

pub returns-in-Err-clause-err : goal.returns-in-Err-clause-err
returns-in-Err-clause-err g c =
    let grown = c.put.ensures.grows in
    put_at (g.O.Output.taken c.args.output.now) (g.O.Output.taken c.put.new.self) (g.O.Output.faults c.args.output.now) (g.O.Output.faults c.put.new.self) c.args.bytes.now c.loop-at.at
    (grows_from _ _ _ _ _ refl c.in-Err.ensures.kept c.loop-at.invariant.grows) (omega (arith, c.loop-at.invariant.faults, grown))

pub returns-clause-ok : goal.returns-clause-ok
returns-clause-ok g c =
    let whole : c.loop-at.at ≡ length c.args.bytes.now = omega (arith, c.loop-at.invariant.within, c.loop-at-test.false) in
    put_all _ _ _ _ c.args.bytes.now c.loop-at.at whole c.loop-at.invariant.grows c.loop-at.invariant.faults
