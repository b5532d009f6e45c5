use Rattle.std.proofs.Common.{refl, sym, ap, ◌∙◌, ◌≡◌, arith}
use Rattle.std.proofs.lemmas.List.{take_all}
use Rattle.pulsar_frame.specs.Checksum.{after}
use Rattle.pulsar_frame.specs.Residue.{residue}
use Rattle.pulsar_frame.proofs.Folding.{window_more, residue-moved}
use Rattle.pulsar_frame.proofs.checksum.folding.fold.Goals as goal

pub loop-i-init : goal.loop-i-init
loop-i-init c = record { long = c.told-window; fits = c.fits-window; holds = refl }

pub loop-i-preserved : goal.loop-i-preserved
loop-i-preserved c =
    window_more c.loop-i.window c.loop-i.i c.args.block.now (residue c.args.window.now) c.loop-i-test.true c.told-block (c.fits-block c.loop-i.i) c.loop-i.invariant

pub returns : goal.returns
returns c =
    let end : c.loop-i.i ≡ 1024 = omega arith in
    let folded = rw end at c.loop-i.invariant in
    ap (after (residue c.args.window.now)) (sym (take_all 1024 c.args.block.now (omega (arith, c.told-block))))
    ∙ folded.holds ∙ sym (ap residue c.copy_within.ensures.after ∙ residue-moved c.loop-i.window folded.long)
