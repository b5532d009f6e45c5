use Rattle.std.proofs.Common.{sym, ap, ◌∙◌}
use Rattle.pulsar_frame.specs.Checksum.{after}
use Rattle.pulsar_frame.specs.Residue.{residue}
use Rattle.pulsar_frame.proofs.Folding.{residue-zeros, after-cut}
use Rattle.pulsar_frame.proofs.checksum.folding.after_folds.Goals as goal

pub loop-block-init : goal.loop-block-init
loop-block-init c =
    ap (λ s. after s c.args.rest.now) (sym c.fold.ensures ∙ ap (λ s. after s c.put_state.new.block) residue-zeros ∙ c.put_state.ensures)

pub loop-block-preserved : goal.loop-block-preserved
loop-block-preserved c =
    let cut = c.in-Some.ensures.cases in
    ap (λ s. after s c.in-Some.behind.now) (sym c.fold-in-Some.ensures)
    ∙ after-cut (residue c.loop-block.window) 1024 c.loop-block.rest.now c.in-Some.block.now c.in-Some.behind.now cut.0 cut.1 ∙ c.loop-block.invariant
