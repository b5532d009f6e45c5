use Rattle.std.proofs.Common.{◌∙◌}
use Rattle.pulsar_frame.proofs.Folding.{after-cut}
use Rattle.pulsar_frame.proofs.checksum.folding.after_all.Goals as goal

pub returns : goal.returns
returns c =
    let cut = c.in-Some.ensures.cases in
    c.after_folds.ensures ∙ after-cut c.args.state 1024 c.args.bytes.now c.in-Some.first.now c.in-Some.rest.now cut.0 cut.1
