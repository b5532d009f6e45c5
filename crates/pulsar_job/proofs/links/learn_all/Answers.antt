use Rattle.std.proofs.Common.{rules, ◌<◌, length}
use Rattle.pulsar_job.proofs.Goings.{learned, learns-next}
use Rattle.pulsar_job.proofs.links.learn_all.Goals as goal

pub loop-entry-preserved : goal.loop-entry-preserved
loop-entry-preserved c =
    let within : c.loop-entry.entry-index < length c.args.made.now = search rules in
    learns-next c.args.made.now c.loop-entry.entry-index c.entry-item.result _ _ _ within c.entry-item.is c.loop-entry.invariant
    (learned _ _ _ _ c.deref.ensures.value c.in_ok-learn.ensures.knows c.in_ok-learn.ensures.dials c.in_ok-learn.ensures.rest)
