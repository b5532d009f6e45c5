use Rattle.std.proofs.Common.{◌∙◌}
use Rattle.pulsar_outgoing.proofs.Entries.{reports_next}
use Rattle.pulsar_outgoing.proofs.batch.reports.Goals as goal

pub loop-index-preserved : goal.loop-index-preserved
loop-index-preserved c =
    c.in_ok-push_back.ensures.items
    ∙ reports_next c.loop-index.index c.args.count c.args.fate.now c.args.members.now c.loop-index.all.items c.in_ok-report_at.field-0
    c.loop-index-test.true c.loop-index.invariant c.in_ok-report_at.ensures
