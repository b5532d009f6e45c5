use Rattle.std.proofs.Common.{◌≡◌, map, take}
use Rattle.pulsar_outgoing.specs.Batch.{cut_report}
use Rattle.pulsar_outgoing.proofs.batch.cut_reports.Given as goal

abbrev pub invariant-loop-member : goal.invariant-loop-member
invariant-loop-member l = l.all.items ≡ map cut_report (take l.member-index l.members)
