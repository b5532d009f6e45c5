use Rattle.std.proofs.Common.{◌≡◌, take}
use Rattle.pulsar_outgoing.specs.Batch.{reports}
use Rattle.pulsar_outgoing.proofs.batch.reports.Given as goal

abbrev pub invariant-loop-index : goal.invariant-loop-index
invariant-loop-index l = l.all.items ≡ reports l.count l.fate (take l.index l.members)
