use Rattle.std.proofs.Common.{◌≡◌, [], take}
use Rattle.pulsar_work.specs.Report.{errors_of, shown_in}
use Rattle.pulsar_work.proofs.printing.first_error.Given as goal

abbrev pub invariant-loop-entry : goal.invariant-loop-entry
invariant-loop-entry l = errors_of (shown_in (take l.entry-index l.trace)) ≡ []
