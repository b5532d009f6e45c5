use Rattle.std.proofs.Common.{◌≡◌, ◌++◌, length, take}
use Rattle.std.specs.Prelude.{string_bytes}
use Rattle.std.specs.List.{flat_map}
use Rattle.pulsar_printing.specs.Text.{line}
use Rattle.pulsar_work.specs.Report.{lines_told, shown_in}
use Rattle.pulsar_work.proofs.printing.push_trace.Given as goal

abbrev pub invariant-loop-entry : goal.invariant-loop-entry
invariant-loop-entry l = record {
  text : string_bytes l.out ≡ string_bytes l.fn.out ++ flat_map line (lines_told (shown_in (take l.entry-index l.trace)));
  count : l.count ≡ length (lines_told (shown_in (take l.entry-index l.trace)));
}
