use Rattle.std.proofs.Common.{◌≡◌, ◌++◌, length, map, take}
use Rattle.std.specs.Prelude.{string_bytes}
use Rattle.std.specs.List.{flat_map}
use Rattle.pulsar_calls.specs.Content.{shown}
use Rattle.pulsar_printing.specs.Text.{line}
use Rattle.pulsar_work.specs.Report.{lines_told}
use Rattle.pulsar_work.proofs.printing.push_effects.Given as goal

abbrev pub invariant-loop-effect : goal.invariant-loop-effect
invariant-loop-effect l = record {
  text : string_bytes l.out ≡ string_bytes l.fn.out ++ flat_map line (lines_told (map shown (take l.effect-index l.effects)));
  count : l.count ≡ length (lines_told (map shown (take l.effect-index l.effects)));
}
