use Rattle.std.proofs.Common.{◌≡◌, [], map, take}
use Rattle.pulsar_calls.specs.Content.{shown}
use Rattle.pulsar_work.specs.Report.{errors_of}
use Rattle.pulsar_work.proofs.printing.first_in.Given as goal

abbrev pub invariant-loop-effect : goal.invariant-loop-effect
invariant-loop-effect l = errors_of (map shown (take l.effect-index l.effects)) ≡ []
