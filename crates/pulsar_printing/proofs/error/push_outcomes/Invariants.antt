use Rattle.std.proofs.Common.{◌≡◌, ◌++◌, ◌∷◌, take, length}
use Rattle.std.specs.Prelude.{string_bytes}
use Rattle.std.specs.Fmt.{decimal}
use Rattle.pulsar_wire.specs.Failures.{sent}
use Rattle.pulsar_printing.specs.ErrorText.{outcomes}
use Rattle.pulsar_printing.proofs.error.push_outcomes.Given as goal

abbrev pub invariant-loop-outcome : goal.invariant-loop-outcome
invariant-loop-outcome l = string_bytes l.out ≡ string_bytes l.fn.out ++ ((32 ∷ decimal (length l.sent)) ++ outcomes (sent (take l.outcome-index l.sent)))
