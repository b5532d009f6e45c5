use Rattle.std.proofs.Common.{◌≡◌, ◌++◌, ℕ, List, take}
use Rattle.std.specs.Prelude.{Result}
use Rattle.pulsar_wire.specs.declared.error.Error.{Error}
use Rattle.pulsar_wire.specs.Failures.{sent}
use Rattle.pulsar_outgoing.proofs.copying.+copies.Given as goal

abbrev pub invariant-copy_partial-loop-one : goal.invariant-copy_partial-loop-one
invariant-copy_partial-loop-one l = (more : List (Result ℕ Error)) → sent (l.copy.items ++ more) ≡ sent (take l.one-index l.all ++ more)
