-- Serves the code's contracts alone: taking the fields of bytes, one after the other.
use Rattle.std.specs.Prelude.{ℕ, List, Option}
use Rattle.pulsar_wire.specs.Field.{◌>>=◌, Field, fields}
use Rattle.pulsar_wire.specs.Merge.{steps}

-- what the fields of bytes leave, each taken by a step
unfoldable pub run : {X : Type 0} → (X → Field → Option X) → X → List ℕ → Option X
run step x bytes = fields bytes >>= λ fs. steps step x fs
