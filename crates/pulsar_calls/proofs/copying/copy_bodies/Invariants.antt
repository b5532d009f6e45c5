use Rattle.std.proofs.Common.{◌≡◌, map, take}
use Rattle.pulsar_wire.specs.Views.{body_values}
use Rattle.pulsar_calls.proofs.copying.copy_bodies.Given as goal

abbrev pub invariant-loop-body : goal.invariant-loop-body
invariant-loop-body l = map body_values l.copy.items ≡ map body_values (take l.body-index l.bodies)
