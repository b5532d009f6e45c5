use Rattle.std.proofs.Common.{◌≡◌, ◌-◌, ◌++◌, string_bytes}
use Rattle.pulsar_incoming.specs.Naming.{letters}
use Rattle.pulsar_incoming.proofs.naming.draw.Given as goal

abbrev pub invariant-loop : goal.invariant-loop
invariant-loop l = string_bytes l.name ++ letters (8 - l.counter) l.stream ≡ string_bytes l.initial.name ++ letters 8 l.initial.stream
