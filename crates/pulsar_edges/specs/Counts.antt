-- For the code's contracts alone: what an edge has counted.
use Rattle.std.specs.Prelude.{ℕ}
use Rattle.pulsar_wire.specs.declared.error.IoKind.{IoKind}
use Rattle.pulsar_wire.specs.declared.error.IoKind.TheVariants as kind
use Rattle.pulsar_edges.specs.declared.counts.Failures.{Failures}

-- how many dials failed with this kind
abbrev pub failures_of : Failures → IoKind → ℕ
failures_of f kind.ConnectionRefused = f.refused
failures_of f kind.TimedOut = f.timed_out
failures_of f kind.Other = f.other
