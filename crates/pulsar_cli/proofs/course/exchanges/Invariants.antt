use Rattle.std.proofs.Common.{[], ℕ, List, Bool}
use Rattle.pulsar_calls.specs.Steps.{Step}
use Rattle.pulsar_cli.specs.Demo.{Busy}
use Rattle.pulsar_cli.specs.Played.{Leads}
use Rattle.pulsar_cli.specs.Script.{defaults}
use Rattle.pulsar_cli.proofs.course.exchanges.Given as goal

abbrev pub invariant-loop-made : goal.invariant-loop-made
invariant-loop-made g l =
    (seed count : ℕ) → Leads (Busy l._made) (g.M.Machine.stands (defaults []) l.fn.client) (g.M.Machine.stands (defaults []) l.client) seed count l.fn.play l.play
