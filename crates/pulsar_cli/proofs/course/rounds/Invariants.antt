use Rattle.std.proofs.Common.{[], ℕ}
use Rattle.pulsar_cli.specs.Demo.{Rounds}
use Rattle.pulsar_cli.specs.Played.{Leads}
use Rattle.pulsar_cli.specs.Script.{defaults}
use Rattle.pulsar_cli.proofs.course.rounds.Given as goal

abbrev pub invariant-loop-made : goal.invariant-loop-made
invariant-loop-made g l =
    (seed all : ℕ) → Leads (Rounds l.consumer l._made) (g.M.Machine.stands (defaults []) l.fn.client) (g.M.Machine.stands (defaults []) l.client) seed all l.fn.play l.play
