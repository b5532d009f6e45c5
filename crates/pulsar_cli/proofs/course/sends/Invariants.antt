use Rattle.std.proofs.Common.{[], ℕ}
use Rattle.pulsar_cli.specs.Demo.{Sends}
use Rattle.pulsar_cli.specs.Played.{Leads}
use Rattle.pulsar_cli.specs.Script.{defaults}
use Rattle.pulsar_cli.proofs.course.sends.Given as goal

abbrev pub invariant-loop-place : goal.invariant-loop-place
invariant-loop-place g l =
    (all : ℕ) → Leads (Sends l.seed l.place) (g.M.Machine.stands (defaults []) l.fn.client) (g.M.Machine.stands (defaults []) l.client) l.seed all l.fn.play l.play
