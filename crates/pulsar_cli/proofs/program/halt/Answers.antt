use Rattle.std.proofs.Common.{subst}
use Rattle.pulsar_cli.specs.Shown.{Halts}
use Rattle.pulsar_cli.proofs.Prints.{printed-faultless}
use Rattle.pulsar_cli.proofs.Sinks.{rose-from}
use Rattle.pulsar_cli.proofs.program.halt.Goals as goal

pub returns-in-Refused-clause-runs : goal.returns-in-Refused-clause-runs
returns-in-Refused-clause-runs g c = λ ps old bytes faults le halts.
    let refusing = subst (λ s. Halts ps s c.args.reading.now old (g.K.Sink.holds c.args.sink.now) bytes) c.in-Refused.is halts in
    printed-faultless (λ faultless rose. faultless (rose-from faults _ _ le rose)) (c.refused.ensures.runs ps old bytes refusing)
