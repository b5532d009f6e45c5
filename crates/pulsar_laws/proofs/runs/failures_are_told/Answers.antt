use Rattle.pulsar_laws.proofs.calls.Caused.{outcomes_are_caused_lem}
use Rattle.pulsar_laws.proofs.plans.Failures.{failures_are_told_lem}
use Rattle.pulsar_laws.proofs.runs.failures_are_told.Goals as goal

pub returns : goal.returns
returns c = λ o log w p m f run rests is i. failures_are_told_lem outcomes_are_caused_lem o log w p m f run rests is i
