use Rattle.pulsar_laws.proofs.calls.Idlers.{gather_told}
use Rattle.pulsar_laws.proofs.calls.Reported.{parts_are_reported_from}
use Rattle.pulsar_laws.proofs.producers.parts_are_reported.Goals as goal

pub returns : goal.returns
returns c = λ o log t first count said run rests h ans. parts_are_reported_from gather_told o log t first count said run rests h ans
