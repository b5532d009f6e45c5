use Rattle.std.proofs.Common.{rules, refl}
use Rattle.pulsar_cli.proofs.Readings.{new-running}
use Rattle.pulsar_cli.proofs.reading.Reading.new.Goals as goal

pub returns : goal.returns
returns c = λ ps o. new-running ps o _ c.in_ok-choice.ensures refl refl (search rules) (search rules)
