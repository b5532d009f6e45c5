use Rattle.pulsar_producer.proofs.Telling.{each_has_its_place, each_has_its_report}
use Rattle.pulsar_producer.proofs.laws.each_has_its_place.Goals as goal

pub returns-clause-reports : goal.returns-clause-reports
returns-clause-reports c = each_has_its_report

pub returns-clause-place : goal.returns-clause-place
returns-clause-place c = each_has_its_place
