use Rattle.pulsar_laws.proofs.told.Askers.{askers_are_told_lem}
use Rattle.pulsar_laws.proofs.told.askers_are_told.Goals as goal

pub returns : goal.returns
returns c = λ o newer older l x seat run rests acts h. askers_are_told_lem o newer older l x seat run rests acts h
