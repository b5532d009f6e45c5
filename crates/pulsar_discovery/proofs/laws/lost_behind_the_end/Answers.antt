use Rattle.std.proofs.Common.{ap}
use Rattle.pulsar_discovery.specs.Machine.{stands, step_of, turns}
use Rattle.pulsar_discovery.proofs.laws.lost_behind_the_end.Goals as goal

pub returns : goal.returns
returns c = λ w p o outcomes e. (ap (λ s. step_of (turns w s o)) e, ap (λ s. stands (turns w s o)) e)
