use Rattle.pulsar_laws.proofs.calls.Once.{ends_once_lem}
use Rattle.pulsar_laws.proofs.consumers.Polls.{polls_follow_lem}
use Rattle.pulsar_laws.proofs.consumers.polls_follow.Goals as goal

pub returns : goal.returns
returns c = λ o log t m run is. polls_follow_lem ends_once_lem o log t m run is
