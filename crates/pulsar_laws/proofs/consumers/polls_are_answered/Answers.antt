use Rattle.pulsar_laws.proofs.consumers.Polls.{polls_are_answered_lem}
use Rattle.pulsar_laws.proofs.consumers.polls_are_answered.Goals as goal

pub returns : goal.returns
returns c = λ o log t run. polls_are_answered_lem o log t run
