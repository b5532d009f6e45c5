use Rattle.pulsar_frame.proofs.Histories.{cut-fed, left-fed, bad-fed}
use Rattle.pulsar_frame.proofs.laws.gives_the_messages_fed.Goals as goal

pub returns : goal.returns
returns c = λ acts held run. (cut-fed acts held run, left-fed acts held run, bad-fed acts held run)
