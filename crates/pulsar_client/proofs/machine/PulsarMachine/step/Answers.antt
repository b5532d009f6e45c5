use Rattle.pulsar_client.proofs.machine.PulsarMachine.step.Goals as goal

pub returns-clause-ok : goal.returns-clause-ok
returns-clause-ok g c = λ o h s. c.let_go.ensures.stands o _ (s.0, c.in_ok-effects.ensures.ok o h s.0 s.1)
